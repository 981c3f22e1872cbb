-- Laws of what the code writes: the message cut at its TSIG, and digests with their lengths. Assumes nothing.
use Prim.Native.Nat.{ℕ, ◌+◌, ◌-◌, ◌≤◌}
use mathlib.Core.Path.{◌≡◌, refl, ap, ◌∙◌}
use mathlib.Core.List.{List, ◌++◌, append_assoc}
use native.Mathlib.Omega.{arith}
use lib.ListN.{length, take, drop}
use lib.Seq.{take-add, drop_at, length-take-le}
use Rattle.model.specs.Octets.{be16, be48, u16_at, part}
use Rattle.model.specs.Signing.{variables, with_id, request_digest, reply_digest, removed}
use Rattle.model.specs.Received.{stamp_in, later_digest}
use Rattle.octets.proofs.Laws.{part_length}
use Rattle.records.specs.Record.{cut}
use Rattle.digests.specs.declared.TsigNumbers.{TsigNumbers}
use Rattle.digests.specs.Stamps.{stamp_of}
use Rattle.digests.proofs.Laws.{later_octets, request_length, reply_length, later_length}
use Rattle.unsigning.specs.declared.TsigRead.{TsigRead}
use Rattle.unsigning.specs.Unsigning.{tsig_at, TsigStands}
use Rattle.unsigning.proofs.Removing.{removed_length}
use Rattle.receiving.specs.Receiving.{numbers_in}

-- ── The message without its TSIG ────────────────────────────────────────────────────────────────────────────────────

module _ (m : List ℕ) (t : TsigRead) (s : TsigStands m t) where
  pub cut_octets : (id : ℕ) → be16 id ++ (part m 2 8 ++ (be16 (u16_at m 10 - 1) ++ part m 12 (t.place - 12))) ≡ with_id id (removed m)
  unfolding with_id removed part
  cut_octets id =
      let l = s.last in
      let h : take 10 m ≡ take 2 m ++ take 8 (drop 2 m) = take-add 2 8 m in
      let two : length (take 2 m) ≡ 2 = length-take-le 2 m (omega (arith, l.after, l.within)) in
      let x = be16 (u16_at m 10 - 1) ++ take (t.place - 12) (drop 12 m) in
      let d : drop 2 ((take 2 m ++ take 8 (drop 2 m)) ++ x) ≡ take 8 (drop 2 m) ++ x =
      ap (drop 2) (append_assoc (take 2 m) (take 8 (drop 2 m)) x) ∙ drop_at (take 2 m) (take 8 (drop 2 m) ++ x) 2 two in
      rw (l.begins, h, d) refl

  -- ── Digests ──

  module _ (numbers : TsigNumbers) (e : numbers ≡ numbers_in t.fields) where
    pub digest_is : (name hash rest : List ℕ) → hash ≡ cut m t.fields.algorithm → rest ≡ cut m t.fields.other
        → with_id t.fields.id (removed m) ++ variables name (stamp_of numbers hash (cut m t.fields.mac) rest) ≡ request_digest (removed m) name (stamp_in (tsig_at m t))
    unfolding request_digest
    digest_is name hash rest h o = rw (e, h, o) refl

    pub later_is : (prior before : List ℕ)
        → (be16 (length prior) ++ (prior ++ before)) ++ (with_id t.fields.id (removed m) ++ (be48 numbers.signed ++ be16 numbers.fudge))
        ≡ later_digest prior before (removed m) (stamp_in (tsig_at m t))
    later_is prior before = rw e (later_octets (stamp_in (tsig_at m t)) prior before (removed m) _ refl)

  hash_size : length (cut m t.fields.algorithm) ≡ t.fields.algorithm.size
  hash_size = part_length m t.fields.algorithm.from t.fields.algorithm.size s.fits.algorithm

  rest_size : length (cut m t.fields.other) ≡ t.fields.other.size
  rest_size = part_length m t.fields.other.from t.fields.other.size s.fits.other

  long : 12 ≤ length (removed m)
  long = let r = removed_length m t.place s.last in omega (arith, r, s.last.after)

  pub request_size : (name : List ℕ) → length (request_digest (removed m) name (stamp_in (tsig_at m t)))
      ≡ t.place + length name + t.fields.algorithm.size + 18 + t.fields.other.size
  request_size name =
      let r = removed_length m t.place s.last in
      let n = request_length (removed m) name (stamp_in (tsig_at m t)) long in
      omega (arith, r, n, hash_size, rest_size)

  pub reply_size : (mac name : List ℕ) → length (reply_digest mac (removed m) name (stamp_in (tsig_at m t)))
      ≡ length mac + t.place + length name + t.fields.algorithm.size + 20 + t.fields.other.size
  reply_size mac name =
      let r = removed_length m t.place s.last in
      let n = reply_length (removed m) name (stamp_in (tsig_at m t)) long mac in
      omega (arith, r, n, hash_size, rest_size)

  pub later_size : (prior before : List ℕ) → length (later_digest prior before (removed m) (stamp_in (tsig_at m t))) ≡ length prior + length before + t.place + 10
  later_size prior before =
      let r = removed_length m t.place s.last in
      let n = later_length (removed m) prior (stamp_in (tsig_at m t)) long prior before in
      omega (arith, r, n)
