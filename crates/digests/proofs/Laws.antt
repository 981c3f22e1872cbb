-- Names in canonical form, octet by octet, and the pieces that the code writes, joined as the crate model has them. Assumes nothing.
use Prim.Native.Nat.{ℕ, ◌+◌, ◌-◌, ◌≤◌}
use mathlib.Core.Path.{◌≡◌, refl, ap, ap₂, ◌∙◌}
use mathlib.Core.List.{List, [], ◌∷◌, ◌++◌, map, append_assoc}
use native.Mathlib.Omega.{arith}
use lib.ListN.{length, take, drop, length-drop, length-append}
use lib.Seq.{take_all, drop-drop, drop-append_seam}
use borrow.Rule.Slice.PartMut.{put_mid}
use Rattle.std.specs.Char.{to_ascii_lowercase}
use Rattle.model.specs.Octets.{be16, be32, be48, overlay, part, put}
use Rattle.model.specs.Tsig.{any_class}
use Rattle.model.specs.Signing.{Stamp, canonical, tsig_data, variables, with_id, request_digest, reply_digest}
use Rattle.model.specs.Received.{timers, later_digest}
use Rattle.octets.specs.Wrote.{Wrote}
use Rattle.octets.proofs.Back.{kept_before, from_place, written_part}
use Rattle.names.proofs.Cases.{lowered}

-- ── Canonical form ──────────────────────────────────────────────────────────────────────────────────────────────────

pub canonical_length : (xs : List ℕ) → length (canonical xs) ≡ length xs
unfolding canonical
canonical_length [] = refl
canonical_length (x ∷ xs) = rw (canonical_length xs) refl

canonical_lower : (xs : List ℕ) → map to_ascii_lowercase xs ≡ canonical xs
unfolding canonical
canonical_lower [] = refl
canonical_lower (x ∷ xs) = ap₂ (λ (y : ℕ) (ys : List ℕ). y ∷ ys) (lowered x) (canonical_lower xs)

-- a name that was written, and then put in lower case where it stands
module _ {name b b' : List ℕ} {at next : ℕ} (w : Wrote name at b b' next) where
  stands : take (next - at) (drop at b') ≡ name
  unfolding part
  stands = let k : next - at ≡ length name = omega arith in rw k (written_part w)

  pub canonical_done : (ys : List ℕ) → ys ≡ map to_ascii_lowercase (take (next - at) (drop at b')) → Wrote (canonical name) at b (put_mid at (next - at) b' ys) next
  unfolding overlay put
  canonical_done ys e =
      let k : next - at ≡ length name = omega arith in
      let n = canonical_length name in
      let rest : drop (length name) (drop at b') ≡ drop (length name) (drop at b) =
      ap (drop (length name)) (from_place w) ∙ drop-append_seam name (drop next b) ∙ rw (drop-drop, w.ends) refl in
      let low : ys ≡ canonical name = e ∙ rw stands (canonical_lower name) in
      record { ends = omega (arith, n); room = w.room; left = rw (low, k, n, kept_before w, rest) refl }

-- ── Pieces ──────────────────────────────────────────────────────────────────────────────────────────────────────────

-- the part that is lent as s[n..]
pub to_end : (n : ℕ) (s : List ℕ) → take (length s - n) (drop n s) ≡ drop n s
to_end n s = take_all (length s - n) (drop n s) (rw length-drop (omega arith))

module _ (t : Stamp) where
  pub variables_octets : (name : List ℕ)
      → canonical name
      ++ (be16 255
      ++ (be32 0
      ++ (canonical t.algorithm ++ ((be48 t.signed ++ be16 t.fudge) ++ (be16 t.error ++ (be16 (length t.other) ++ t.other))))))
      ≡ variables name t
  unfolding variables any_class
  variables_octets name = simp append_assoc

  pub data_octets : t.algorithm
      ++ ((be48 t.signed ++ be16 t.fudge)
      ++ (be16 (length t.mac) ++ (t.mac ++ (be16 t.original_id ++ (be16 t.error ++ (be16 (length t.other) ++ t.other))))))
      ≡ tsig_data t
  unfolding tsig_data
  data_octets = simp append_assoc

  pub digest_octets : (m name : List ℕ) → be16 t.original_id ++ (take (length m - 2) (drop 2 m) ++ variables name t) ≡ request_digest m name t
  unfolding request_digest with_id
  digest_octets m name = rw to_end (simp append_assoc)

  -- a later message x of a stream, under its original ID
  pub later_octets : (prior before m x : List ℕ) → x ≡ with_id t.original_id m
      → (be16 (length prior) ++ (prior ++ before)) ++ (x ++ (be48 t.signed ++ be16 t.fudge)) ≡ later_digest prior before m t
  unfolding later_digest timers
  later_octets prior before m x e = rw e (simp append_assoc)

-- ── Lengths ─────────────────────────────────────────────────────────────────────────────────────────────────────────

module _ (m name : List ℕ) (t : Stamp) (from : 12 ≤ length m) where
  pub request_length : length (request_digest m name t) ≡ length m + length name + length t.algorithm + 18 + length t.other
  unfolding request_digest with_id variables be16 be32 be48
  request_length =
      let l₁ = canonical_length name in
      let l₂ = canonical_length t.algorithm in
      simp (length-append, length-drop) (omega arith)

  pub reply_length : (mac : List ℕ) → length (reply_digest mac m name t) ≡ length mac + length m + length name + length t.algorithm + 20 + length t.other
  unfolding reply_digest be16
  reply_length mac = let l = request_length in simp length-append (omega arith)

  pub later_length : (prior before : List ℕ) → length (later_digest prior before m t) ≡ length prior + length before + length m + 10
  unfolding later_digest timers with_id be16 be32 be48
  later_length prior before = simp (length-append, length-drop) (omega arith)
