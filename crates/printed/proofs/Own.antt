-- Our replies to messages with one question are read back, so each is accepted as its own (02, CR 12). Assumes nothing.
use Prim.Native.Nat.{ℕ, ◌+◌, ◌-◌, ◌*◌, ◌/◌, ◌%◌, ◌≤◌}
use mathlib.Core.Path.{◌≡◌, refl, ap, ap₂, sym, ◌∙◌}
use mathlib.Core.Bool.{true}
use mathlib.Core.List.{List, [], ◌∷◌, ◌++◌, append_assoc, append-nil}
use native.Mathlib.Omega.{arith}
use lib.Dec.{ltb}
use lib.ListN.{length, get_or, take, drop}
use lib.Seq.{take-add, drop-drop}
use Rattle.model.specs.Octets.{be16, part, u16_at, Reading, reads, also, many}
use Rattle.model.specs.Names.{read_name, wire_name}
use Rattle.model.specs.Messages.{Question, Message, after_question_name, question_at, message_of, read_message}
use Rattle.model.specs.Replies.{flags, heading, rcode_reply}
use Rattle.model.specs.Compare.{Proper, AllOctets}
use Rattle.model.proofs.CompareRead.{then_read, tested, passed, laid}
use Rattle.model.proofs.CompareBack.{two_octets}
use Rattle.printed.specs.Printed.{Entry, AllRead, all_octets, message_octets}
use Rattle.printed.proofs.Moved.{found}
use Rattle.printed.proofs.Expanded.{first_plain, name_wire}
use Rattle.printed.proofs.Compared.{written_proper}

-- a number of two octets is written as it stood
stood : (m : List ℕ) (p : ℕ) → AllOctets m → p + 2 ≤ length m → part m p 2 ≡ be16 (u16_at m p)
unfolding be16 u16_at
stood m p o h =
    let y = o (p + 1) in
    let h₀ : get_or m p 0 ≡ (get_or m p 0 * 256 + get_or m (p + 1) 0) / 256 = omega arith in
    let h₁ : get_or m (p + 1) 0 ≡ (get_or m p 0 * 256 + get_or m (p + 1) 0) % 256 = omega arith in
    two_octets m p h ∙ ap₂ (λ (a b : ℕ). a ∷ b ∷ []) h₀ h₁

-- The one question of a message, and its octets.
record Asks (x : List ℕ) (q : Question) (end : ℕ) : Type 0 where
  named : wire_name q.name ≡ true
  octets : part x 12 (end - 12) ≡ q.name ++ (be16 q.type ++ be16 q.class)

three_parts : (x : List ℕ) (p n : ℕ) → part x p (n + 4) ≡ part x p n ++ (part x (p + n) 2 ++ part x (p + n + 2) 2)
unfolding part
three_parts x p n =
    take-add n 4 (drop p x)
    ∙ ap (λ (l : List ℕ). take n (drop p x) ++ l) (ap (take 4) (drop-drop n p x) ∙ take-add 2 2 (drop (p + n) x) ∙ ap (λ (l : List ℕ). take 2 (drop (p + n) x) ++ take 2 l) (drop-drop 2 (p + n) x))

asks_by_lem : (x : List ℕ) → AllOctets x → (q : Question) (end : ℕ) (n : List ℕ) (p : ℕ) → read_name x 12 ≡ reads n p → after_question_name x n p ≡ reads q end → Asks x q end
unfolding after_question_name
asks_by_lem x o q end n p here e =
    let asked : Reading Question = reads (record { name = n; type = u16_at x p; class = u16_at x (p + 2) }) (p + 4) in
    let u = tested (ltb (length x) (p + 4)) (length x) asked q end e in
    let fits = passed (length x) (p + 4) (length x) asked q end e in
    let i : q.name ≡ n = cc in
    let t : q.type ≡ u16_at x p = cc in
    let c : q.class ≡ u16_at x (p + 2) = cc in
    let z : p + 4 ≡ end = cc in
    let f = found x n 12 p (sym (first_plain x) ∙ here) in
    let size : end - 12 ≡ length n + 4 = omega (arith, f.ends) in
    record {
      named = rw i (name_wire x 12 n p here);
      octets = rw (size, three_parts x 12 (length n), f.is, sym f.ends, stood x p o (omega arith), stood x (p + 2) o (omega arith), i, t, c) refl;
    }

asks_as : (x : List ℕ) (q : Question) (end : ℕ) (a : Question) (mid : ℕ) → reads (a ∷ []) mid ≡ reads (q ∷ []) end → Asks x a mid → Asks x q end
asks_as x q end a mid e s =
    let i : a ≡ q = cc in
    let z : mid ≡ end = cc in
    rw (sym i, sym z) s

asks_one : (x : List ℕ) → AllOctets x → (n : ℕ) (q : Question) (end : ℕ) → n ≡ 1 → many (question_at x) n 12 ≡ reads (q ∷ []) end → Asks x q end
unfolding many question_at
asks_one x o n q end one e =
    let e₁ : many (question_at x) 1 12 ≡ reads (q ∷ []) end = ap (λ (k : ℕ). many (question_at x) k 12) (sym one) ∙ e in
    let t = then_read (question_at x 12) (λ a next. also (λ rest. a ∷ rest) (reads [] next)) (q ∷ []) end e₁ in
    let u = then_read (read_name x 12) (after_question_name x) t.first t.mid t.here in
    asks_as x q end t.first t.mid t.rest (asks_by_lem x o t.first t.mid u.first u.mid u.here u.rest)

module _ (x : List ℕ) (o : AllOctets x) (m : Message) (end : ℕ) (says : read_message x ≡ reads m end) (q : Question) (one : m.questions ≡ q ∷ []) where
  -- its question is written out, and counted
  asks : (m.asked ≡ 1) × (wire_name q.name ≡ true) × (m.question_octets ≡ q.name ++ (be16 q.type ++ be16 q.class))
  unfolding message_of
  asks =
      let l = laid x m end says in
      let n : u16_at x 4 ≡ 1 = sym l.count₀ ∙ ap length one in
      let a = asks_one x o (u16_at x 4) q l.last n (l.asks ∙ ap (λ (s : List Question). reads s l.last) one) in
      (ap (λ (y : Message). y.asked) l.is ∙ n, a.named, ap (λ (y : Message). y.question_octets) l.is ∙ a.octets)

  module _ (rcode : ℕ) (answers additionals : List Entry) where
    written : heading m rcode (length answers) (length additionals) ++ (all_octets answers ++ all_octets additionals)
        ≡ message_octets m.id (128 + m.opcode * 8 + m.desired) rcode q.name q.type q.class answers additionals
    unfolding heading flags message_octets
    written = rw (asks.0, asks.2) (simp append_assoc)

    -- A heading of ours and records that read are a reply that reads.
    pub reply_proper : AllRead answers → AllRead additionals
        → length (heading m rcode (length answers) (length additionals) ++ (all_octets answers ++ all_octets additionals)) ≤ 65535
        → Proper (heading m rcode (length answers) (length additionals) ++ (all_octets answers ++ all_octets additionals))
    reply_proper ra rb fits =
        rw written
        (written_proper m.id (128 + m.opcode * 8 + m.desired) rcode q.name q.type q.class answers additionals asks.1 ra rb (rw written at fits))

  -- So is each of our replies with an RCODE.
  pub rcode_proper : (rcode : ℕ) → length (rcode_reply m rcode) ≤ 65535 → Proper (rcode_reply m rcode)
  unfolding rcode_reply
  rcode_proper rcode fits = rw (append-nil (heading m rcode 0 0)) at (reply_proper rcode [] [] tt tt (rw (append-nil (heading m rcode 0 0)) fits))
