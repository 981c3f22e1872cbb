-- The inquiries as code makes them: one law for each way out. Assumes nothing.
use Prim.Native.Nat.{ℕ, ◌+◌, ◌-◌, ◌≤◌, ◌<◌, ◌^◌}
use mathlib.Core.Path.{◌≡◌, refl, sym, ap, ◌∙◌}
use mathlib.Core.Bool.{Bool, true, false, ◌&&◌}
use Rattle.std.specs.Prelude.{None, Some}
use mathlib.Core.List.{List, ◌++◌, append-nil}
use native.Mathlib.Omega.{arith}
use lib.Dec.{leb, ltb}
use lib.ListN.{length, length-map, length-append, take, drop_of_length-le}
use lib.Seq.{length-take-le}
use borrow.Author.Tests.{leb-true, ltb-true, le-leb, lt-leb, eq-eqb, ne_eqb}
use Rattle.model.specs.declared.Keys.{Keys}
use Rattle.model.specs.declared.Keys.TheVariants.{Empty, Adopted, Renewing}
use Rattle.model.specs.declared.Pair.{Pair}
use Rattle.model.specs.Octets.{put, overlay}
use Rattle.model.specs.Names.{wire_name, key_name, after_label}
use Rattle.model.specs.Tables.{Table, row_at, suffix_at, pair_at, names_of, row_named, pair_rule, table_rules}
use Rattle.model.specs.Calls.{DONE, TABLE, ROOM, NOPAIR, NOKEY, NAME, number_owner}
use Rattle.model.specs.Inquiries.{tested, unfound, found_in, pair_named, pair_suffixed, pair_of_key, Spelt, unspelt, below_next, spelt_in, key_name_in, key_name_of, unshown, shown_in, pair_shown, adopted_serial, waiting_serial, is_among, unless}
use Rattle.model.proofs.Tests.{left, right}
use Rattle.model.proofs.Rows.{tests, every_member, at_member, row_below}
use Rattle.model.proofs.RuleFacts.{pair_sound}
use Rattle.model.proofs.CallLaws.{number_none, number_some}
use Rattle.octets.specs.Wrote.{Wrote}
use Rattle.store.specs.Layout.{key_words, no_words, keys_words, pair_words}
use Rattle.inquiries.specs.declared.Spelling.{Spelling}
use Rattle.inquiries.specs.Inquired.{Spells}

-- ── The numbers of pairs ────────────────────────────────────────────────────────────────────────────────────────────

names_count : (t : Table) → length (names_of t) ≡ length t.rows
unfolding names_of
names_count t = length-map t.rows (λ r. r.suffix)

pub row_low : (t : Table) (name : List ℕ) (i : ℕ) → row_named (names_of t) name ≡ Some i → i < length t.rows
row_low t name i e = omega (arith, row_below (names_of t) name i e, names_count t)

module _ (t : Table) (pair : ℕ) (b : Bool) (is : b ≡ (leb 1 pair && leb pair (length t.rows))) where
  pub no_row : b ≡ false → number_owner (names_of t) pair ≡ None
  no_row e = number_none (names_of t) pair (rw (names_count t) (sym is ∙ e))

  module _ (e : b ≡ true) where
    pub above_nought : 1 ≤ pair
    above_nought = leb-true _ _ (left (leb 1 pair) (leb pair (length t.rows)) (sym is ∙ e))

    at_most : pair ≤ length t.rows
    at_most = leb-true _ _ (right (leb 1 pair) (leb pair (length t.rows)) (sym is ∙ e))

    pub its_row : number_owner (names_of t) pair ≡ Some (pair - 1)
    its_row = number_some (names_of t) pair (pair - 1) (omega (arith, above_nought)) (omega (arith, at_most, names_count t))

    pub row_in : pair - 1 < length t.rows
    row_in = omega (arith, above_nought, at_most)

-- ── TABLE ───────────────────────────────────────────────────────────────────────────────────────────────────────────

module _ (t : Table) (b : Bool) (is : b ≡ table_rules t) where
  module _ (e : b ≡ false) where
    pub test_broken : tested t ≡ 1
    unfolding tested TABLE
    test_broken = rw (sym is ∙ e) refl

    pub suffix_broken : (name : List ℕ) → pair_suffixed t name ≡ unfound 1
    unfolding pair_suffixed TABLE
    suffix_broken name = rw (sym is ∙ e) refl

    pub key_broken : (name : List ℕ) → pair_of_key t name ≡ unfound 1
    unfolding pair_of_key TABLE
    key_broken name = rw (sym is ∙ e) refl

    pub shown_broken : (pair : ℕ) → pair_shown t pair ≡ unshown 1
    unfolding pair_shown TABLE
    shown_broken pair = rw (sym is ∙ e) refl

    pub spelt_broken : (pair serial room : ℕ) → key_name_of t pair serial room ≡ unspelt 1
    unfolding key_name_of TABLE
    spelt_broken pair serial room = rw (sym is ∙ e) refl

  module _ (e : b ≡ true) where
    pub kept : table_rules t ≡ true
    kept = sym is ∙ e

    pub test_kept : tested t ≡ 0
    unfolding tested DONE
    test_kept = rw (sym is ∙ e) refl

    pub suffix_passes : (name : List ℕ) → pair_suffixed t name ≡ pair_named t name
    unfolding pair_suffixed
    suffix_passes name = rw (sym is ∙ e) refl

    module _ (name : List ℕ) (wire : Bool) (w-is : wire ≡ wire_name name) where
      pub key_unnamed : wire ≡ false → pair_of_key t name ≡ unfound 12
      unfolding pair_of_key NAME
      key_unnamed w = rw (sym is ∙ e, sym w-is ∙ w) refl

      pub key_passes : wire ≡ true → pair_of_key t name ≡ pair_named t (after_label name)
      unfolding pair_of_key
      key_passes w = rw (sym is ∙ e, sym w-is ∙ w) refl

    module _ (pair : ℕ) where
      module _ (n : number_owner (names_of t) pair ≡ None) where
        pub shown_nopair : pair_shown t pair ≡ unshown 9
        unfolding pair_shown NOPAIR
        shown_nopair = rw (sym is ∙ e, n) refl

        pub spelt_nopair : (serial room : ℕ) → key_name_of t pair serial room ≡ unspelt 9
        unfolding key_name_of NOPAIR
        spelt_nopair serial room = rw (sym is ∙ e, n) refl

      module _ (i : ℕ) (n : number_owner (names_of t) pair ≡ Some i) where
        pub shown_done : {p : Pair} → p ≡ pair_at t i → pair_shown t pair ≡ record { number = 0; pair = p }
        unfolding pair_shown shown_in DONE
        shown_done p-is = rw (sym is ∙ e, n, p-is) refl

        pub spelt_passes : (serial room : ℕ) → key_name_of t pair serial room ≡ key_name_in t serial room i
        unfolding key_name_of
        spelt_passes serial room = rw (sym is ∙ e, n) refl

-- ── A pair by a name ────────────────────────────────────────────────────────────────────────────────────────────────

module _ (t : Table) (name : List ℕ) where
  pub named_none : row_named (names_of t) name ≡ None → pair_named t name ≡ unfound 9
  unfolding pair_named NOPAIR
  named_none e = rw e refl

  pub named_row : (i : ℕ) → row_named (names_of t) name ≡ Some i → pair_named t name ≡ record { number = 0; pair = i + 1 }
  unfolding pair_named found_in DONE
  named_row i e = rw e refl

-- ── A key's name ────────────────────────────────────────────────────────────────────────────────────────────────────

-- a refusal leaves the buffer
pub spells_refused : {a : Spelt} (b : List ℕ) (n : ℕ) {r : Spelling} → a ≡ unspelt n → r ≡ record { number = n; length = 0 } → Spells a b b r
unfolding unspelt put
spells_refused b n is e = rw (is, e) (record { number = refl; length = refl; left = refl })

module _ (t : Table) (serial room i : ℕ) (b : Bool) {p : Pair} (p-is : p ≡ pair_at t i) (is : b ≡ below_next p serial) where
  pub never_issued : b ≡ false → key_name_in t serial room i ≡ unspelt 10
  unfolding key_name_in NOKEY
  never_issued e = rw (sym p-is, sym is ∙ e) refl

  module _ (e : b ≡ true) where
    pub issued_passes : key_name_in t serial room i ≡ spelt_in room (key_name serial (suffix_at t i))
    unfolding key_name_in
    issued_passes = rw (sym p-is, sym is ∙ e) refl

    -- a serial that was issued has 32 bits
    pub issued_short : table_rules t ≡ true → i < length t.rows → serial < 2 ^ 32
    unfolding below_next pair_at row_at
    issued_short rules h =
        let low = ltb-true serial p.next_serial (right (leb 1 serial) (ltb serial p.next_serial) (sym is ∙ e)) in
        let rule = every_member (λ x. pair_rule t.clock x.pair) t.rows (tests t rules).1.1.1.1.0 (at_member t.rows i _ h) in
        let last = (pair_sound t.clock (pair_at t i) rule).last in
        let same = ap (λ (p : Pair). p.next_serial) p-is in
        omega (arith, low, last, same)

pub no_room : (room : ℕ) (octets : List ℕ) → room < length octets → spelt_in room octets ≡ unspelt 8
unfolding spelt_in ROOM
no_room room octets h = rw (lt-leb (length octets) room h) refl

pub joined_length : (n : ℕ) (label suffix : List ℕ) → n ≤ length label → {room : ℕ} → room < n + length suffix → room < length (take n label ++ suffix)
joined_length n label suffix h r = rw (length-append (take n label) suffix, length-take-le n label h) r

-- the same octets, however they are put together
pub spells_as : {a b : Spelt} {entry exit : List ℕ} {r : Spelling} → a ≡ b → Spells a entry exit r → Spells b entry exit r
spells_as e s = rw e at s

pub room_for : {octets entry exit : List ℕ} {n : ℕ} → Wrote octets 0 entry exit n → Spells (spelt_in (length entry) octets) entry exit (record { number = 0; length = n })
unfolding spelt_in DONE overlay
room_for {octets} {entry} w = rw (le-leb (length octets) (length entry) (omega (arith, w.ends, w.room))) (record { number = refl; length = omega (arith, w.ends); left = w.left })

-- ── A pair's words ──────────────────────────────────────────────────────────────────────────────────────────────────

-- what fills its buffer is all of it
pub filled : {xs entry exit : List ℕ} {next : ℕ} → Wrote xs 0 entry exit next → length entry ≤ length xs → exit ≡ xs
unfolding overlay put
filled {xs} {entry} w h = w.left ∙ ap (λ (rest : List ℕ). xs ++ rest) (drop_of_length-le entry {i = length xs} h) ∙ append-nil xs

keys_count : (ks : Keys) → length (keys_words ks) ≡ 11
unfolding keys_words key_words no_words
keys_count Empty = refl
keys_count (Adopted a) = refl
keys_count (Renewing a w) = refl

pub words_count : (p : Pair) → length (pair_words p) ≡ 14
unfolding pair_words
words_count p = rw (keys_count p.keys) refl

-- ── Moves ───────────────────────────────────────────────────────────────────────────────────────────────────────────

module _ (ks : Keys) (s : ℕ) where
  pub unless_adopted : s ≡ adopted_serial ks → 0 ≡ unless ks s
  unfolding unless is_among
  unless_adopted e = rw (eq-eqb s (adopted_serial ks) e) refl

  module _ (other : s ≡ adopted_serial ks → ⊥) where
    pub unless_waiting : s ≡ waiting_serial ks → 0 ≡ unless ks s
    unfolding unless is_among
    unless_waiting e = rw (ne_eqb s (adopted_serial ks) other, eq-eqb s (waiting_serial ks) e) refl

    pub unless_gone : (s ≡ waiting_serial ks → ⊥) → s ≡ unless ks s
    unfolding unless is_among
    unless_gone n = rw (ne_eqb s (adopted_serial ks) other, ne_eqb s (waiting_serial ks) n) refl
