-- Laws of a line's end, of fields by places, and of what a field says. Assumes nothing.
use Prim.Native.Nat.{ℕ, zero, suc, ◌+◌, ◌-◌, ◌≤◌, ◌<◌}
use mathlib.Core.Path.{◌≡◌, refl, sym, ap, ◌∙◌}
use mathlib.Core.Bool.{Bool, true, false, cond, not, ◌&&◌, ◌||◌, false≢true}
use Rattle.std.specs.Prelude.{Option, None, Some}
use Rattle.std.proofs.lemmas.Option.{same_Some}
use mathlib.Core.List.{List, [], ◌∷◌}
use native.Mathlib.Omega.{arith}
use lib.Dec.{leb, ltb, eqb}
use lib.ListN.{length, take, drop, get_or, length-drop}
use lib.Seq.{drop-drop, length-take-le}
use borrow.Author.Tests.{lt-ltb, le-ltb, le-leb, lt-leb, leb-true, ltb-true, ltb-false}
use Rattle.std.specs.List.{position, position_or_len, AllWithin, HoldsAt}
use Rattle.std.specs.Bool.{MatchBool}
use Rattle.model.specs.Text.{is_word, only_if, is_digit, number_of, nibble, octet_before, unhex}
use Rattle.model.specs.Lines.{lines_of, Fields, ended, parted, begun, field_from, first_field, fields_from, fields_of, plain_number, low_nibble, low_hex, suffix_sized, suffix_said, given}
use Rattle.model.proofs.Tests.{right, and_false}
use Rattle.model.proofs.Fields.{only_if_some, given_is}
use Rattle.model.proofs.Forward.{line_size, lines_next}
use Rattle.lines.specs.Fields.{field_size, headed, further_at, is_upper, no_upper}
use Rattle.lines.specs.Read.{LineEnds}

-- ── Where a line ends ───────────────────────────────────────────────────────────────────────────────────────────────

-- The place of the first newline, or the length.
abbrev pub newline : ℕ → Bool
newline c = eqb c 10

pub line_found : (s : List ℕ) → position_or_len newline s < length s → line_size s ≡ position_or_len newline s + 1
line_found [] h = absurd (omega arith)
line_found (c ∷ cs) h = go (eqb c 10) (λ l. line_found cs l) h
  where
    go : (b : Bool) → (position_or_len newline cs < length cs → line_size cs ≡ position_or_len newline cs + 1) → cond (not b) (1 + position_or_len newline cs) 0 < suc (length cs) → cond b 1 (suc (line_size cs)) ≡ cond (not b) (1 + position_or_len newline cs) 0 + 1
    go true next h = refl
    go false next h = let e = next (omega arith) in omega (arith, e)

pub line_unended : (s : List ℕ) → length s ≤ position_or_len newline s → line_size s ≡ length s
line_unended [] h = refl
line_unended (c ∷ cs) h = go (eqb c 10) (λ l. line_unended cs l) h
  where
    go : (b : Bool) → (length cs ≤ position_or_len newline cs → line_size cs ≡ length cs) → suc (length cs) ≤ cond (not b) (1 + position_or_len newline cs) 0 → cond b 1 (suc (line_size cs)) ≡ suc (length cs)
    go true next h = absurd (omega arith)
    go false next h = ap suc (next (omega arith))

pub line_ends : (s : List ℕ) (at r : ℕ) → at < r → r ≤ length s → r ≡ at + line_size (drop at s) → LineEnds s at r
line_ends s at r more within e =
    let size : r - at ≡ line_size (drop at s) = omega arith in
    let some_left : 0 < length (drop at s) = rw length-drop (omega arith) in
    record {
      within = within;
      more = more;
      line = rw (size, e) (lines_next (drop at s) some_left ∙ ap (λ (x : List ℕ). take (line_size (drop at s)) (drop at s) ∷ lines_of x) (drop-drop (line_size (drop at s)) at s));
    }

-- ── Where a field ends ──────────────────────────────────────────────────────────────────────────────────────────────

-- The place of the first tab or newline, or the length.
abbrev pub separator : ℕ → Bool
separator c = eqb c 9 || eqb c 10

pub field_found : (s : List ℕ) → position_or_len separator s ≡ field_size s
field_found [] = refl
field_found (c ∷ cs) = go (separator c) (field_found cs)
  where
    go : (b : Bool) → position_or_len separator cs ≡ field_size cs → cond (not b) (1 + position_or_len separator cs) 0 ≡ cond b 0 (suc (field_size cs))
    go true e = refl
    go false e = omega (arith, e)

pub field_short : (s : List ℕ) → field_size s ≤ length s
field_short [] = omega arith
field_short (c ∷ cs) = go (separator c) (field_short cs)
  where
    go : (b : Bool) → field_size cs ≤ length cs → cond b 0 (suc (field_size cs)) ≤ suc (length cs)
    go true h = omega arith
    go false h = omega arith

-- What `position` answers.
pub found_at : (p : ℕ → Bool) (s : List ℕ) (n : ℕ) → position p s ≡ Some n → (position_or_len p s ≡ n) × (n < length s)
found_at p s n e = go (ltb (position_or_len p s) (length s)) refl e
  where
    go : (b : Bool) → ltb (position_or_len p s) (length s) ≡ b → cond b (Some (position_or_len p s)) None ≡ Some n → (position_or_len p s ≡ n) × (n < length s)
    go true f e = let i = same_Some _ _ e in (i, rw i at (ltb-true _ _ f))
    go false f e = grind arith

pub found_none : (p : ℕ → Bool) (s : List ℕ) → position p s ≡ None → length s ≤ position_or_len p s
found_none p s e = go (ltb (position_or_len p s) (length s)) refl e
  where
    go : (b : Bool) → ltb (position_or_len p s) (length s) ≡ b → cond b (Some (position_or_len p s)) None ≡ None → length s ≤ position_or_len p s
    go true f e = grind arith
    go false f e = ltb-false _ _ f

-- The first field, and the fields by the separator behind it.
first_from : (b : Bool) (c : ℕ) (cs : List ℕ) → first_field cs ≡ take (field_size cs) cs → field_from b c (first_field cs) ≡ take (cond b 0 (suc (field_size cs))) (c ∷ cs)
first_from true c cs e = refl
first_from false c cs e = ap (λ (f : List ℕ). c ∷ f) e

pub first_is : (s : List ℕ) → first_field s ≡ take (field_size s) s
unfolding first_field
first_is [] = refl
first_is (c ∷ cs) = first_from (eqb c 9 || eqb c 10) c cs (first_is cs)

abbrev pub behind : List ℕ → Option (List (List ℕ)) → Option Fields
behind f o = given o λ fs. Some (record { first = f; further = fs })

begun_behind : (c : ℕ) (f : List ℕ) (o : Option (List (List ℕ))) → begun c (behind f o) ≡ behind (c ∷ f) o
begun_behind c f None = refl
begun_behind c f (Some fs) = refl

-- Fields of which the first is empty.
abbrev pub bare : Option Fields → Option (List (List ℕ))
bare o = given o λ w. only_if (is_word w.first []) (Some w.further)

ended_bare : (cs : List ℕ) → ended cs ≡ behind [] (bare (ended cs))
unfolding is_word
ended_bare [] = refl
ended_bare (c ∷ cs) = refl

parted_bare : (o : Option Fields) → parted o ≡ behind [] (bare (parted o))
unfolding is_word
parted_bare None = refl
parted_bare (Some w) = refl

fields_from_lem :
    (c : ℕ) (cs : List ℕ) (t n : Bool)
    → eqb c 9 ≡ t
    → eqb c 10 ≡ n
    → fields_of cs ≡ behind (take (field_size cs) cs) (headed [] (drop (field_size cs) cs))
    → fields_from n t c cs (fields_of cs) ≡ behind (take (cond (t || n) 0 (suc (field_size cs))) (c ∷ cs)) (headed [] (drop (cond (t || n) 0 (suc (field_size cs))) (c ∷ cs)))
unfolding headed fields_of
fields_from_lem c cs true true e f rest = rw f (ended_bare cs)
fields_from_lem c cs false true e f rest = rw f (ended_bare cs)
fields_from_lem c cs true false e f rest = rw (f, e) (parted_bare (fields_of cs))
fields_from_lem c cs false false e f rest = ap (begun c) rest ∙ begun_behind c (take (field_size cs) cs) (headed [] (drop (field_size cs) cs))

pub fields_are : (s : List ℕ) → fields_of s ≡ behind (take (field_size s) s) (headed [] (drop (field_size s) s))
unfolding headed fields_of
fields_are [] = refl
fields_are (c ∷ cs) = fields_from_lem c cs (eqb c 9) (eqb c 10) refl refl (fields_are cs)

-- The same at a place.
pub fields_at : (l : List ℕ) (from r : ℕ) → r ≡ from + field_size (drop from l) → fields_of (drop from l) ≡ behind (take (r - from) (drop from l)) (further_at l r)
unfolding further_at
fields_at l from r e =
    let size : r - from ≡ field_size (drop from l) = omega arith in
    rw (size, e) (fields_are (drop from l) ∙ ap (λ (x : List ℕ). behind (take (field_size (drop from l)) (drop from l)) (headed [] x)) (drop-drop (field_size (drop from l)) from l))

-- ── Numbers ─────────────────────────────────────────────────────────────────────────────────────────────────────────

pub one_digit : (f : List ℕ) → length f < 2 → plain_number f ≡ number_of f
unfolding plain_number number_of
one_digit [] h = refl
one_digit (c ∷ []) h = refl
one_digit (c ∷ d ∷ ds) h = absurd (omega arith)

leading : (f : List ℕ) → 2 ≤ length f → plain_number f ≡ only_if (ltb 48 (get_or f 0 0)) (number_of f)
unfolding plain_number
leading [] h = absurd (omega arith)
leading (c ∷ []) h = absurd (omega arith)
leading (c ∷ d ∷ ds) h = refl

pub leading_zero : (f : List ℕ) → 2 ≤ length f → get_or f 0 0 ≤ 48 → plain_number f ≡ None
leading_zero f h e = leading f h ∙ rw (le-ltb 48 (get_or f 0 0) e) refl

pub no_leading_zero : (f : List ℕ) → 2 ≤ length f → 48 < get_or f 0 0 → plain_number f ≡ number_of f
no_leading_zero f h e = leading f h ∙ rw (lt-ltb 48 (get_or f 0 0) e) refl

-- ── Octets ──────────────────────────────────────────────────────────────────────────────────────────────────────────

lower_all : (w : List ℕ) → ((k : ℕ) → k < length w → is_upper (get_or w k 0) ≡ false) → no_upper w ≡ true
unfolding no_upper
lower_all [] h = refl
lower_all (c ∷ cs) h = rw (h 0 (omega arith)) (lower_all cs (λ k l. h (suc k) (omega arith)))

upper_at : (w : List ℕ) (k : ℕ) → k < length w → is_upper (get_or w k 0) ≡ true → no_upper w ≡ false
unfolding no_upper
upper_at [] k h e = absurd (omega arith)
upper_at (c ∷ cs) zero h e = rw e refl
upper_at (c ∷ cs) (suc k) h e = rw (upper_at cs k (omega arith) e) (and_false (not (is_upper c)) refl)

pub no_upper_by : (w : List ℕ) (r : Bool)
    → MatchBool r (AllWithin (λ c. is_upper c ≡ false) w 0 (length w)) ((k : ℕ) × (k < length w) × HoldsAt (λ c. is_upper c ≡ true) w k)
    → r ≡ no_upper w
no_upper_by w true h = sym (lower_all w (λ k l. h k 0 (omega arith) l))
no_upper_by w false h = sym (upper_at w h.0 h.1 (h.2 0))

-- Lower-case hexadecimal is hexadecimal without upper-case digits.
low_nibble_lem : (c : ℕ) → low_nibble c ≡ only_if (not (is_upper c)) (nibble c)
unfolding low_nibble nibble is_digit
low_nibble_lem c =
    go (is_digit c) (is_upper c) (leb 97 c && leb c 102)
    (λ e. rw (lt-leb 65 c (let d = leb-true c 57 (right (leb 48 c) (leb c 57) e) in omega arith)) refl)
    (λ e. rw (lt-leb 97 c (let u = leb-true c 70 (right (leb 65 c) (leb c 70) e) in omega arith)) refl)
  where
    go :
        (d u l : Bool)
        → (d ≡ true → u ≡ false)
        → (u ≡ true → l ≡ false)
        → cond d (Some (c - 48)) (cond l (Some (c - 87)) None) ≡ only_if (not u) (cond d (Some (c - 48)) (cond u (Some (c - 55)) (cond l (Some (c - 87)) None)))
    go true true l e f = absurd (false≢true (sym (e refl)))
    go true false l e f = refl
    go false true true e f = absurd (false≢true (sym (f refl)))
    go false true false e f = refl
    go false false l e f = refl

before_low : (p q r : Bool) (x y : Option ℕ) (z : Option (List ℕ)) → octet_before (only_if p x) (only_if q y) (only_if r z) ≡ only_if (p && (q && r)) (octet_before x y z)
before_low false q r x y z = refl
before_low true false r None y z = refl
before_low true false r (Some x) y z = refl
before_low true true false None y z = refl
before_low true true false (Some x) None z = refl
before_low true true false (Some x) (Some y) z = refl
before_low true true true x y z = refl

none_only : (b : Bool) → ◌≡◌ {A = Option (List ℕ)} None (only_if b None)
none_only true = refl
none_only false = refl

low_hex_lem : (f : List ℕ) → low_hex f ≡ only_if (no_upper f) (unhex f)
unfolding low_hex unhex no_upper
low_hex_lem [] = refl
low_hex_lem (a ∷ []) = none_only (no_upper (a ∷ []))
low_hex_lem (a ∷ b ∷ cs) = rw (low_nibble_lem a, low_nibble_lem b, low_hex_lem cs) (before_low (not (is_upper a)) (not (is_upper b)) (no_upper cs) (nibble a) (nibble b) (unhex cs))

-- Two digits an octet.
abbrev Halved : List ℕ → Option (List ℕ) → Type 0
Halved f None = Unit {0}
Halved f (Some s) = length f ≡ length s + length s

halved_before : (a b : ℕ) (cs : List ℕ) (x y : Option ℕ) (o : Option (List ℕ)) → Halved cs o → Halved (a ∷ b ∷ cs) (octet_before x y o)
halved_before a b cs None y o h = tt
halved_before a b cs (Some x) None o h = tt
halved_before a b cs (Some x) (Some y) None h = tt
halved_before a b cs (Some x) (Some y) (Some s) h = omega arith

halved : (f : List ℕ) → Halved f (low_hex f)
unfolding low_hex
halved [] = refl
halved (a ∷ []) = tt
halved (a ∷ b ∷ cs) = halved_before a b cs (low_nibble a) (low_nibble b) (low_hex cs) (halved cs)

pub upper_suffix : (f : List ℕ) → no_upper f ≡ false → suffix_said f ≡ None
unfolding suffix_said
upper_suffix f e = rw (low_hex_lem f, e) refl

-- A suffix has 1 to 128 octets where its digits are 1 to 256.
in_size : (f : List ℕ) (o : Option (List ℕ)) → Halved f o → 1 ≤ length f → length f ≤ 256 → given o suffix_sized ≡ o
in_size f None h a b = refl
in_size f (Some s) h a b = rw (le-leb 1 (length s) (omega arith), le-leb (length s) 128 (omega arith)) refl

too_short : (f : List ℕ) (o : Option (List ℕ)) → Halved f o → length f ≡ 0 → given o suffix_sized ≡ None
too_short f None h e = refl
too_short f (Some s) h e = rw (lt-leb 1 (length s) (omega arith)) refl

too_long : (f : List ℕ) (o : Option (List ℕ)) → Halved f o → 256 < length f → given o suffix_sized ≡ None
too_long f None h e = refl
too_long f (Some s) h e = rw (le-leb 1 (length s) (omega arith), lt-leb (length s) 128 (omega arith)) refl

pub short_suffix : (f : List ℕ) → length f ≡ 0 → suffix_said f ≡ None
unfolding suffix_said
short_suffix f e = too_short f (low_hex f) (halved f) e

pub long_suffix : (f : List ℕ) → 256 < length f → suffix_said f ≡ None
unfolding suffix_said
long_suffix f e = too_long f (low_hex f) (halved f) e

pub plain_suffix : (f : List ℕ) → 1 ≤ length f → length f ≤ 256 → no_upper f ≡ true → suffix_said f ≡ unhex f
unfolding suffix_said
plain_suffix f a b e = in_size f (low_hex f) (halved f) a b ∙ rw (low_hex_lem f, e) refl

pub suffix_bound : (f out : List ℕ) (n : ℕ) → suffix_said f ≡ Some (take n out) → n ≤ length out → n ≤ 128
unfolding suffix_said
suffix_bound f out n e h =
    let g = given_is (low_hex f) suffix_sized (take n out) e in
    let s = g.0 in
    let p = only_if_some (leb 1 (length s) && leb (length s) 128) (Some s) (take n out) g.2 in
    let is : length s ≡ n = ap length (same_Some s (take n out) p.1) ∙ length-take-le n out h in
    let most : length s ≤ 128 = leb-true (length s) 128 (right (leb 1 (length s)) (leb (length s) 128) p.0) in
    omega arith
