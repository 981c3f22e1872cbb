-- A line that is written reads back, and a line that reads is what is written; the lines of a text, and the text again. Assumes nothing.
use mathlib.Core.Path.{◌≡◌, refl, ap, ◌∙◌, subst}
use mathlib.Core.Bool.{Bool, true, false}
use Rattle.std.specs.Prelude.{Some}
use mathlib.Core.List.{List, [], ◌∷◌, ◌++◌, append_assoc}
use Prim.Native.Nat.{ℕ, ◌≤◌, ◌<◌}
use native.Mathlib.Omega.{arith}
use lib.Dec.{leb, eqb}
use lib.ListN.{length}
use borrow.Author.Tests.{leb-true, ne_eqb}
use Rattle.model.specs.declared.Algorithm.{Algorithm}
use Rattle.model.specs.declared.Key.{Key}
use Rattle.model.specs.declared.Keys.TheVariants.{Empty}
use Rattle.model.specs.declared.Pair.{Pair}
use Rattle.model.specs.Tables.{Row}
use Rattle.model.specs.Text.{numeral, hex_of, parted_by, line_of, is_word}
use Rattle.model.specs.Listing.{clock_word, pair_word, key_word, tabbed, clock_line, pair_line, algorithm_word, key_line}
use Rattle.model.specs.declared.Clocked.{Clocked}
use Rattle.model.specs.declared.Stated.{Stated}
use Rattle.model.specs.Lines.{line_from, lines_of, first_field, is_key_line, are_octets, plain_number, suffix_said, is_adopted, algorithm_said, field, no_more, clock_said, read_clock, pair_said, read_pair, times_said, key_said, read_key}
use Rattle.model.proofs.Tests.{left, right, both}
use Rattle.model.proofs.Listings.{plain, all_plain, numeral_plain, adopted_plain, waiting_plain, key_fields, key_plain, pair_fields, pair_plain}
use Rattle.model.proofs.Fields.{number_back, suffix_is, suffix_back, state_word, state_is, state_back, algorithm_is, algorithm_back, worded_back, worded_is, field_is, number_field_lem, fields_more, no_more_is}

-- Numbers that a line can say.
abbrev pub Word64 : ℕ → Type 0
Word64 n = n < 0x1_0000_0000_0000_0000

-- ── The clock line ──────────────────────────────────────────────────────────────────────────────────────────────────

clock_fields_plain : (clock floor : ℕ) → all_plain (numeral clock ∷ numeral floor ∷ []) ≡ true
clock_fields_plain clock floor = both (plain (numeral clock)) _ (numeral_plain clock) (both (plain (numeral floor)) true (numeral_plain floor) refl)

pub clock_back : (clock floor : ℕ) → Word64 clock → Word64 floor → read_clock (clock_line clock floor) ≡ Some (record { clock = clock; floor = floor })
unfolding read_clock clock_line tabbed
clock_back clock floor a b =
    worded_back clock_word (numeral clock ∷ numeral floor ∷ []) clock_said refl (clock_fields_plain clock floor) ∙ rw (number_back clock a, number_back floor b) refl

pub clock_is : (l : List ℕ) (c : Clocked) → read_clock l ≡ Some c → l ≡ clock_line c.clock c.floor
unfolding read_clock clock_line tabbed
clock_is l c e =
    let w = worded_is clock_word l clock_said c e in
    let a = number_field_lem w.0 _ c w.2 in
    let b = number_field_lem a.1 _ c a.3 in
    let n = no_more_is b.1 _ c b.3 in
    w.1
    ∙ ap (line_of 9 clock_word) (fields_more a.2 (fields_more b.2 n.0))
    ∙ ap (λ (c : Clocked). line_of 9 clock_word (numeral c.clock ∷ numeral c.floor ∷ [])) n.1

-- ── A pair's line ───────────────────────────────────────────────────────────────────────────────────────────────────

-- A row without its keys.
abbrev pub bare : List ℕ → Pair → Row
bare suffix p = record { suffix = suffix; pair = record { lifetime = p.lifetime; fresh = p.fresh; next_serial = p.next_serial; keys = Empty } }

pub pair_back :
    (suffix : List ℕ) (p : Pair)
    → are_octets suffix ≡ true
    → 1 ≤ length suffix
    → length suffix ≤ 128
    → Word64 p.next_serial
    → Word64 p.lifetime
    → Word64 p.fresh
    → read_pair (pair_line suffix p) ≡ Some (bare suffix p)
unfolding read_pair pair_line tabbed
pair_back suffix p o a b n l f =
    let r : Row = record { suffix = suffix; pair = p } in
    worded_back pair_word (pair_fields r) pair_said refl (pair_plain r)
    ∙ rw (suffix_back suffix o a b, number_back p.next_serial n, number_back p.lifetime l, number_back p.fresh f) refl

-- The row is bare.
pub record PairSaid (l : List ℕ) (r : Row) : Type 0 where
  pub is : l ≡ pair_line r.suffix r.pair
  pub octets : are_octets r.suffix ≡ true

pub pair_is : (l : List ℕ) (r : Row) → read_pair l ≡ Some r → PairSaid l r
unfolding read_pair pair_line tabbed
pair_is l r e =
    let w = worded_is pair_word l pair_said r e in
    let s = field_is suffix_said hex_of (λ f s e. (suffix_is f s e).0) w.0 _ r w.2 in
    let a = number_field_lem s.1 _ r s.3 in
    let b = number_field_lem a.1 _ r a.3 in
    let c = number_field_lem b.1 _ r b.3 in
    let n = no_more_is c.1 _ r c.3 in
    record {
      is =
          w.1
          ∙ ap (line_of 9 pair_word) (fields_more s.2 (fields_more a.2 (fields_more b.2 (fields_more c.2 n.0))))
          ∙ ap (λ (r : Row). line_of 9 pair_word (pair_fields r)) n.1;
      octets = subst (λ (r : Row). are_octets r.suffix ≡ true) n.1 (suffix_is s.4 s.0 s.5).1;
    }

-- ── A key's line ────────────────────────────────────────────────────────────────────────────────────────────────────

pub record KeyFits (k : Key) : Type 0 where
  pub serial_fits : Word64 k.serial
  pub inception_fits : Word64 k.inception
  pub partial_fits : Word64 k.partial
  pub expiry_fits : Word64 k.expiry

state_plain : (b : Bool) → plain (state_word b) ≡ true
state_plain true = adopted_plain
state_plain false = waiting_plain

pub key_back : (b : Bool) (k : Key) → KeyFits k → read_key (key_line (state_word b) k) ≡ Some (record { adopted = b; key = k })
unfolding read_key key_line tabbed
key_back b k f =
    worded_back key_word (key_fields (state_word b) k) key_said refl (key_plain (state_word b) k (state_plain b))
    ∙ rw (
      state_back b,
      number_back k.serial f.serial_fits,
      algorithm_back k.algorithm,
      number_back k.inception f.inception_fits,
      number_back k.partial f.partial_fits,
      number_back k.expiry f.expiry_fits,
    ) refl

-- The fields of a key that is stated.
abbrev fields_in : Stated → List (List ℕ)
fields_in k = key_fields (state_word k.adopted) k.key

times_are :
    (adopted : Bool) (serial : ℕ) (algorithm : Algorithm) (fs : List (List ℕ)) (k : Stated)
    → times_said adopted serial algorithm fs ≡ Some k
    → state_word adopted ∷ numeral serial ∷ algorithm_word algorithm ∷ fs ≡ fields_in k
times_are adopted serial algorithm fs k e =
    let a = number_field_lem fs (λ n gs. field plain_number gs _) k e in
    let b = number_field_lem a.1 (λ n gs. field plain_number gs _) k a.3 in
    let c = number_field_lem b.1 (λ n gs. no_more gs _) k b.3 in
    let n = no_more_is c.1 (record { adopted = adopted; key = record { serial = serial; algorithm = algorithm; inception = a.0; partial = b.0; expiry = c.0 } }) k c.3 in
    ap (λ (fs : List (List ℕ)). state_word adopted ∷ numeral serial ∷ algorithm_word algorithm ∷ fs) (fields_more a.2 (fields_more b.2 (fields_more c.2 n.0))) ∙ ap fields_in n.1

pub key_is : (l : List ℕ) (k : Stated) → read_key l ≡ Some k → l ≡ key_line (state_word k.adopted) k.key
unfolding read_key key_line tabbed
key_is l k e =
    let w = worded_is key_word l key_said k e in
    let s = field_is is_adopted state_word state_is w.0 _ k w.2 in
    let a = number_field_lem s.1 _ k s.3 in
    let g = field_is algorithm_said algorithm_word algorithm_is a.1 (times_said s.0 a.0) k a.3 in
    w.1 ∙ ap (line_of 9 key_word) (fields_more s.2 (fields_more a.2 g.2) ∙ times_are s.0 a.0 g.0 g.1 k g.3)

-- ── The lines of a text ─────────────────────────────────────────────────────────────────────────────────────────────

abbrev pub joined : List (List ℕ) → List ℕ
joined [] = []
joined (l ∷ ls) = l ++ joined ls

line_joined : (b : Bool) (c : ℕ) (ls : List (List ℕ)) → joined (line_from b c ls) ≡ c ∷ joined ls
line_joined true c ls = refl
line_joined false c [] = refl
line_joined false c (l ∷ ls) = refl

pub lines_joined : (s : List ℕ) → joined (lines_of s) ≡ s
unfolding lines_of
lines_joined [] = refl
lines_joined (c ∷ cs) = line_joined (eqb c 10) c (lines_of cs) ∙ ap (λ (l : List ℕ). c ∷ l) (lines_joined cs)

-- A line that is written is the first of the lines.
field_first : (f x l : List ℕ) (ls : List (List ℕ)) → plain f ≡ true → lines_of x ≡ l ∷ ls → lines_of (f ++ x) ≡ (f ++ l) ∷ ls
unfolding lines_of
field_first [] x l ls p e = e
field_first (c ∷ f) x l ls p e =
    let h = leb-true 11 c (left (leb 11 c) (plain f) p) in
    rw (ne_eqb c 10 (λ z. omega arith), field_first f x l ls (right (leb 11 c) (plain f) p) e) refl

parted_first : (fs : List (List ℕ)) (x : List ℕ) → all_plain fs ≡ true → lines_of (parted_by 9 fs ++ x) ≡ parted_by 9 fs ∷ lines_of x
unfolding parted_by lines_of
parted_first [] x p = refl
parted_first (f ∷ fs) x p =
    ap (λ (l : List ℕ). line_from false 9 (lines_of l)) (append_assoc f (parted_by 9 fs) x)
    ∙ ap (line_from false 9) (field_first f (parted_by 9 fs ++ x) (parted_by 9 fs) (lines_of x) (left (plain f) (all_plain fs) p) (parted_first fs x (right (plain f) (all_plain fs) p)))

line_first : (f : List ℕ) (fs : List (List ℕ)) (x : List ℕ) → plain f ≡ true → all_plain fs ≡ true → lines_of (line_of 9 f fs ++ x) ≡ line_of 9 f fs ∷ lines_of x
unfolding line_of
line_first f fs x p q = ap lines_of (append_assoc f (parted_by 9 fs) x) ∙ field_first f (parted_by 9 fs ++ x) (parted_by 9 fs) (lines_of x) p (parted_first fs x q)

pub clock_first : (clock floor : ℕ) (x : List ℕ) → lines_of (clock_line clock floor ++ x) ≡ clock_line clock floor ∷ lines_of x
unfolding clock_line tabbed
clock_first clock floor x = line_first clock_word _ x refl (clock_fields_plain clock floor)

pub pair_first : (r : Row) (x : List ℕ) → lines_of (pair_line r.suffix r.pair ++ x) ≡ pair_line r.suffix r.pair ∷ lines_of x
unfolding pair_line tabbed
pair_first r x = line_first pair_word (pair_fields r) x refl (pair_plain r)

pub key_first : (b : Bool) (k : Key) (x : List ℕ) → lines_of (key_line (state_word b) k ++ x) ≡ key_line (state_word b) k ∷ lines_of x
unfolding key_line tabbed
key_first b k x = line_first key_word (key_fields (state_word b) k) x refl (key_plain (state_word b) k (state_plain b))

-- Which of them are `key` lines.
pub key_begins : (state : List ℕ) (k : Key) → is_key_line (key_line state k) ≡ true
unfolding is_key_line first_field key_line tabbed line_of parted_by is_word
key_begins state k = refl

pub pair_begins : (suffix : List ℕ) (p : Pair) → is_key_line (pair_line suffix p) ≡ false
unfolding is_key_line first_field pair_line tabbed line_of parted_by is_word
pair_begins suffix p = refl
