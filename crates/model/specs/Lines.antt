-- The lines of a listing, and when a line reads: 02, CR 7 (CR 9 for the clock line). "A line reads when it has this shape, newline included, with numbers
-- below 2^64 and a suffix of 1 to 128 octets." The shape is Listing's. Assumes nothing.
use Rattle.std.specs.Prelude.{ℕ, ◌-◌, Bool, true, false, cond, ◌&&◌, ◌||◌, List, [], ◌∷◌, length, leb, ltb, eqb, Option, None, Some}
use Rattle.model.specs.declared.Algorithm.{Algorithm}
use Rattle.model.specs.declared.Algorithm.TheVariants.{Sha256, Sha384, Sha512}
use Rattle.model.specs.declared.Keys.TheVariants.{Empty}
use Rattle.model.specs.declared.Clocked.{Clocked}
use Rattle.model.specs.declared.Stated.{Stated}
use Rattle.model.specs.Tables.{Row, every}
use Rattle.model.specs.Text.{is_word, only_if, is_digit, number_of, octet_before}
use Rattle.model.specs.Listing.{clock_word, pair_word, key_word, adopted_word, waiting_word, algorithm_word}

-- ── Lines ───────────────────────────────────────────────────────────────────────────────────────────────────────────

-- docs/SCRIPT.md: "A line is the octets up to and with a newline; octets behind the last newline are one more line, which does not read." The lines of an octet
-- and what follows it: a newline is a line by itself, any other octet begins the line that follows.
abbrev pub line_from : Bool → ℕ → List (List ℕ) → List (List ℕ)
line_from true c ls = (c ∷ []) ∷ ls
line_from false c [] = (c ∷ []) ∷ []
line_from false c (l ∷ ls) = (c ∷ l) ∷ ls

unfoldable pub lines_of : List ℕ → List (List ℕ)
lines_of [] = []
lines_of (c ∷ cs) = line_from (eqb c 10) c (lines_of cs)

-- docs/SCRIPT.md: "A line's first field is what stands before its first tab, or before its newline, or its end."
abbrev pub field_from : Bool → ℕ → List ℕ → List ℕ
field_from true c f = []
field_from false c f = c ∷ f

unfoldable pub first_field : List ℕ → List ℕ
first_field [] = []
first_field (c ∷ cs) = field_from (eqb c 9 || eqb c 10) c (first_field cs)

-- "A line whose first field is `key`."
unfoldable pub is_key_line : List ℕ → Bool
is_key_line l = is_word (first_field l) key_word

-- ── Fields ──────────────────────────────────────────────────────────────────────────────────────────────────────────

-- The fields of a line that ends with its one newline, "parted by tabs": the first, and the further ones. (As `line_of` writes them.)
pub record Fields : Type 0 where
  pub first : List ℕ
  pub further : List (List ℕ)

abbrev pub ended : List ℕ → Option Fields
ended [] = Some (record { first = []; further = [] })
ended (c ∷ cs) = None

abbrev pub parted : Option Fields → Option Fields
parted None = None
parted (Some w) = Some (record { first = []; further = w.first ∷ w.further })

abbrev pub begun : ℕ → Option Fields → Option Fields
begun c None = None
begun c (Some w) = Some (record { first = c ∷ w.first; further = w.further })

-- By whether the octet c is a newline, and whether it is a tab; cs are the octets behind it.
abbrev pub fields_from : Bool → Bool → ℕ → List ℕ → Option Fields → Option Fields
fields_from true tab c cs rest = ended cs
fields_from false true c cs rest = parted rest
fields_from false false c cs rest = begun c rest

unfoldable pub fields_of : List ℕ → Option Fields
fields_of [] = None
fields_of (c ∷ cs) = fields_from (eqb c 10) (eqb c 9) c cs (fields_of cs)

-- ── What a field says ───────────────────────────────────────────────────────────────────────────────────────────────

-- "Numbers have no leading zeros", and are "below 2^64".
unfoldable pub plain_number : List ℕ → Option ℕ
plain_number [] = None
plain_number (c ∷ []) = number_of (c ∷ [])
plain_number (c ∷ d ∷ ds) = only_if (ltb 48 c) (number_of (c ∷ d ∷ ds))

-- "Suffix octets in lower-case hexadecimal."
unfoldable pub low_nibble : ℕ → Option ℕ
low_nibble c = cond (is_digit c) (Some (c - 48)) (cond (leb 97 c && leb c 102) (Some (c - 87)) None)

unfoldable pub low_hex : List ℕ → Option (List ℕ)
low_hex [] = Some []
low_hex (a ∷ []) = None
low_hex (a ∷ b ∷ cs) = octet_before (low_nibble a) (low_nibble b) (low_hex cs)

-- Octets: each is below 256. (What is read in hexadecimal is so.)
unfoldable pub are_octets : List ℕ → Bool
are_octets s = every (λ x. ltb x 256) s

-- "A suffix of 1 to 128 octets."
abbrev pub suffix_sized : List ℕ → Option (List ℕ)
suffix_sized s = only_if (leb 1 (length s) && leb (length s) 128) (Some s)

-- "`adopted` or `waiting`": whether it is adopted.
unfoldable pub is_adopted : List ℕ → Option Bool
is_adopted f = cond (is_word f adopted_word) (Some true) (cond (is_word f waiting_word) (Some false) None)

-- One of the three algorithms.
unfoldable pub algorithm_said : List ℕ → Option Algorithm
algorithm_said f =
    cond (is_word f (algorithm_word Sha256)) (Some Sha256)
    (cond (is_word f (algorithm_word Sha384)) (Some Sha384)
    (cond (is_word f (algorithm_word Sha512)) (Some Sha512)
    None))

-- ── What a line says ────────────────────────────────────────────────────────────────────────────────────────────────

-- What must be there, and is handed on; else nothing.
abbrev pub given : {A B : Type 0} → Option A → (A → Option B) → Option B
given None next = None
given (Some a) next = next a

-- The next of the further fields, which must say something; and that there is no more.
abbrev pub field : {A B : Type 0} → (List ℕ → Option A) → List (List ℕ) → (A → List (List ℕ) → Option B) → Option B
field says [] next = None
field says (f ∷ fs) next = given (says f) (λ a. next a fs)

abbrev pub no_more : {B : Type 0} → List (List ℕ) → B → Option B
no_more [] b = Some b
no_more (f ∷ fs) b = None

-- A line that begins with this word, by its further fields.
abbrev pub worded : {B : Type 0} → List ℕ → List ℕ → (List (List ℕ) → Option B) → Option B
worded word l next = given (fields_of l) λ w. only_if (is_word w.first word) (next w.further)

-- "First `clock` and the clock", and the floor.
abbrev pub clock_said : List (List ℕ) → Option Clocked
clock_said fs =
    field plain_number fs λ clock fs.
    field plain_number fs λ floor fs.
    no_more fs (record { clock = clock; floor = floor })

unfoldable pub read_clock : List ℕ → Option Clocked
read_clock l = worded clock_word l clock_said

-- "A line `pair`, suffix octets in lower-case hexadecimal, next serial, L, P": a row that has no keys yet.
unfoldable pub suffix_said : List ℕ → Option (List ℕ)
suffix_said f = given (low_hex f) suffix_sized

abbrev pub pair_said : List (List ℕ) → Option Row
pair_said fs =
    field suffix_said fs λ suffix fs.
    field plain_number fs λ next fs.
    field plain_number fs λ lifetime fs.
    field plain_number fs λ fresh fs.
    no_more fs (record { suffix = suffix; pair = record { lifetime = lifetime; fresh = fresh; next_serial = next; keys = Empty } })

unfoldable pub read_pair : List ℕ → Option Row
read_pair l = worded pair_word l pair_said

-- "`key`, `adopted` or `waiting`, serial, algorithm, the three times."
abbrev pub times_said : Bool → ℕ → Algorithm → List (List ℕ) → Option Stated
times_said adopted serial algorithm fs =
    field plain_number fs λ inception fs.
    field plain_number fs λ partial fs.
    field plain_number fs λ expiry fs.
    no_more fs (record { adopted = adopted; key = record { serial = serial; algorithm = algorithm; inception = inception; partial = partial; expiry = expiry } })

abbrev pub key_said : List (List ℕ) → Option Stated
key_said fs =
    field is_adopted fs λ adopted fs.
    field plain_number fs λ serial fs.
    field algorithm_said fs λ algorithm fs.
    times_said adopted serial algorithm fs

unfoldable pub read_key : List ℕ → Option Stated
read_key l = worded key_word l key_said
