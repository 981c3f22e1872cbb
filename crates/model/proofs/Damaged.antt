-- Worked examples of loading and mending, computed by antt: 02's example both ways, and a damaged listing for each number and each reason. Each comment has the
-- text, `>` for a tab. Assumes nothing.
use Prim.Native.Nat.{ℕ, zero, suc}
use mathlib.Core.Path.{◌≡◌, refl}
use mathlib.Core.List.{List, [], ◌∷◌, ◌++◌}
use Rattle.model.specs.declared.Algorithm.TheVariants.{Sha256, Sha384, Sha512}
use Rattle.model.specs.declared.Key.{Key}
use Rattle.model.specs.declared.Keys.{Keys}
use Rattle.model.specs.declared.Keys.TheVariants.{Empty, Adopted, Renewing}
use Rattle.model.specs.Tables.{Row, Table}
use Rattle.model.specs.Listing.{listing}
use Rattle.model.specs.Loading.{Loaded, no_line, no_table, loaded, load, Dropped, Mended, no_clock, no_rule, no_room, mended, mend, mend_in, too_long, lists, list_in}
use Rattle.model.proofs.Running.{loading}

-- ── Lines and rows ──────────────────────────────────────────────────────────────────────────────────────────────────

-- clock>1000>1
abbrev clock_text : List ℕ
clock_text = 99 ∷ 108 ∷ 111 ∷ 99 ∷ 107 ∷ 9 ∷ 49 ∷ 48 ∷ 48 ∷ 48 ∷ 9 ∷ 49 ∷ 10 ∷ []

-- pair>0161076578616d706c6500>2>600>400
abbrev pair_text : List ℕ
pair_text = 112 ∷ 97 ∷ 105 ∷ 114 ∷ 9 ∷ 48 ∷ 49 ∷ 54 ∷ 49 ∷ 48 ∷ 55 ∷ 54 ∷ 53 ∷ 55 ∷ 56 ∷ 54 ∷ 49 ∷ 54 ∷ 100 ∷ 55 ∷ 48 ∷ 54 ∷ 99 ∷ 54 ∷ 53 ∷ 48 ∷ 48 ∷ 9 ∷ 50 ∷ 9 ∷ 54 ∷ 48 ∷ 48 ∷ 9 ∷ 52 ∷ 48 ∷ 48 ∷ 10 ∷ []

-- key>adopted>1>hmac-sha256>1000>1400>1600
abbrev key_text : List ℕ
key_text = 107 ∷ 101 ∷ 121 ∷ 9 ∷ 97 ∷ 100 ∷ 111 ∷ 112 ∷ 116 ∷ 101 ∷ 100 ∷ 9 ∷ 49 ∷ 9 ∷ 104 ∷ 109 ∷ 97 ∷ 99 ∷ 45 ∷ 115 ∷ 104 ∷ 97 ∷ 50 ∷ 53 ∷ 54 ∷ 9 ∷ 49 ∷ 48 ∷ 48 ∷ 48 ∷ 9 ∷ 49 ∷ 52 ∷ 48 ∷ 48 ∷ 9 ∷ 49 ∷ 54 ∷ 48 ∷ 48 ∷ 10 ∷ []

-- pair>016200>3>600>400
abbrev other_text : List ℕ
other_text = 112 ∷ 97 ∷ 105 ∷ 114 ∷ 9 ∷ 48 ∷ 49 ∷ 54 ∷ 50 ∷ 48 ∷ 48 ∷ 9 ∷ 51 ∷ 9 ∷ 54 ∷ 48 ∷ 48 ∷ 9 ∷ 52 ∷ 48 ∷ 48 ∷ 10 ∷ []

-- key>adopted>1>hmac-sha384>1000>1200>1600
abbrev other_key : List ℕ
other_key = 107 ∷ 101 ∷ 121 ∷ 9 ∷ 97 ∷ 100 ∷ 111 ∷ 112 ∷ 116 ∷ 101 ∷ 100 ∷ 9 ∷ 49 ∷ 9 ∷ 104 ∷ 109 ∷ 97 ∷ 99 ∷ 45 ∷ 115 ∷ 104 ∷ 97 ∷ 51 ∷ 56 ∷ 52 ∷ 9 ∷ 49 ∷ 48 ∷ 48 ∷ 48 ∷ 9 ∷ 49 ∷ 50 ∷ 48 ∷ 48 ∷ 9 ∷ 49 ∷ 54 ∷ 48 ∷ 48 ∷ 10 ∷ []

-- key>waiting>2>hmac-sha512>1000>1400>1600
abbrev waiting_key : List ℕ
waiting_key = 107 ∷ 101 ∷ 121 ∷ 9 ∷ 119 ∷ 97 ∷ 105 ∷ 116 ∷ 105 ∷ 110 ∷ 103 ∷ 9 ∷ 50 ∷ 9 ∷ 104 ∷ 109 ∷ 97 ∷ 99 ∷ 45 ∷ 115 ∷ 104 ∷ 97 ∷ 53 ∷ 49 ∷ 50 ∷ 9 ∷ 49 ∷ 48 ∷ 48 ∷ 48 ∷ 9 ∷ 49 ∷ 52 ∷ 48 ∷ 48 ∷ 9 ∷ 49 ∷ 54 ∷ 48 ∷ 48 ∷ 10 ∷ []

-- key>adopted>2>hmac-sha512>1000>1400>1600
abbrev later_key : List ℕ
later_key = 107 ∷ 101 ∷ 121 ∷ 9 ∷ 97 ∷ 100 ∷ 111 ∷ 112 ∷ 116 ∷ 101 ∷ 100 ∷ 9 ∷ 50 ∷ 9 ∷ 104 ∷ 109 ∷ 97 ∷ 99 ∷ 45 ∷ 115 ∷ 104 ∷ 97 ∷ 53 ∷ 49 ∷ 50 ∷ 9 ∷ 49 ∷ 48 ∷ 48 ∷ 48 ∷ 9 ∷ 49 ∷ 52 ∷ 48 ∷ 48 ∷ 9 ∷ 49 ∷ 54 ∷ 48 ∷ 48 ∷ 10 ∷ []

-- pair>..>2>600>400, and so many octets 0 as a suffix
abbrev pair_of : List ℕ → List ℕ
pair_of digits = 112 ∷ 97 ∷ 105 ∷ 114 ∷ 9 ∷ (digits ++ (9 ∷ 50 ∷ 9 ∷ 54 ∷ 48 ∷ 48 ∷ 9 ∷ 52 ∷ 48 ∷ 48 ∷ 10 ∷ []))

abbrev zeros : ℕ → List ℕ
zeros zero = []
zeros (suc n) = 48 ∷ 48 ∷ zeros n

abbrev suffix : List ℕ
suffix = 1 ∷ 97 ∷ 7 ∷ 101 ∷ 120 ∷ 97 ∷ 109 ∷ 112 ∷ 108 ∷ 101 ∷ 0 ∷ []

abbrev row : List ℕ → ℕ → Keys → Row
row suffix next keys = record { suffix = suffix; pair = record { lifetime = 600; fresh = 400; next_serial = next; keys = keys } }

abbrev first : Key
first = record { serial = 1; algorithm = Sha256; inception = 1000; partial = 1400; expiry = 1600 }

abbrev other : Row
other =
    row (1 ∷ 98 ∷ 0 ∷ []) 3 (Renewing (record { serial = 1; algorithm = Sha384; inception = 1000; partial = 1200; expiry = 1600 })
    (record { serial = 2; algorithm = Sha512; inception = 1000; partial = 1400; expiry = 1600 }))

abbrev table_of : List Row → Table
table_of rows = record { clock = 1000; floor = 1; rows = rows }

-- 02's example, with CR 9's floor: it loads as the day's table just after enrolment, and this lists as the example.
abbrev example : List ℕ
example = clock_text ++ (pair_text ++ key_text)

pub example_loads : load example ≡ loaded (table_of (row suffix 2 (Adopted first) ∷ []))
unfolding loading
example_loads = refl

pub example_lists : listing (table_of (row suffix 2 (Adopted first) ∷ [])) ≡ example
unfolding loading
example_lists = refl

-- ── Loading ─────────────────────────────────────────────────────────────────────────────────────────────────────────

pub record LoadCase : Type 0 where
  pub text : List ℕ
  pub ends : Loaded

abbrev Loads : List LoadCase → Type 0
Loads [] = Unit {0}
Loads (c ∷ cs) = (load c.text ≡ c.ends) × Loads cs

unfoldable pub load_cases : List LoadCase
load_cases =
    -- no text; a clock line of two fields; one without its newline
    record { text = []; ends = no_line 1 }
    ∷ record { text = (99 ∷ 108 ∷ 111 ∷ 99 ∷ 107 ∷ 9 ∷ 49 ∷ 48 ∷ 48 ∷ 48 ∷ 10 ∷ []); ends = no_line 1 }
    ∷ record { text = (99 ∷ 108 ∷ 111 ∷ 99 ∷ 107 ∷ 9 ∷ 49 ∷ 48 ∷ 48 ∷ 48 ∷ 9 ∷ 49 ∷ []); ends = no_line 1 }
    -- a clock line alone; its clock 2^48; its floor 0
    ∷ record { text = clock_text; ends = loaded (table_of []) }
    ∷ record { text = (99 ∷ 108 ∷ 111 ∷ 99 ∷ 107 ∷ 9 ∷ 50 ∷ 56 ∷ 49 ∷ 52 ∷ 55 ∷ 52 ∷ 57 ∷ 55 ∷ 54 ∷ 55 ∷ 49 ∷ 48 ∷ 54 ∷ 53 ∷ 54 ∷ 9 ∷ 49 ∷ 10 ∷ []); ends = no_table }
    ∷ record { text = (99 ∷ 108 ∷ 111 ∷ 99 ∷ 107 ∷ 9 ∷ 49 ∷ 48 ∷ 48 ∷ 48 ∷ 9 ∷ 48 ∷ 10 ∷ []); ends = no_table }
    -- the last newline is missing; an empty line
    ∷ record { text = clock_text ++ (pair_text ++ (107 ∷ 101 ∷ 121 ∷ 9 ∷ 97 ∷ 100 ∷ 111 ∷ 112 ∷ 116 ∷ 101 ∷ 100 ∷ 9 ∷ 49 ∷ 9 ∷ 104 ∷ 109 ∷ 97 ∷ 99 ∷ 45 ∷ 115 ∷ 104 ∷ 97 ∷ 50 ∷ 53 ∷ 54 ∷ 9 ∷ 49 ∷ 48 ∷ 48 ∷ 48 ∷ 9 ∷ 49 ∷ 52 ∷ 48 ∷ 48 ∷ 9 ∷ 49 ∷ 54 ∷ 48 ∷ 48 ∷ [])); ends = no_line 3 }
    ∷ record { text = clock_text ++ (pair_text ++ (key_text ++ (10 ∷ []))); ends = no_line 4 }
    -- a `key` line right below line 1; a second clock line
    ∷ record { text = clock_text ++ key_text; ends = no_line 2 }
    ∷ record { text = clock_text ++ (clock_text ++ key_text); ends = no_line 2 }
    -- a leading zero, 02; a sign, +2; a number 2^64; 2^64 - 1
    ∷ record { text = clock_text ++ (112 ∷ 97 ∷ 105 ∷ 114 ∷ 9 ∷ 48 ∷ 49 ∷ 54 ∷ 49 ∷ 48 ∷ 55 ∷ 54 ∷ 53 ∷ 55 ∷ 56 ∷ 54 ∷ 49 ∷ 54 ∷ 100 ∷ 55 ∷ 48 ∷ 54 ∷ 99 ∷ 54 ∷ 53 ∷ 48 ∷ 48 ∷ 9 ∷ 48 ∷ 50 ∷ 9 ∷ 54 ∷ 48 ∷ 48 ∷ 9 ∷ 52 ∷ 48 ∷ 48 ∷ 10 ∷ []); ends = no_line 2 }
    ∷ record { text = clock_text ++ (112 ∷ 97 ∷ 105 ∷ 114 ∷ 9 ∷ 48 ∷ 49 ∷ 54 ∷ 49 ∷ 48 ∷ 55 ∷ 54 ∷ 53 ∷ 55 ∷ 56 ∷ 54 ∷ 49 ∷ 54 ∷ 100 ∷ 55 ∷ 48 ∷ 54 ∷ 99 ∷ 54 ∷ 53 ∷ 48 ∷ 48 ∷ 9 ∷ 43 ∷ 50 ∷ 9 ∷ 54 ∷ 48 ∷ 48 ∷ 9 ∷ 52 ∷ 48 ∷ 48 ∷ 10 ∷ []); ends = no_line 2 }
    ∷ record { text = clock_text ++ (112 ∷ 97 ∷ 105 ∷ 114 ∷ 9 ∷ 48 ∷ 49 ∷ 54 ∷ 50 ∷ 48 ∷ 48 ∷ 9 ∷ 49 ∷ 56 ∷ 52 ∷ 52 ∷ 54 ∷ 55 ∷ 52 ∷ 52 ∷ 48 ∷ 55 ∷ 51 ∷ 55 ∷ 48 ∷ 57 ∷ 53 ∷ 53 ∷ 49 ∷ 54 ∷ 49 ∷ 54 ∷ 9 ∷ 54 ∷ 48 ∷ 48 ∷ 9 ∷ 52 ∷ 48 ∷ 48 ∷ 10 ∷ []); ends = no_line 2 }
    ∷ record { text = clock_text ++ (112 ∷ 97 ∷ 105 ∷ 114 ∷ 9 ∷ 48 ∷ 49 ∷ 54 ∷ 50 ∷ 48 ∷ 48 ∷ 9 ∷ 49 ∷ 56 ∷ 52 ∷ 52 ∷ 54 ∷ 55 ∷ 52 ∷ 52 ∷ 48 ∷ 55 ∷ 51 ∷ 55 ∷ 48 ∷ 57 ∷ 53 ∷ 53 ∷ 49 ∷ 54 ∷ 49 ∷ 53 ∷ 9 ∷ 54 ∷ 48 ∷ 48 ∷ 9 ∷ 52 ∷ 48 ∷ 48 ∷ 10 ∷ []); ends = no_table }
    -- upper-case hexadecimal; half an octet; no octet; one octet, which is no suffix of 3 to 128
    ∷ record { text = clock_text ++ (112 ∷ 97 ∷ 105 ∷ 114 ∷ 9 ∷ 48 ∷ 49 ∷ 54 ∷ 66 ∷ 48 ∷ 48 ∷ 9 ∷ 50 ∷ 9 ∷ 54 ∷ 48 ∷ 48 ∷ 9 ∷ 52 ∷ 48 ∷ 48 ∷ 10 ∷ []); ends = no_line 2 }
    ∷ record { text = clock_text ++ (112 ∷ 97 ∷ 105 ∷ 114 ∷ 9 ∷ 48 ∷ 49 ∷ 54 ∷ 50 ∷ 48 ∷ 9 ∷ 50 ∷ 9 ∷ 54 ∷ 48 ∷ 48 ∷ 9 ∷ 52 ∷ 48 ∷ 48 ∷ 10 ∷ []); ends = no_line 2 }
    ∷ record { text = clock_text ++ (112 ∷ 97 ∷ 105 ∷ 114 ∷ 9 ∷ 9 ∷ 50 ∷ 9 ∷ 54 ∷ 48 ∷ 48 ∷ 9 ∷ 52 ∷ 48 ∷ 48 ∷ 10 ∷ []); ends = no_line 2 }
    ∷ record { text = clock_text ++ (112 ∷ 97 ∷ 105 ∷ 114 ∷ 9 ∷ 48 ∷ 48 ∷ 9 ∷ 50 ∷ 9 ∷ 54 ∷ 48 ∷ 48 ∷ 9 ∷ 52 ∷ 48 ∷ 48 ∷ 10 ∷ []); ends = no_table }
    -- a digit g; 128 octets, which are no wire name, and 129
    ∷ record { text = clock_text ++ pair_of (48 ∷ 49 ∷ 54 ∷ 103 ∷ 48 ∷ 48 ∷ []); ends = no_line 2 }
    ∷ record { text = clock_text ++ pair_of (zeros 128); ends = no_table }
    ∷ record { text = clock_text ++ pair_of (zeros 129); ends = no_line 2 }
    -- a waiting key, and both; in the wrong order; two adopted ones; three
    ∷ record { text = clock_text ++ (other_text ++ (other_key ++ waiting_key)); ends = loaded (table_of (other ∷ [])) }
    ∷ record { text = clock_text ++ (other_text ++ waiting_key); ends = no_table }
    ∷ record { text = clock_text ++ (other_text ++ (waiting_key ++ other_key)); ends = no_table }
    ∷ record { text = clock_text ++ (other_text ++ (other_key ++ later_key)); ends = no_table }
    ∷ record { text = clock_text ++ (other_text ++ (other_key ++ (waiting_key ++ waiting_key))); ends = no_table }
    -- a line that does not read comes before a broken rule above it
    ∷ record { text = clock_text ++ (other_text ++ (waiting_key ++ (107 ∷ 101 ∷ 121 ∷ 10 ∷ []))); ends = no_line 4 }
    ∷ []

pub loads : Loads load_cases
unfolding loading load_cases
loads = (refl, (refl, (refl, (refl, (refl, (refl, (refl, (refl, (refl, (refl, (refl, (refl, (refl, (refl, (refl, (refl, (refl, (refl, (refl, (refl, (refl, (refl, (refl, (refl, (refl, (refl, (refl, tt)))))))))))))))))))))))))))

-- ── Mending ─────────────────────────────────────────────────────────────────────────────────────────────────────────

pub record MendCase : Type 0 where
  pub text : List ℕ
  pub ends : Mended

abbrev Mends : List MendCase → Type 0
Mends [] = Unit {0}
Mends (c ∷ cs) = (mend c.text ≡ c.ends) × Mends cs

abbrev at : ℕ → ℕ → Dropped
at line reason = record { line = line; reason = reason }

unfoldable pub mend_cases : List MendCase
mend_cases =
    -- no text; a clock line that does not read; one whose clock, or floor, breaks a rule
    record { text = []; ends = no_clock }
    ∷ record { text = (99 ∷ 108 ∷ 111 ∷ 99 ∷ 107 ∷ 9 ∷ 49 ∷ 48 ∷ 48 ∷ 48 ∷ 10 ∷ []) ++ (pair_text ++ key_text); ends = no_clock }
    ∷ record { text = (99 ∷ 108 ∷ 111 ∷ 99 ∷ 107 ∷ 9 ∷ 50 ∷ 56 ∷ 49 ∷ 52 ∷ 55 ∷ 52 ∷ 57 ∷ 55 ∷ 54 ∷ 55 ∷ 49 ∷ 48 ∷ 54 ∷ 53 ∷ 54 ∷ 9 ∷ 49 ∷ 10 ∷ []) ++ pair_text; ends = no_rule }
    ∷ record { text = (99 ∷ 108 ∷ 111 ∷ 99 ∷ 107 ∷ 9 ∷ 49 ∷ 48 ∷ 48 ∷ 48 ∷ 9 ∷ 52 ∷ 50 ∷ 57 ∷ 52 ∷ 57 ∷ 54 ∷ 55 ∷ 50 ∷ 57 ∷ 55 ∷ 10 ∷ []) ++ (pair_text ++ key_text); ends = no_rule }
    -- 02's example
    ∷ record { text = example; ends = mended (table_of (row suffix 2 (Adopted first) ∷ [])) ([]) }
    -- docs/SCRIPT.md's: clock>1000>1, pair, key
    ∷ record { text = clock_text ++ (112 ∷ 97 ∷ 105 ∷ 114 ∷ 10 ∷ 107 ∷ 101 ∷ 121 ∷ 10 ∷ []); ends = mended (table_of ([])) (at 2 18 ∷ at 3 18 ∷ []) }
    -- 18: `key` lines below line 1; a key line of the first pair that does not read; a line at the end with no newline
    ∷ record { text = clock_text ++ (key_text ++ (key_text ++ (pair_text ++ key_text))); ends = mended (table_of (row suffix 2 (Adopted first) ∷ [])) (at 2 18 ∷ at 3 18 ∷ []) }
    ∷ record { text = clock_text ++ (pair_text ++ ((107 ∷ 101 ∷ 121 ∷ 9 ∷ 97 ∷ 100 ∷ 111 ∷ 112 ∷ 116 ∷ 101 ∷ 100 ∷ 10 ∷ []) ++ (other_text ++ (other_key ++ waiting_key)))); ends = mended (table_of (other ∷ [])) (at 2 18 ∷ at 3 18 ∷ []) }
    ∷ record { text = clock_text ++ (pair_text ++ (key_text ++ (112 ∷ []))); ends = mended (table_of (row suffix 2 (Adopted first) ∷ [])) (at 4 18 ∷ []) }
    -- 14: the suffix once more, its A in upper case; even where its keys are in the wrong order; 18 comes before
    ∷ record { text = clock_text ++ (pair_text ++ (key_text ++ ((112 ∷ 97 ∷ 105 ∷ 114 ∷ 9 ∷ 48 ∷ 49 ∷ 52 ∷ 49 ∷ 48 ∷ 55 ∷ 54 ∷ 53 ∷ 55 ∷ 56 ∷ 54 ∷ 49 ∷ 54 ∷ 100 ∷ 55 ∷ 48 ∷ 54 ∷ 99 ∷ 54 ∷ 53 ∷ 48 ∷ 48 ∷ 9 ∷ 50 ∷ 9 ∷ 54 ∷ 48 ∷ 48 ∷ 9 ∷ 52 ∷ 48 ∷ 48 ∷ 10 ∷ []) ++ (other_text ++ (other_key ++ waiting_key))))); ends = mended (table_of (row suffix 2 (Adopted first) ∷ other ∷ [])) (at 4 14 ∷ []) }
    ∷ record { text = clock_text ++ (pair_text ++ (key_text ++ (pair_text ++ waiting_key))); ends = mended (table_of (row suffix 2 (Adopted first) ∷ [])) (at 4 14 ∷ at 5 14 ∷ []) }
    ∷ record { text = clock_text ++ (pair_text ++ (key_text ++ (pair_text ++ (107 ∷ 101 ∷ 121 ∷ 10 ∷ [])))); ends = mended (table_of (row suffix 2 (Adopted first) ∷ [])) (at 4 18 ∷ at 5 18 ∷ []) }
    -- a suffix is kept only with its pair: the first is dropped with 1, the second stays
    ∷ record { text = clock_text ++ (pair_text ++ (waiting_key ++ (pair_text ++ key_text))); ends = mended (table_of (row suffix 2 (Adopted first) ∷ [])) (at 2 1 ∷ at 3 1 ∷ []) }
    -- 1: a key made after the clock; one whose expiry does not fit 64 bits with L
    ∷ record { text = (99 ∷ 108 ∷ 111 ∷ 99 ∷ 107 ∷ 9 ∷ 57 ∷ 57 ∷ 57 ∷ 9 ∷ 49 ∷ 10 ∷ []) ++ (pair_text ++ key_text); ends = mended (record { clock = 999; floor = 1; rows = [] }) (at 2 1 ∷ at 3 1 ∷ []) }
    ∷ record { text = clock_text ++ (pair_text ++ (107 ∷ 101 ∷ 121 ∷ 9 ∷ 97 ∷ 100 ∷ 111 ∷ 112 ∷ 116 ∷ 101 ∷ 100 ∷ 9 ∷ 49 ∷ 9 ∷ 104 ∷ 109 ∷ 97 ∷ 99 ∷ 45 ∷ 115 ∷ 104 ∷ 97 ∷ 50 ∷ 53 ∷ 54 ∷ 9 ∷ 49 ∷ 56 ∷ 52 ∷ 52 ∷ 54 ∷ 55 ∷ 52 ∷ 52 ∷ 48 ∷ 55 ∷ 51 ∷ 55 ∷ 48 ∷ 57 ∷ 53 ∷ 53 ∷ 49 ∷ 54 ∷ 49 ∷ 53 ∷ 9 ∷ 49 ∷ 56 ∷ 52 ∷ 52 ∷ 54 ∷ 55 ∷ 52 ∷ 52 ∷ 48 ∷ 55 ∷ 51 ∷ 55 ∷ 48 ∷ 57 ∷ 53 ∷ 53 ∷ 49 ∷ 54 ∷ 49 ∷ 53 ∷ 9 ∷ 53 ∷ 57 ∷ 57 ∷ 10 ∷ [])); ends = mended (table_of ([])) (at 2 1 ∷ at 3 1 ∷ []) }
    ∷ []

pub mends : Mends mend_cases
unfolding loading mend_cases
mends = (refl, (refl, (refl, (refl, (refl, (refl, (refl, (refl, (refl, (refl, (refl, (refl, (refl, (refl, (refl, tt)))))))))))))))

-- A listing of 66 pairs, the suffixes 2, n, n, 0 for n below 66.
abbrev rows_to : ℕ → List Row → List Row
rows_to zero rs = rs
rows_to (suc n) rs = rows_to n (row (2 ∷ n ∷ n ∷ 0 ∷ []) 1 Empty ∷ rs)

-- 15: behind 64 pairs that are kept one more; 14 comes before, of the first suffix once more; and 1 behind, of a pair whose only key waits.
pub full :
    mend (listing (table_of (rows_to 65 [])) ++ (pair_of (48 ∷ 50 ∷ 48 ∷ 48 ∷ 48 ∷ 48 ∷ 48 ∷ 48 ∷ []) ++ (other_text ++ waiting_key)))
    ≡ mended (table_of (rows_to 64 [])) (at 66 15 ∷ at 67 14 ∷ at 68 15 ∷ at 69 15 ∷ [])
unfolding loading
full = refl

-- With room to name one line that is ROOM, with room for two it is not; and a table lists in the octets that it takes, and not in one less.
pub no_room_lem : mend_in 1 (clock_text ++ (key_text ++ (key_text ++ []))) ≡ no_room
unfolding loading
no_room_lem = refl

pub just_room : mend_in 2 (clock_text ++ (key_text ++ (key_text ++ []))) ≡ mended (table_of []) (at 2 18 ∷ at 3 18 ∷ [])
unfolding loading
just_room = refl

pub room_to_list : (list_in 116 (table_of (other ∷ [])) ≡ too_long) × (list_in 117 (table_of (other ∷ [])) ≡ lists (clock_text ++ (other_text ++ (other_key ++ waiting_key))))
unfolding loading
room_to_list = (refl, refl)

-- Loading the 66: over 64 pairs break a table rule.
pub too_full : load (listing (table_of (rows_to 66 []))) ≡ no_table
unfolding loading
too_full = refl
