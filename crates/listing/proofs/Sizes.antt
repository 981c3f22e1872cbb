-- How long a listing can be: 48 octets for the clock's line and 541 for each pair, in a table that keeps the rules. Assumes nothing.
use Prim.Native.Nat.{ℕ, ◌+◌, ◌*◌, ◌^◌, ◌≤◌, ◌<◌}
use mathlib.Core.Path.{◌≡◌, refl}
use mathlib.Core.Bool.{Bool, true, false}
use mathlib.Core.List.{List, [], ◌∷◌, map}
use native.Mathlib.Omega.{arith}
use lib.Dec.{leb, eqb}
use lib.ListN.{length, length-append}
use borrow.Author.Tests.{leb-true, ltb-true}
use Rattle.model.specs.declared.Algorithm.{Algorithm}
use Rattle.model.specs.declared.Algorithm.TheVariants.{Sha256, Sha384, Sha512}
use Rattle.model.specs.declared.Key.{Key}
use Rattle.model.specs.declared.Keys.{Keys}
use Rattle.model.specs.declared.Keys.TheVariants.{Empty, Adopted, Renewing}
use Rattle.model.specs.declared.Pair.{Pair}
use Rattle.model.specs.Octets.{part}
use Rattle.model.specs.Names.{decimal, algorithm_name}
use Rattle.model.specs.Tables.{Row, Table, every, names_of, suffix_ok, serial_rule, clock_rule, pair_rule, table_rules}
use Rattle.model.specs.Text.{numeral, hex_of, parted_by, line_of}
use Rattle.model.specs.Listing.{tabbed, clock_line, pair_line, adopted_word, waiting_word, algorithm_word, key_line, key_lines, row_lines, rows_lines, listing}
use Rattle.model.proofs.Tests.{left, right}
use Rattle.model.proofs.NameLaws.{decimal_short}
use Rattle.model.proofs.RuleFacts.{KeyOk, KeysOk, PairOk, pair_sound}
use Rattle.model.proofs.Rows.{tests}

-- ── Fields ──────────────────────────────────────────────────────────────────────────────────────────────────────────

numeral_short : (n : ℕ) → n < 2 ^ 64 → length (numeral n) ≤ 20
unfolding numeral
numeral_short n h = go (eqb n 0) (decimal_short 20 n (omega arith))
  where
    go : (b : Bool) → length (decimal n) ≤ 20 → length {A = ℕ} (elim b [ true ↦ 48 ∷ [] | false ↦ decimal n ]) ≤ 20
    go true d = omega arith
    go false d = d

hex_length : (s : List ℕ) → length (hex_of s) ≡ 2 * length s
unfolding hex_of
hex_length [] = refl
hex_length (x ∷ s) = omega (arith, hex_length s)

word_length : (g : Algorithm) → length (algorithm_word g) ≡ 11
unfolding algorithm_word algorithm_name part
word_length Sha256 = refl
word_length Sha384 = refl
word_length Sha512 = refl

field_length : (f : List ℕ) (fs : List (List ℕ)) → length (parted_by 9 (f ∷ fs)) ≡ 1 + length f + length (parted_by 9 fs)
unfolding parted_by
field_length f fs = simp length-append (omega arith)

end_length : length (parted_by 9 []) ≡ 1
unfolding parted_by
end_length = refl

-- ── Lines ───────────────────────────────────────────────────────────────────────────────────────────────────────────

clock_short : (clock floor : ℕ) → clock < 2 ^ 64 → floor < 2 ^ 64 → length (clock_line clock floor) ≤ 48
unfolding clock_line tabbed line_of
clock_short clock floor h k = simp (field_length, end_length) (omega (arith, numeral_short clock h, numeral_short floor k))

pair_short : (c : ℕ) (x : List ℕ) (p : Pair) → length x ≤ 128 → PairOk c p → length (pair_line x p) ≤ 325
unfolding pair_line tabbed line_of
pair_short c x p h o =
    simp (field_length, end_length, hex_length)
    (omega (arith, numeral_short p.next_serial (omega arith), numeral_short p.lifetime (omega arith), numeral_short p.fresh (omega arith)))

key_short : {l n c : ℕ} (state : List ℕ) (k : Key) → length state ≡ 7 → n ≤ 2 ^ 32 → KeyOk l n c k → length (key_line state k) ≤ 108
unfolding key_line tabbed line_of
key_short state k e h o =
    simp (field_length, end_length, word_length)
    (omega (arith, numeral_short k.serial (omega arith), numeral_short k.inception (omega arith), numeral_short k.partial (omega arith), numeral_short k.expiry (omega arith)))

keys_short : (l n c : ℕ) (ks : Keys) → n ≤ 2 ^ 32 → KeysOk l n c ks → length (key_lines ks) ≤ 216
unfolding key_lines adopted_word waiting_word
keys_short l n c Empty h o = omega arith
keys_short l n c (Adopted a) h o = omega (arith, key_short adopted_word a refl h o)
keys_short l n c (Renewing a w) h o = simp length-append (omega (arith, key_short adopted_word a refl h o.0, key_short waiting_word w refl h o.1))

-- ── Rows ────────────────────────────────────────────────────────────────────────────────────────────────────────────

suffix_short : (x : List ℕ) → suffix_ok x ≡ true → length x ≤ 128
unfolding suffix_ok
suffix_short x e = leb-true (length x) 128 (left (leb (length x) 128) _ (right (leb 3 (length x)) _ e))

row_short : (c : ℕ) (r : Row) → suffix_ok r.suffix ≡ true → pair_rule c r.pair ≡ true → length (row_lines r) ≤ 541
unfolding row_lines
row_short c r e f =
    let o = pair_sound c r.pair f in
    simp length-append
    (omega (arith, pair_short c r.suffix r.pair (suffix_short r.suffix e) o, keys_short r.pair.lifetime r.pair.next_serial c r.pair.keys o.last o.keys_ok))

rows_short : (c : ℕ) (rs : List Row) → every suffix_ok (map (λ r. r.suffix) rs) ≡ true → every (λ r. pair_rule c r.pair) rs ≡ true → length (rows_lines rs) ≤ 541 * length rs
unfolding rows_lines
rows_short c [] e f = omega arith
rows_short c (r ∷ rs) e f =
    let s = suffix_ok r.suffix in
    let p = pair_rule c r.pair in
    simp length-append
    (omega (arith, row_short c r (left s _ e) (left p _ f), rows_short c rs (right s _ e) (right p _ f)))

pub listing_short : (t : Table) → table_rules t ≡ true → length (listing t) ≤ 48 + 541 * length t.rows
unfolding listing names_of clock_rule serial_rule
listing_short t e =
    let k = tests t e in
    let f : t.floor ≤ 0x1_0000_0000 = leb-true t.floor 0x1_0000_0000 (right (leb 1 t.floor) _ k.1.1.1.1.1.0) in
    let h : t.clock < 0x1_0000_0000_0000 = ltb-true t.clock 0x1_0000_0000_0000 k.1.0 in
    simp length-append
    (omega (arith, clock_short t.clock t.floor (omega arith) (omega arith), rows_short t.clock t.rows k.1.1.0 k.1.1.1.1.0))
