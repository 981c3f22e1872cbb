-- Loading and listing undo each other (02, CR 7). Assumes nothing.
use mathlib.Core.Path.{◌≡◌, refl, sym, ap, ap₂, ◌∙◌, subst}
use mathlib.Core.Bool.{Bool, true, false, cond, ◌&&◌, not, false≢true}
use Rattle.std.specs.Prelude.{Option, None, Some}
use Rattle.std.proofs.lemmas.Option.{same_Some, none-some}
use mathlib.Core.List.{List, [], ◌∷◌, ◌++◌, append_assoc, map}
use Prim.Native.Nat.{ℕ, suc, ◌≤◌}
use native.Mathlib.Omega.{arith}
use lib.Dec.{leb}
use lib.ListN.{length}
use borrow.Author.Tests.{leb-true, not-true}
use Rattle.model.specs.declared.Key.{Key}
use Rattle.model.specs.declared.Keys.{Keys}
use Rattle.model.specs.declared.Keys.TheVariants.{Empty, Adopted, Renewing}
use Rattle.model.specs.declared.Pair.{Pair}
use Rattle.model.specs.Names.{wire_name}
use Rattle.model.specs.Pairs.{with_keys}
use Rattle.model.specs.Tables.{Row, Table, every, names_of, suffix_ok, pair_rule, table_rules}
use Rattle.model.specs.Listing.{clock_line, pair_line, adopted_word, waiting_word, key_line, key_lines, row_lines, rows_lines, listing}
use Rattle.model.specs.declared.Clocked.{Clocked}
use Rattle.model.specs.declared.Stated.{Stated}
use Rattle.model.specs.Lines.{lines_of, is_key_line, are_octets, given, read_clock, read_pair, read_key}
use Rattle.model.specs.Loading.{Block, Blocks, blocks_from, blocks_of, is_some, reads_as, unread_or, unread_from, first_unread, keys_of, read_keys, Entry, unread, says, entry_from, entry_of, row_from, rows_of, rows_below, table_said, Loaded, no_line, no_table, loaded, loaded_by, load}
use Rattle.model.proofs.Tests.{left, right, both, each}
use Rattle.model.proofs.RuleFacts.{KeyOk, KeysOk, PairOk, pair_sound}
use Rattle.model.proofs.Rows.{tests, floor_ok, early_clock}
use Rattle.model.proofs.Fields.{only_if_some, given_is, state_word}
use Rattle.model.proofs.LineLaws.{Word64, clock_back, clock_is, pair_back, pair_is, KeyFits, key_back, key_is, joined, lines_joined, clock_first, pair_first, key_first, key_begins, pair_begins}

-- ── The lines of a listing ──────────────────────────────────────────────────────────────────────────────────────────

-- A pair's lines, and those of the pairs.
abbrev pub keys_below : Keys → List (List ℕ)
keys_below Empty = []
keys_below (Adopted a) = key_line adopted_word a ∷ []
keys_below (Renewing a w) = key_line adopted_word a ∷ key_line waiting_word w ∷ []

abbrev pub block_of : Row → Block
block_of r = record { starts = pair_line r.suffix r.pair; below = keys_below r.pair.keys }

abbrev pub flat : List Block → List (List ℕ)
flat [] = []
flat (b ∷ bs) = b.starts ∷ (b.below ++ flat bs)

keys_first : (ks : Keys) (x : List ℕ) → lines_of (key_lines ks ++ x) ≡ keys_below ks ++ lines_of x
unfolding key_lines
keys_first Empty x = refl
keys_first (Adopted a) x = key_first true a x
keys_first (Renewing a w) x =
    ap lines_of (append_assoc (key_line adopted_word a) (key_line waiting_word w) x)
    ∙ key_first true a (key_line waiting_word w ++ x)
    ∙ ap (λ (ls : List (List ℕ)). key_line adopted_word a ∷ ls) (key_first false w x)

rows_lines_lem : (rs : List Row) → lines_of (rows_lines rs) ≡ flat (map block_of rs)
unfolding rows_lines row_lines lines_of
rows_lines_lem [] = refl
rows_lines_lem (r ∷ rs) =
    let p = pair_line r.suffix r.pair in
    let k = r.pair.keys in
    ap lines_of (append_assoc p (key_lines k) (rows_lines rs))
    ∙ pair_first r (key_lines k ++ rows_lines rs)
    ∙ ap (λ (ls : List (List ℕ)). p ∷ ls) (keys_first k (rows_lines rs) ∙ ap (λ (ls : List (List ℕ)). keys_below k ++ ls) (rows_lines_lem rs))

pub listing_lines_lem : (t : Table) → lines_of (listing t) ≡ clock_line t.clock t.floor ∷ flat (map block_of t.rows)
unfolding listing
listing_lines_lem t = clock_first t.clock t.floor (rows_lines t.rows) ∙ ap (λ (ls : List (List ℕ)). clock_line t.clock t.floor ∷ ls) (rows_lines_lem t.rows)

-- They belong as they were listed.
keys_belong : (ks : Keys) (ls : List (List ℕ)) (bs : List Block) → blocks_of ls ≡ record { loose = []; blocks = bs } → blocks_of (keys_below ks ++ ls) ≡ record { loose = keys_below ks; blocks = bs }
unfolding blocks_of
keys_belong Empty ls bs e = e
keys_belong (Adopted a) ls bs e = rw (key_begins adopted_word a, e) refl
keys_belong (Renewing a w) ls bs e = rw (key_begins adopted_word a, key_begins waiting_word w, e) refl

pub rows_belong : (rs : List Row) → blocks_of (flat (map block_of rs)) ≡ record { loose = []; blocks = map block_of rs }
unfolding blocks_of
rows_belong [] = refl
rows_belong (r ∷ rs) = rw (pair_begins r.suffix r.pair, keys_belong r.pair.keys (flat (map block_of rs)) (map block_of rs) (rows_belong rs)) refl

-- ── What is listed says its table ───────────────────────────────────────────────────────────────────────────────────

abbrev KeysFit : Keys → Type 0
KeysFit Empty = Unit {0}
KeysFit (Adopted a) = KeyFits a
KeysFit (Renewing a w) = KeyFits a × KeyFits w

pub record RowFits (r : Row) : Type 0 where
  pub octets : are_octets r.suffix ≡ true
  pub some_octets : 1 ≤ length r.suffix
  pub short : length r.suffix ≤ 128
  pub next_fits : Word64 r.pair.next_serial
  pub lifetime_fits : Word64 r.pair.lifetime
  pub fresh_fits : Word64 r.pair.fresh
  pub keys_fit : KeysFit r.pair.keys

keys_said : (ks : Keys) → KeysFit ks → (ss : List Stated) × (read_keys (keys_below ks) ≡ Some ss) × (keys_of ss ≡ Some ks)
unfolding read_keys keys_of
keys_said Empty f = ([], refl, refl)
keys_said (Adopted a) f = (record { adopted = true; key = a } ∷ [], rw (key_back true a f) refl, refl)
keys_said (Renewing a w) f = (record { adopted = true; key = a } ∷ record { adopted = false; key = w } ∷ [], rw (key_back true a f.0, key_back false w f.1) refl, refl)

pub row_said : (r : Row) → RowFits r → entry_of (block_of r) ≡ says r.suffix (Some r.pair)
unfolding entry_of with_keys
row_said r f =
    let p = r.pair in
    let k = keys_said p.keys f.keys_fit in
    rw (pair_back r.suffix p f.octets f.some_octets f.short f.next_fits f.lifetime_fits f.fresh_fits, k.1, k.2) refl

abbrev AllFit : List Row → Type 0
AllFit [] = Unit {0}
AllFit (r ∷ rs) = RowFits r × AllFit rs

rows_said : (rs : List Row) → AllFit rs → rows_of (map block_of rs) ≡ Some rs
unfolding rows_of
rows_said [] f = refl
rows_said (r ∷ rs) f = rw (row_said r f.0, rows_said rs f.1) refl

table_said_lem : (t : Table) → Word64 t.clock → Word64 t.floor → AllFit t.rows → table_said (lines_of (listing t)) ≡ Some t
unfolding table_said
table_said_lem t c f a = rw (listing_lines_lem t, clock_back t.clock t.floor c f, rows_belong t.rows, rows_said t.rows a) refl

-- The rules say that all fits, but that suffixes are octets.
key_fits : {l n c : ℕ} {k : Key} → n ≤ 0x1_0000_0000 → KeyOk l n c k → KeyFits k
key_fits h o = record { serial_fits = omega arith; inception_fits = omega arith; partial_fits = omega arith; expiry_fits = omega arith }

keys_fit_by : (l n c : ℕ) (ks : Keys) → n ≤ 0x1_0000_0000 → KeysOk l n c ks → KeysFit ks
keys_fit_by l n c Empty h o = tt
keys_fit_by l n c (Adopted a) h o = key_fits h o
keys_fit_by l n c (Renewing a w) h o = (key_fits h o.0, key_fits h o.1)

row_fits : (c : ℕ) (r : Row) → are_octets r.suffix ≡ true → suffix_ok r.suffix ≡ true → PairOk c r.pair → RowFits r
unfolding suffix_ok
row_fits c r o s p =
    let t = each (leb 3 (length r.suffix) ∷ leb (length r.suffix) 128 ∷ wire_name r.suffix ∷ []) s in
    let three = leb-true 3 (length r.suffix) t.0 in
    record {
      octets = o;
      some_octets = omega arith;
      short = leb-true (length r.suffix) 128 t.1.0;
      next_fits = omega arith;
      lifetime_fits = omega arith;
      fresh_fits = omega arith;
      keys_fit = keys_fit_by r.pair.lifetime r.pair.next_serial c r.pair.keys (omega arith) p.keys_ok;
    }

pub rows_fit : (c : ℕ) (rs : List Row) → every are_octets (map (λ r. r.suffix) rs) ≡ true → every suffix_ok (map (λ r. r.suffix) rs) ≡ true → every (λ r. pair_rule c r.pair) rs ≡ true → AllFit rs
rows_fit c [] o s p = tt
rows_fit c (r ∷ rs) o s p = (
  row_fits c r (left (are_octets r.suffix) (every are_octets (map (λ r. r.suffix) rs)) o) (left (suffix_ok r.suffix) (every suffix_ok (map (λ r. r.suffix) rs)) s) (pair_sound c r.pair (left (pair_rule c r.pair) (every (λ r. pair_rule c r.pair) rs) p)),
  rows_fit c rs (right (are_octets r.suffix) (every are_octets (map (λ r. r.suffix) rs)) o) (right (suffix_ok r.suffix) (every suffix_ok (map (λ r. r.suffix) rs)) s) (right (pair_rule c r.pair) (every (λ r. pair_rule c r.pair) rs) p),
)

pub table_fits : (t : Table) → table_rules t ≡ true → every are_octets (names_of t) ≡ true → AllFit t.rows
unfolding names_of
table_fits t r o = let u = tests t r in rows_fit t.clock t.rows o u.1.1.0 u.1.1.1.1.0

pub listing_said : (t : Table) → table_rules t ≡ true → every are_octets (names_of t) ≡ true → table_said (lines_of (listing t)) ≡ Some t
listing_said t r o =
    let f = floor_ok t r in
    let c = early_clock t r in
    table_said_lem t (omega arith) (omega arith) (table_fits t r o)

-- ── What says a table is its listing ────────────────────────────────────────────────────────────────────────────────

blocks_from_lem : (b : Bool) (l : List ℕ) (g : Blocks) → l ∷ (g.loose ++ flat g.blocks) ≡ (blocks_from b l g).loose ++ flat (blocks_from b l g).blocks
blocks_from_lem true l g = refl
blocks_from_lem false l g = refl

-- Blocks have all the lines, in order.
pub blocks_flat : (ls : List (List ℕ)) → ls ≡ (blocks_of ls).loose ++ flat (blocks_of ls).blocks
unfolding blocks_of
blocks_flat [] = refl
blocks_flat (l ∷ ls) = ap (λ (x : List (List ℕ)). l ∷ x) (blocks_flat ls) ∙ blocks_from_lem (is_key_line l) l (blocks_of ls)

-- Keys, in number and order.
abbrev stated : Stated → List ℕ
stated k = key_line (state_word k.adopted) k.key

keys_stated : (ls : List (List ℕ)) (ss : List Stated) → read_keys ls ≡ Some ss → ls ≡ map stated ss
unfolding read_keys
keys_stated [] ss e = ap (map stated) (same_Some [] ss e)
keys_stated (l ∷ ls) ss e =
    let g = given_is (read_key l) (λ k. given (read_keys ls) λ ks. Some (k ∷ ks)) ss e in
    let h = given_is (read_keys ls) (λ ks. Some (g.0 ∷ ks)) ss g.2 in
    ap₂ (λ (x : List ℕ) (y : List (List ℕ)). x ∷ y) (key_is l g.0 g.1) (keys_stated ls h.0 h.1) ∙ ap (map stated) (same_Some (g.0 ∷ h.0) ss h.2)

keys_order : (ss : List Stated) (ks : Keys) → keys_of ss ≡ Some ks → map stated ss ≡ keys_below ks
unfolding keys_of
keys_order [] ks e = ap keys_below (same_Some Empty ks e)
keys_order (a ∷ []) ks e =
    let p = only_if_some a.adopted (Some (Adopted a.key)) ks e in
    ap (λ (b : Bool). key_line (state_word b) a.key ∷ []) p.0 ∙ ap keys_below (same_Some (Adopted a.key) ks p.1)
keys_order (a ∷ w ∷ []) ks e =
    let p = only_if_some (a.adopted && not w.adopted) (Some (Renewing a.key w.key)) ks e in
    let yes : a.adopted ≡ true = left a.adopted (not w.adopted) p.0 in
    let no : w.adopted ≡ false = not-true w.adopted (right a.adopted (not w.adopted) p.0) in
    ap₂ (λ (b c : Bool). key_line (state_word b) a.key ∷ key_line (state_word c) w.key ∷ []) yes no ∙ ap keys_below (same_Some (Renewing a.key w.key) ks p.1)
keys_order (a ∷ w ∷ k ∷ ss) ks e = absurd (none-some ks e)

-- What a block that says a row has in it: it is the row's block.
pub record Said (b : Block) (r : Row) : Type 0 where
  pub is : b ≡ block_of r
  pub octets : are_octets r.suffix ≡ true

said_row : (b : Block) (r q : Row) (ss : List Stated) (o : Option Keys)
    → read_pair b.starts ≡ Some q
    → read_keys b.below ≡ Some ss
    → keys_of ss ≡ o
    → row_from (says q.suffix (given o λ keys. Some (with_keys q.pair q.pair.next_serial keys))) ≡ Some r
    → Said b r
unfolding pair_line with_keys
said_row b r q ss None p k e f = absurd (none-some r f)
said_row b r q ss (Some ks) p k e f =
    let w : Row = record { suffix = q.suffix; pair = with_keys q.pair q.pair.next_serial ks } in
    let same : w ≡ r = same_Some w r f in
    let s = pair_is b.starts q p in
    let below : b.below ≡ keys_below ks = keys_stated b.below ss k ∙ keys_order ss ks e in
    let starts = s.is in
    let block : b ≡ block_of w = λ i. record { starts = starts i; below = below i } in
    record {
      is = block ∙ ap block_of same;
      octets = subst (λ (r : Row). are_octets r.suffix ≡ true) same s.octets;
    }

pub block_says : (b : Block) (r : Row) → row_from (entry_of b) ≡ Some r → Said b r
unfolding entry_of
block_says b r e = go (read_pair b.starts) (read_keys b.below) refl refl e
  where
    go : (o : Option Row) (p : Option (List Stated)) → read_pair b.starts ≡ o → read_keys b.below ≡ p → row_from (entry_from o p) ≡ Some r → Said b r
    go None p x y e = absurd (none-some r e)
    go (Some q) None x y e = absurd (none-some r e)
    go (Some q) (Some ss) x y e = said_row b r q ss (keys_of ss) x y refl e

pub record AllSaid (b : Block) (bs : List Block) (rs : List Row) : Type 0 where
  pub row : Row
  pub rows : List Row
  pub first_says : row_from (entry_of b) ≡ Some row
  pub rest_says : rows_of bs ≡ Some rows
  pub is : row ∷ rows ≡ rs

pub rows_say : (b : Block) (bs : List Block) (rs : List Row) → rows_of (b ∷ bs) ≡ Some rs → AllSaid b bs rs
unfolding rows_of
rows_say b bs rs e =
    let g = given_is (row_from (entry_of b)) (λ r. given (rows_of bs) λ rs. Some (r ∷ rs)) rs e in
    let h = given_is (rows_of bs) (λ rs. Some (g.0 ∷ rs)) rs g.2 in
    record { row = g.0; rows = h.0; first_says = g.1; rest_says = h.1; is = same_Some (g.0 ∷ h.0) rs h.2 }

pub rows_are : (bs : List Block) (rs : List Row) → rows_of bs ≡ Some rs → (bs ≡ map block_of rs) × (every are_octets (map (λ r. r.suffix) rs) ≡ true)
unfolding rows_of
rows_are [] rs e = let is = same_Some [] rs e in (ap (map block_of) is, ap (λ (rs : List Row). every are_octets (map (λ r. r.suffix) rs)) (sym is))
rows_are (b ∷ bs) rs e =
    let a = rows_say b bs rs e in
    let s = block_says b a.row a.first_says in
    let r = rows_are bs a.rows a.rest_says in (
      ap₂ (λ (x : Block) (y : List Block). x ∷ y) s.is r.0 ∙ ap (map block_of) a.is,
      ap (λ (rs : List Row). every are_octets (map (λ r. r.suffix) rs)) (sym a.is) ∙ both (are_octets a.row.suffix) _ s.octets r.1,
    )

-- What lines that say a table have in them.
pub record Tabled (l : List ℕ) (ls : List (List ℕ)) (t : Table) : Type 0 where
  pub clocked : Clocked
  pub rows : List Row
  pub clock_reads : read_clock l ≡ Some clocked
  pub none_loose : (blocks_of ls).loose ≡ []
  pub rows_read : rows_of (blocks_of ls).blocks ≡ Some rows
  pub is : record { clock = clocked.clock; floor = clocked.floor; rows = rows } ≡ t

rows_below_lem : (ls : List (List ℕ)) (bs : List Block) (rs : List Row) → rows_below ls bs ≡ Some rs → (ls ≡ []) × (rows_of bs ≡ Some rs)
rows_below_lem [] bs rs e = (refl, e)
rows_below_lem (l ∷ ls) bs rs e = absurd (none-some rs e)

pub table_says : (l : List ℕ) (ls : List (List ℕ)) (t : Table) → table_said (l ∷ ls) ≡ Some t → Tabled l ls t
unfolding table_said
table_says l ls t e =
    let below = rows_below (blocks_of ls).loose (blocks_of ls).blocks in
    let g = given_is (read_clock l) (λ c. given below λ rs. Some (record { clock = c.clock; floor = c.floor; rows = rs })) t e in
    let h = given_is below (λ rs. Some (record { clock = g.0.clock; floor = g.0.floor; rows = rs })) t g.2 in
    let r = rows_below_lem (blocks_of ls).loose (blocks_of ls).blocks h.0 h.1 in
    record { clocked = g.0; rows = h.0; clock_reads = g.1; none_loose = r.0; rows_read = r.1; is = same_Some _ t h.2 }

said_lines : (ls : List (List ℕ)) (t : Table) → table_said ls ≡ Some t → (ls ≡ lines_of (listing t)) × (every are_octets (names_of t) ≡ true)
unfolding table_said names_of
said_lines [] t e = absurd (none-some t e)
said_lines (l ∷ ls) t e =
    let a = table_says l ls t e in
    let c = a.clocked in
    let r = rows_are (blocks_of ls).blocks a.rows a.rows_read in (
      ap₂ (λ (x : List ℕ) (y : List (List ℕ)). x ∷ y) (clock_is l c a.clock_reads) (blocks_flat ls ∙ ap₂ (λ (x : List (List ℕ)) (y : List Block). x ++ flat y) a.none_loose r.0)
          ∙ sym (listing_lines_lem (record { clock = c.clock; floor = c.floor; rows = a.rows }))
          ∙ ap (λ (t : Table). lines_of (listing t)) a.is,
      ap (λ (t : Table). every are_octets (names_of t)) (sym a.is) ∙ r.1,
    )

-- ── Where every block reads, every line does ────────────────────────────────────────────────────────────────────────

pub row_says : (b : Block) (r : Row) → row_from (entry_of b) ≡ Some r → entry_of b ≡ says r.suffix (Some r.pair)
row_says b r e = go (entry_of b) e
  where
    go : (x : Entry) → row_from x ≡ Some r → x ≡ says r.suffix (Some r.pair)
    go unread e = absurd (none-some r e)
    go (says s None) e = absurd (none-some r e)
    go (says s (Some p)) e = ap (λ (r : Row). says r.suffix (Some r.pair)) (same_Some (record { suffix = s; pair = p }) r e)

-- The lines of every block read.
abbrev pub AllRead : List Block → Type 0
AllRead [] = Unit {0}
AllRead (b ∷ bs) = ((s : List ℕ) × (p : Option Pair) × (entry_of b ≡ says s p)) × AllRead bs

rows_all_read : (bs : List Block) (rs : List Row) → rows_of bs ≡ Some rs → AllRead bs
rows_all_read [] rs e = tt
rows_all_read (b ∷ bs) rs e = let a = rows_say b bs rs e in ((a.row.suffix, Some a.row.pair, row_says b a.row a.first_says), rows_all_read bs a.rows a.rest_says)

entry_reads : (b : Block) (s : List ℕ) (p : Option Pair) → entry_of b ≡ says s p → (is_some (read_pair b.starts) ≡ true) × (is_some (read_keys b.below) ≡ true)
unfolding entry_of
entry_reads b s p e = go (read_pair b.starts) (read_keys b.below) e
  where
    go : (o : Option Row) (k : Option (List Stated)) → entry_from o k ≡ says s p → (is_some o ≡ true) × (is_some k ≡ true)
    go None k e = let z : ◌≡◌ {A = ℕ} 0 1 = cc in absurd (omega arith)
    go (Some r) None e = let z : ◌≡◌ {A = ℕ} 0 1 = cc in absurd (omega arith)
    go (Some r) (Some ks) e = (refl, refl)

keys_there : (l : List ℕ) (ls : List (List ℕ)) → is_some (read_keys (l ∷ ls)) ≡ true → (is_some (read_key l) ≡ true) × (is_some (read_keys ls) ≡ true)
unfolding read_keys
keys_there l ls e = go (read_key l) (read_keys ls) e
  where
    go : (o : Option Stated) (p : Option (List Stated)) → is_some (given o λ k. given p λ ks. Some (k ∷ ks)) ≡ true → (is_some o ≡ true) × (is_some p ≡ true)
    go None p e = absurd (false≢true e)
    go (Some k) None e = absurd (false≢true e)
    go (Some k) (Some ks) e = (refl, refl)

-- A line that starts a pair, and those below it.
starts_read :
    (top : Bool) (n : ℕ) (l : List ℕ) (ls : List (List ℕ))
    → AllRead (blocks_from false l (blocks_of ls)).blocks
    → (is_some (read_keys (blocks_of ls).loose) ≡ true → AllRead (blocks_of ls).blocks → unread_from false (suc n) ls ≡ None)
    → unread_or (reads_as false top l) n (unread_from false (suc n) ls) ≡ None
starts_read top n l ls f rec =
    let s = entry_reads (record { starts = l; below = (blocks_of ls).loose }) f.0.0 f.0.1 f.0.2 in
    rw s.0 (rec s.1 f.1)

all_read : (n : ℕ) (ls : List (List ℕ)) → is_some (read_keys (blocks_of ls).loose) ≡ true → AllRead (blocks_of ls).blocks → unread_from false n ls ≡ None
unfolding blocks_of unread_from
all_read n [] e f = refl
all_read n (l ∷ ls) e f = go (is_key_line l) e f (all_read (suc n) ls)
  where
    go :
        (b : Bool)
        → is_some (read_keys (blocks_from b l (blocks_of ls)).loose) ≡ true
        → AllRead (blocks_from b l (blocks_of ls)).blocks
        → (is_some (read_keys (blocks_of ls).loose) ≡ true → AllRead (blocks_of ls).blocks → unread_from false (suc n) ls ≡ None)
        → unread_or (reads_as b false l) n (unread_from (false && b) (suc n) ls) ≡ None
    go true e f rec = let g = keys_there l (blocks_of ls).loose e in rw g.0 (rec g.1 f)
    go false e f rec = starts_read false n l ls f rec

pub below_read : (n : ℕ) (ls : List (List ℕ)) → (blocks_of ls).loose ≡ [] → AllRead (blocks_of ls).blocks → unread_from true n ls ≡ None
unfolding blocks_of unread_from
below_read n [] e f = refl
below_read n (l ∷ ls) e f = go (is_key_line l) e f
  where
    go :
        (b : Bool)
        → (blocks_from b l (blocks_of ls)).loose ≡ []
        → AllRead (blocks_from b l (blocks_of ls)).blocks
        → unread_or (reads_as b true l) n (unread_from (true && b) (suc n) ls) ≡ None
    go true e f = let z = ap (λ (x : List (List ℕ)). length x) e in absurd (omega arith)
    go false e f = starts_read true n l ls f (all_read (suc n) ls)

pub said_reads : (ls : List (List ℕ)) (t : Table) → table_said ls ≡ Some t → first_unread ls ≡ None
unfolding first_unread table_said
said_reads [] t e = absurd (none-some t e)
said_reads (l ∷ ls) t e =
    let a = table_says l ls t e in
    let c : is_some (read_clock l) ≡ true = ap is_some a.clock_reads in
    rw c (below_read 2 ls a.none_loose (rows_all_read (blocks_of ls).blocks a.rows a.rows_read))

-- ── Loading ─────────────────────────────────────────────────────────────────────────────────────────────────────────

-- What a text that loads has in it.
pub record Loading (s : List ℕ) (t : Table) : Type 0 where
  pub said : table_said (lines_of s) ≡ Some t
  pub rules : table_rules t ≡ true
  pub octets : every are_octets (names_of t) ≡ true
  pub text : listing t ≡ s

is_table : Loaded → Option Table
is_table (no_line n) = None
is_table no_table = None
is_table (loaded t) = Some t

loaded_inj : (t u : Table) → loaded t ≡ loaded u → t ≡ u
unfolding is_table
loaded_inj t u e = same_Some t u (ap is_table e)

loaded_by_lem : (t : Table) (n : Option ℕ) (o : Option Table) → loaded_by n o ≡ loaded t → (o ≡ Some t) × (table_rules t ≡ true)
loaded_by_lem t (Some n) o e = let z : ◌≡◌ {A = ℕ} 0 1 = cc in absurd (omega arith)
loaded_by_lem t None None e = let z : ◌≡◌ {A = ℕ} 0 1 = cc in absurd (omega arith)
loaded_by_lem t None (Some u) e = go (table_rules u) refl e
  where
    go : (b : Bool) → table_rules u ≡ b → cond b (loaded u) no_table ≡ loaded t → (◌≡◌ {A = Option Table} (Some u) (Some t)) × (table_rules t ≡ true)
    go true r e = let is = loaded_inj u t e in (ap {B = Option Table} Some is, ap table_rules (sym is) ∙ r)
    go false r e = let z : ◌≡◌ {A = ℕ} 0 1 = cc in absurd (omega arith)

pub load_is : (s : List ℕ) (t : Table) → load s ≡ loaded t → Loading s t
unfolding load
load_is s t e =
    let b = loaded_by_lem t (first_unread (lines_of s)) (table_said (lines_of s)) e in
    let x = said_lines (lines_of s) t b.0 in
    record { said = b.0; rules = b.1; octets = x.1; text = sym (lines_joined (listing t)) ∙ ap joined (sym x.0) ∙ lines_joined s }

pub load_back : (t : Table) → table_rules t ≡ true → every are_octets (names_of t) ≡ true → load (listing t) ≡ loaded t
unfolding load
load_back t r o =
    let s = listing_said t r o in
    rw (said_reads (lines_of (listing t)) t s, s, r) refl
