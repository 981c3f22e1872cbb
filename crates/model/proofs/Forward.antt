-- For those who write the code: a listing read line by line, from the first octet on, and loading by the walk that mends. Assumes nothing.
use mathlib.Core.Path.{◌≡◌, refl, sym, ap, ap₂, ◌∙◌, subst}
use mathlib.Core.Bool.{Bool, true, false, cond, not, ◌&&◌, false≢true}
use Rattle.std.specs.Prelude.{Option, None, Some}
use Rattle.std.proofs.lemmas.Option.{none-some}
use mathlib.Core.List.{List, [], ◌∷◌, ◌++◌, append_assoc, append-nil, map}
use Prim.Native.Nat.{ℕ, zero, suc, ◌+◌, ◌<◌}
use native.Mathlib.Omega.{arith}
use lib.Dec.{ltb, eqb}
use lib.ListN.{length, take, drop}
use Rattle.model.specs.declared.Keys.{Keys}
use Rattle.model.specs.declared.Keys.TheVariants.{Empty, Adopted, Renewing}
use Rattle.model.specs.declared.Pair.{Pair}
use Rattle.model.specs.Pairs.{with_keys}
use Rattle.model.specs.Tables.{Row, Table, every, is_none, row_named, suffix_ok, pair_rule, table_rules}
use Rattle.model.specs.Calls.{TABLE, TWIN, FULL, LINE}
use Rattle.model.specs.Text.{only_if}
use Rattle.model.specs.declared.Clocked.{Clocked}
use Rattle.model.specs.declared.Stated.{Stated}
use Rattle.model.specs.Lines.{line_from, lines_of, is_key_line, given, read_clock, read_pair, read_key}
use Rattle.model.specs.Loading.{Block, Blocks, blocks_from, blocks_of, size_of, is_some, reads_as, unread_or, unread_from, first_unread, keys_of, read_keys, Entry, unread, says, entry_from, entry_of, table_said, Loaded, no_line, no_table, loaded, loaded_by, load, Judged, keeps, drops, sound_row, judged, Dropped, dropped_from, Kept, dropping, kept_from, clocked_rule, Mended, no_clock, no_rule, no_room, mended, mended_by, mend_lines, mend}
use Rattle.model.proofs.Tests.{right, both, either, by_check}
use Rattle.model.proofs.Loads.{AllRead, below_read}
use Rattle.model.proofs.Mends.{every_append, mend_whole, whole_loads}

-- ── Lines ───────────────────────────────────────────────────────────────────────────────────────────────────────────

-- The octets of the first line, its newline counted.
abbrev pub line_size : List ℕ → ℕ
line_size [] = 0
line_size (c ∷ cs) = cond (eqb c 10) 1 (suc (line_size cs))

pub lines_next : (s : List ℕ) → 0 < length s → lines_of s ≡ take (line_size s) s ∷ lines_of (drop (line_size s) s)
unfolding lines_of
lines_next [] h = absurd (omega arith)
lines_next (c ∷ []) h = go (eqb c 10)
  where
    go : (b : Bool) → line_from b c [] ≡ take (cond b 1 1) (c ∷ []) ∷ lines_of (drop (cond b 1 1) (c ∷ []))
    go true = unfold lines_of in refl
    go false = unfold lines_of in refl
lines_next (c ∷ d ∷ ds) h = go (eqb c 10) (lines_next (d ∷ ds) (omega arith))
  where
    cs : List ℕ
    cs = d ∷ ds

    go : (b : Bool) → lines_of cs ≡ take (line_size cs) cs ∷ lines_of (drop (line_size cs) cs) → line_from b c (lines_of cs) ≡ take (cond b 1 (suc (line_size cs))) (c ∷ cs) ∷ lines_of (drop (cond b 1 (suc (line_size cs))) (c ∷ cs))
    go true e = refl
    go false e = ap (line_from false c) e

-- ── Pairs ───────────────────────────────────────────────────────────────────────────────────────────────────────────

-- A pair that is open, and the lines that follow: a `key` line is its own, any other closes it and opens the next.
abbrev pub opened : Block → List (List ℕ) → List Block
opened b ls = record { starts = b.starts; below = b.below ++ (blocks_of ls).loose } ∷ (blocks_of ls).blocks

pub opened_end : (b : Block) → opened b [] ≡ b ∷ []
unfolding blocks_of
opened_end b = let e = append-nil b.below in λ i. record { starts = b.starts; below = e i } ∷ []

pub opened_key : (b : Block) (l : List ℕ) (ls : List (List ℕ)) → is_key_line l ≡ true → opened b (l ∷ ls) ≡ opened (record { starts = b.starts; below = b.below ++ (l ∷ []) }) ls
unfolding blocks_of
opened_key b l ls e = rw (e, append_assoc b.below (l ∷ []) (blocks_of ls).loose) refl

pub opened_other : (b : Block) (l : List ℕ) (ls : List (List ℕ)) → is_key_line l ≡ false → opened b (l ∷ ls) ≡ b ∷ opened (record { starts = l; below = [] }) ls
unfolding blocks_of
opened_other b l ls e = rw (e, append-nil b.below) refl

-- ── What an open pair says ──────────────────────────────────────────────────────────────────────────────────────────

-- One key more.
unfoldable pub key_added : Keys → Stated → Option Keys
key_added Empty k = only_if k.adopted (Some (Adopted k.key))
key_added (Adopted a) k = only_if (not k.adopted) (Some (Renewing a k.key))
key_added (Renewing a w) k = None

pub keys_added : (ss : List Stated) (k : Stated) → keys_of (ss ++ (k ∷ [])) ≡ given (keys_of ss) λ ks. key_added ks k
unfolding keys_of key_added
keys_added [] k = refl
keys_added (a ∷ []) k = go a.adopted
  where
    go : (b : Bool) → only_if (b && not k.adopted) (Some (Renewing a.key k.key)) ≡ given (only_if b (Some (Adopted a.key))) (λ ks. key_added ks k)
    go true = refl
    go false = refl
keys_added (a ∷ w ∷ []) k = go (a.adopted && not w.adopted)
  where
    go : (b : Bool) → ◌≡◌ {A = Option Keys} None (given (only_if b (Some (Renewing a.key w.key))) (λ ks. key_added ks k))
    go true = refl
    go false = refl
keys_added (a ∷ w ∷ x ∷ ss) k = refl

keys_read_more : (ls : List (List ℕ)) (l : List ℕ) → read_keys (ls ++ (l ∷ [])) ≡ given (read_keys ls) λ ss. given (read_key l) λ k. Some (ss ++ (k ∷ []))
unfolding read_keys
keys_read_more [] l = refl
keys_read_more (x ∷ ls) l = go (read_key x) (read_keys ls) (keys_read_more ls l)
  where
    last : (o : Option Stated) (k : Stated) (ss : List Stated) → given (given o (λ a. Some (ss ++ (a ∷ [])))) (λ ks. Some (k ∷ ks)) ≡ given o (λ a. Some ((k ∷ ss) ++ (a ∷ [])))
    last None k ss = refl
    last (Some a) k ss = refl

    go :
        (o : Option Stated) (p : Option (List Stated))
        → read_keys (ls ++ (l ∷ [])) ≡ given p (λ ss. given (read_key l) λ k. Some (ss ++ (k ∷ [])))
        → given o (λ k. given (read_keys (ls ++ (l ∷ []))) λ ks. Some (k ∷ ks)) ≡ given (given o (λ k. given p λ ks. Some (k ∷ ks))) (λ ss. given (read_key l) λ k. Some (ss ++ (k ∷ [])))
    go None p e = refl
    go (Some k) None e = rw e refl
    go (Some k) (Some ss) e = rw e (last (read_key l) k ss)

-- A line that opens a pair, and a `key` line of the pair that is open.
abbrev pub entry_begun : Option Row → Entry
entry_begun None = unread
entry_begun (Some r) = says r.suffix (Some (with_keys r.pair r.pair.next_serial Empty))

pub entry_begun_lem : (l : List ℕ) → entry_of (record { starts = l; below = [] }) ≡ entry_begun (read_pair l)
unfolding entry_of read_keys keys_of
entry_begun_lem l = go (read_pair l)
  where
    go : (o : Option Row) → entry_from o (Some []) ≡ entry_begun o
    go None = refl
    go (Some r) = refl

abbrev pub entry_added : Entry → Option Stated → Entry
entry_added unread k = unread
entry_added (says s p) None = unread
entry_added (says s p) (Some k) = says s (given p λ p. given (key_added p.keys k) λ ks. Some (with_keys p p.next_serial ks))

pub entry_added_lem : (b : Block) (l : List ℕ) → entry_of (record { starts = b.starts; below = b.below ++ (l ∷ []) }) ≡ entry_added (entry_of b) (read_key l)
unfolding entry_of with_keys
entry_added_lem b l = ap (entry_from (read_pair b.starts)) (keys_read_more b.below l) ∙ go (read_pair b.starts) (read_keys b.below) (read_key l)
  where
    keys : (r : Row) (o : Option Keys) (k : Stated) → given (given o (λ ks. key_added ks k)) (λ keys. Some (with_keys r.pair r.pair.next_serial keys)) ≡ given (given o (λ keys. Some (with_keys r.pair r.pair.next_serial keys))) (λ p. given (key_added p.keys k) λ ks. Some (with_keys p p.next_serial ks))
    keys r None k = refl
    keys r (Some ks) k = refl

    go : (o : Option Row) (p : Option (List Stated)) (k : Option Stated) → entry_from o (given p λ ss. given k λ k. Some (ss ++ (k ∷ []))) ≡ entry_added (entry_from o p) k
    go None p k = refl
    go (Some r) None k = refl
    go (Some r) (Some ss) None = refl
    go (Some r) (Some ss) (Some k) = ap (says r.suffix) (ap (λ (o : Option Keys). given o λ keys. Some (with_keys r.pair r.pair.next_serial keys)) (keys_added ss k) ∙ keys r (keys_of ss) k)

-- ── Loading by mending ──────────────────────────────────────────────────────────────────────────────────────────────

-- Where every line reads, loading is mending that drops nothing.
abbrev pub loaded_from : Option ℕ → Mended → Loaded
loaded_from (Some n) m = no_line n
loaded_from None no_clock = no_table
loaded_from None no_rule = no_table
loaded_from None no_room = no_table
loaded_from None (mended t []) = loaded t
loaded_from None (mended t (d ∷ ds)) = no_table

pub load_by_mend : (s : List ℕ) → load s ≡ loaded_from (first_unread (lines_of s)) (mend s)
unfolding load
load_by_mend s = go (first_unread (lines_of s)) (table_said (lines_of s)) refl refl
  where
    other : (m : Mended) → mend s ≡ m → load s ≡ no_table → loaded_from None m ≡ no_table
    other no_clock e f = refl
    other no_rule e f = refl
    other no_room e f = refl
    other (mended t []) e f = sym (whole_loads s t e) ∙ f
    other (mended t (d ∷ ds)) e f = refl

    rule : (t : Table) (b : Bool) → load s ≡ cond b (loaded t) no_table → cond b (loaded t) no_table ≡ loaded_from None (mend s)
    rule t true e = sym (ap (loaded_from None) (mend_whole s t e))
    rule t false e = sym (other (mend s) refl e)

    go : (n : Option ℕ) (o : Option Table) → first_unread (lines_of s) ≡ n → table_said (lines_of s) ≡ o → loaded_by n o ≡ loaded_from n (mend s)
    go (Some n) o e f = refl
    go None None e f = sym (other (mend s) refl (ap₂ loaded_by e f))
    go None (Some t) e f = rule t (table_rules t) (ap₂ loaded_by e f)

-- ── 18, in loading and in mending ───────────────────────────────────────────────────────────────────────────────────

there : {A : Type 0} (o : Option A) → is_some o ≡ true → (a : A) × (o ≡ Some a)
there None e = absurd (false≢true e)
there (Some a) e = (a, refl)

read_or : (b : Bool) (n : ℕ) (o : Option ℕ) → unread_or b n o ≡ None → (b ≡ true) × (o ≡ None)
read_or true n o e = (refl, e)
read_or false n o e = absurd (none-some n (sym e))

record Reading (g : Blocks) : Type 0 where
  keys : List Stated
  loose_read : read_keys g.loose ≡ Some keys
  blocks_read : AllRead g.blocks

-- A `key` line, and a line that starts a pair.
key_reading : (l : List ℕ) (g : Blocks) → is_some (read_key l) ≡ true → Reading g → Reading (blocks_from true l g)
unfolding read_keys
key_reading l g e r =
    let k = there (read_key l) e in
    record { keys = k.0 ∷ r.keys; loose_read = ap₂ (λ (o : Option Stated) (p : Option (List Stated)). given o λ k. given p λ ks. Some (k ∷ ks)) k.1 r.loose_read; blocks_read = r.blocks_read }

pair_reading : (l : List ℕ) (g : Blocks) → is_some (read_pair l) ≡ true → Reading g → Reading (blocks_from false l g)
unfolding entry_of read_keys
pair_reading l g e r =
    let p = there (read_pair l) e in
    record { keys = []; loose_read = refl; blocks_read = ((p.0.suffix, _, ap₂ entry_from p.1 r.loose_read), r.blocks_read) }

reading : (n : ℕ) (ls : List (List ℕ)) → unread_from false n ls ≡ None → Reading (blocks_of ls)
unfolding unread_from blocks_of read_keys
reading n [] e = record { keys = []; loose_read = refl; blocks_read = tt }
reading n (l ∷ ls) e = go (is_key_line l) e (reading (suc n) ls)
  where
    go : (b : Bool) → unread_or (reads_as b false l) n (unread_from (false && b) (suc n) ls) ≡ None → (unread_from false (suc n) ls ≡ None → Reading (blocks_of ls)) → Reading (blocks_from b l (blocks_of ls))
    go true e rec = let x = read_or (is_some (read_key l)) n (unread_from false (suc n) ls) e in key_reading l (blocks_of ls) x.0 (rec x.1)
    go false e rec = let x = read_or (is_some (read_pair l)) n (unread_from false (suc n) ls) e in pair_reading l (blocks_of ls) x.0 (rec x.1)

below_reading : (n : ℕ) (ls : List (List ℕ)) → unread_from true n ls ≡ None → ((blocks_of ls).loose ≡ []) × AllRead (blocks_of ls).blocks
unfolding unread_from blocks_of
below_reading n [] e = (refl, tt)
below_reading n (l ∷ ls) e = go (is_key_line l) e
  where
    go : (b : Bool) → unread_or (reads_as b true l) n (unread_from (true && b) (suc n) ls) ≡ None → ((blocks_from b l (blocks_of ls)).loose ≡ []) × AllRead (blocks_from b l (blocks_of ls)).blocks
    go true e = absurd (none-some n (sym e))
    go false e =
        let x = read_or (is_some (read_pair l)) n (unread_from false (suc n) ls) e in
        (refl, (pair_reading l (blocks_of ls) x.0 (reading (suc n) ls x.1)).blocks_read)

-- So nothing is dropped with 18.
abbrev pub other_reason : Dropped → Bool
other_reason d = not (eqb d.reason LINE)

abbrev Other : Judged → Type 0
Other (keeps r) = Unit {0}
Other (drops n) = not (eqb n LINE) ≡ true

others : (not (eqb TWIN LINE) ≡ true) × (not (eqb FULL LINE) ≡ true) × (not (eqb TABLE LINE) ≡ true)
unfolding TWIN FULL TABLE LINE
others = (refl, refl, refl)

judged_other : (clock : ℕ) (kept : List Row) (s : List ℕ) (p : Option Pair) → Other (judged clock kept (says s p))
unfolding judged
judged_other clock kept s p =
    by_check Other drops TWIN others.0 (is_none (row_named (map (λ r. r.suffix) kept) s)) λ new.
    by_check Other drops FULL others.1 (ltb (length kept) 64) λ room.
    last p
  where
    last : (p : Option Pair) → Other (sound_row clock s p)
    last None = others.2
    last (Some p) = either Other (suffix_ok s && pair_rule clock p) (λ e. tt) (λ e. others.2)

dropped_other : (reason n k : ℕ) → not (eqb reason LINE) ≡ true → every other_reason (dropped_from reason n k) ≡ true
unfolding dropped_from
dropped_other reason n zero e = refl
dropped_other reason n (suc k) e = both (not (eqb reason LINE)) _ e (dropped_other reason (suc n) k e)

kept_other : (clock : ℕ) (kept : List Row) (n : ℕ) (bs : List Block) → AllRead bs → every other_reason (kept_from clock kept n bs).dropped ≡ true
unfolding kept_from
kept_other clock kept n [] a = refl
kept_other clock kept n (b ∷ bs) a = go (judged clock kept (entry_of b)) (rw a.0.2 (judged_other clock kept a.0.0 a.0.1)) (λ k. kept_other clock k (n + size_of b) bs a.1)
  where
    go :
        (j : Judged)
        → Other j
        → ((k : List Row) → every other_reason (kept_from clock k (n + size_of b) bs).dropped ≡ true)
        → every other_reason
        (elim j as (λ (j : Judged). Kept) [
          | keeps r ↦ kept_from clock (kept ++ (r ∷ [])) (n + size_of b) bs
          | drops reason ↦ dropping (dropped_from reason n (size_of b)) (kept_from clock kept (n + size_of b) bs)
        ]).dropped
        ≡ true
    go (keeps r) v rec = rec (kept ++ (r ∷ []))
    go (drops reason) v rec =
        every_append other_reason (dropped_from reason n (size_of b)) (kept_from clock kept (n + size_of b) bs).dropped
        ∙ both (every other_reason (dropped_from reason n (size_of b))) _ (dropped_other reason n (size_of b) v) (rec kept)

abbrev pub NoLine : Mended → Type 0
NoLine no_clock = ⊥
NoLine no_rule = Unit {0}
NoLine no_room = Unit {0}
NoLine (mended t ds) = every other_reason ds ≡ true

clocked_no_line : (ls : List (List ℕ)) (o : Option Clocked) → is_some o ≡ true → unread_from true 2 ls ≡ None → NoLine (mended_by o (blocks_of ls))
unfolding dropped_from
clocked_no_line ls None c e = absurd (false≢true c)
clocked_no_line ls (Some c) f e =
    let b = below_reading 2 ls e in
    either NoLine (clocked_rule c) (λ r. rw b.0 (kept_other c.clock [] 2 (blocks_of ls).blocks b.1)) (λ r. tt)

lines_no_line : (ls : List (List ℕ)) → first_unread ls ≡ None → NoLine (mend_lines ls)
unfolding mend_lines first_unread
lines_no_line [] e = absurd (none-some 1 (sym e))
lines_no_line (l ∷ ls) e = let x = read_or (is_some (read_clock l)) 1 (unread_from true 2 ls) e in clocked_no_line ls (read_clock l) x.0 x.1

-- Where every line reads, mending is not refused with 18 and drops nothing with 18.
pub reads_no_line : (s : List ℕ) → first_unread (lines_of s) ≡ None → NoLine (mend s)
unfolding mend
reads_no_line s e = lines_no_line (lines_of s) e

-- And where mending drops nothing with 18, every line reads.
dropped_line : {A : Type 0} (n k : ℕ) (es : List Dropped) → every other_reason (dropped_from LINE n (suc k) ++ es) ≡ true → A
unfolding dropped_from LINE
dropped_line n k es e = absurd (false≢true e)

other_behind : (ds es : List Dropped) → every other_reason (ds ++ es) ≡ true → every other_reason es ≡ true
other_behind ds es e = right (every other_reason ds) (every other_reason es) (sym (every_append other_reason ds es) ∙ e)

module _ (clock : ℕ) (kept : List Row) (n : ℕ) (b : Block) (bs : List Block) (rec : (k : List Row) → every other_reason (kept_from clock k (n + size_of b) bs).dropped ≡ true → AllRead bs) where
  abbrev judged_as : Judged → Kept
  judged_as (keeps r) = kept_from clock (kept ++ (r ∷ [])) (n + size_of b) bs
  judged_as (drops reason) = dropping (dropped_from reason n (size_of b)) (kept_from clock kept (n + size_of b) bs)

  rest_read : (j : Judged) → every other_reason (judged_as j).dropped ≡ true → AllRead bs
  rest_read (keeps r) e = rec (kept ++ (r ∷ [])) e
  rest_read (drops reason) e = rec kept (other_behind (dropped_from reason n (size_of b)) (kept_from clock kept (n + size_of b) bs).dropped e)

  block_read : (x : Entry) → entry_of b ≡ x → every other_reason (judged_as (judged clock kept x)).dropped ≡ true → AllRead (b ∷ bs)
  unfolding judged size_of
  block_read unread x e = dropped_line n (length b.below) (kept_from clock kept (n + size_of b) bs).dropped e
  block_read (says s p) x e = ((s, p, x), rest_read (judged clock kept (says s p)) e)

  judged_as_lem : every other_reason (kept_from clock kept n (b ∷ bs)).dropped ≡ true → every other_reason (judged_as (judged clock kept (entry_of b))).dropped ≡ true
  unfolding kept_from
  judged_as_lem e = go (judged clock kept (entry_of b)) e
    where
      go :
          (j : Judged)
          → every other_reason
          (elim j as (λ (j : Judged). Kept) [
            | keeps r ↦ kept_from clock (kept ++ (r ∷ [])) (n + size_of b) bs
            | drops reason ↦ dropping (dropped_from reason n (size_of b)) (kept_from clock kept (n + size_of b) bs)
          ]).dropped
          ≡ true
          → every other_reason (judged_as j).dropped ≡ true
      go (keeps r) e = e
      go (drops reason) e = e

kept_read : (clock : ℕ) (kept : List Row) (n : ℕ) (bs : List Block) → every other_reason (kept_from clock kept n bs).dropped ≡ true → AllRead bs
kept_read clock kept n [] e = tt
kept_read clock kept n (b ∷ bs) e =
    let rec : (k : List Row) → every other_reason (kept_from clock k (n + size_of b) bs).dropped ≡ true → AllRead bs = λ k. kept_read clock k (n + size_of b) bs in
    block_read clock kept n b bs rec (entry_of b) refl (judged_as_lem clock kept n b bs rec e)

none_loose : (ls : List (List ℕ)) (es : List Dropped) → every other_reason (dropped_from LINE 2 (length ls) ++ es) ≡ true → ls ≡ []
none_loose [] es e = refl
none_loose (l ∷ ls) es e = dropped_line 2 (length ls) es e

abbrev ReadBy : List (List ℕ) → Mended → Type 0
ReadBy ls no_clock = Unit {0}
ReadBy ls no_rule = Unit {0}
ReadBy ls no_room = Unit {0}
ReadBy ls (mended t ds) = every other_reason ds ≡ true → unread_from true 2 ls ≡ None

lines_read : (ls : List (List ℕ)) (o : Option Clocked) → ReadBy ls (mended_by o (blocks_of ls))
lines_read ls None = tt
lines_read ls (Some c) =
    either (ReadBy ls) (clocked_rule c)
    (λ r d.
    let b = blocks_of ls in
    let n = 2 + length b.loose in
    below_read 2 ls
    (none_loose b.loose (kept_from c.clock [] n b.blocks).dropped d)
    (kept_read c.clock [] n b.blocks (other_behind (dropped_from LINE 2 (length b.loose)) (kept_from c.clock [] n b.blocks).dropped d)))
    (λ r. tt)

clock_there : (o : Option Clocked) (b : Blocks) (t : Table) (ds : List Dropped) → mended_by o b ≡ mended t ds → is_some o ≡ true
clock_there None b t ds e = let z : ◌≡◌ {A = ℕ} 0 1 = cc in absurd (omega arith)
clock_there (Some c) b t ds e = refl

lines_all_read : (ls : List (List ℕ)) (t : Table) (ds : List Dropped) → mend_lines ls ≡ mended t ds → every other_reason ds ≡ true → first_unread ls ≡ None
unfolding mend_lines first_unread
lines_all_read [] t ds e d = let z : ◌≡◌ {A = ℕ} 0 1 = cc in absurd (omega arith)
lines_all_read (l ∷ ls) t ds e d =
    rw (clock_there (read_clock l) (blocks_of ls) t ds e) (subst (ReadBy ls) e (lines_read ls (read_clock l)) d)

pub no_line_reads : (s : List ℕ) (t : Table) (ds : List Dropped) → mend s ≡ mended t ds → every other_reason ds ≡ true → first_unread (lines_of s) ≡ None
unfolding mend
no_line_reads s t ds e d = lines_all_read (lines_of s) t ds e d
