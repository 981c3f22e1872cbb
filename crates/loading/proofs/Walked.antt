-- Walking a listing line by line is mending it. Assumes nothing.
use mathlib.Core.Path.{◌≡◌, refl, sym, ap, ap₂, ◌∙◌}
use mathlib.Core.Bool.{Bool, true, false}
use Rattle.std.specs.Prelude.{Some}
use mathlib.Core.List.{List, [], ◌∷◌, ◌++◌, append-nil}
use Prim.Native.Nat.{ℕ, suc, ◌+◌}
use native.Mathlib.Omega.{arith}
use lib.ListN.{length, length-append}
use Rattle.model.specs.declared.Clocked.{Clocked}
use Rattle.model.specs.Tables.{Row}
use Rattle.model.specs.Calls.{LINE}
use Rattle.model.specs.Lines.{is_key_line, read_pair, read_key}
use Rattle.model.specs.Loading.{Block, Blocks, blocks_from, blocks_of, size_of, Entry, unread, entry_of, Judged, keeps, drops, judged, Dropped, dropped_from, Kept, dropping, kept_from, clocked_rule, mended_with, mended_by}
use Rattle.model.proofs.Forward.{opened, opened_end, opened_key, opened_other, entry_begun, entry_added, entry_begun_lem, entry_added_lem}
use Rattle.loading.specs.Walk.{keeps_in, names_in, walked}

-- One block more, as the walk has it.
kept_next : (clock : ℕ) (kept : List Row) (n : ℕ) (b : Block) (bs : List Block)
    → kept_from clock kept n (b ∷ bs)
    ≡ dropping (names_in n (size_of b) (judged clock kept (entry_of b))) (kept_from clock (keeps_in kept (judged clock kept (entry_of b))) (n + size_of b) bs)
unfolding kept_from keeps_in names_in
kept_next clock kept n b bs = go (judged clock kept (entry_of b))
  where
    go :
        (j : Judged)
        → (elim j as (λ (j : Judged). Kept) [
          | keeps r ↦ kept_from clock (kept ++ (r ∷ [])) (n + size_of b) bs
          | drops reason ↦ dropping (dropped_from reason n (size_of b)) (kept_from clock kept (n + size_of b) bs)
        ])
        ≡ dropping (names_in n (size_of b) j) (kept_from clock (keeps_in kept j) (n + size_of b) bs)
    go (keeps r) = refl
    go (drops reason) = refl

dropping_end : (ds : List Dropped) (rows : List Row) → dropping ds (record { rows = rows; dropped = [] }) ≡ record { rows = rows; dropped = ds }
dropping_end ds rows = let e = append-nil ds in λ i. record { rows = rows; dropped = e i }

-- By whether the next line is a `key` line.
pub walk_key : (clock : ℕ) (kept : List Row) (first lines : ℕ) (e : Entry) (l : List ℕ) (ls : List (List ℕ))
    → is_key_line l ≡ true → walked clock kept first lines e (l ∷ ls) ≡ walked clock kept first (suc lines) (entry_added e (read_key l)) ls
unfolding walked
walk_key clock kept first lines e l ls is = rw (walked, is) refl

pub walk_other : (clock : ℕ) (kept : List Row) (first lines : ℕ) (e : Entry) (l : List ℕ) (ls : List (List ℕ))
    → is_key_line l ≡ false
    → walked clock kept first lines e (l ∷ ls)
    ≡ dropping (names_in first lines (judged clock kept e)) (walked clock (keeps_in kept (judged clock kept e)) (first + lines) 1 (entry_begun (read_pair l)) ls)
unfolding walked
walk_other clock kept first lines e l ls is = rw (walked, is) refl

pub walk_end : (clock : ℕ) (kept : List Row) (first lines : ℕ) (e : Entry)
    → walked clock kept first lines e [] ≡ record { rows = keeps_in kept (judged clock kept e); dropped = names_in first lines (judged clock kept e) }
unfolding walked
walk_end clock kept first lines e = refl

-- A pair that is open.
walk_opened : (clock : ℕ) (kept : List Row) (n : ℕ) (b : Block) (ls : List (List ℕ)) → walked clock kept n (size_of b) (entry_of b) ls ≡ kept_from clock kept n (opened b ls)
unfolding kept_from
walk_opened clock kept n b [] =
    walk_end clock kept n (size_of b) (entry_of b)
    ∙ sym (dropping_end (names_in n (size_of b) (judged clock kept (entry_of b))) (keeps_in kept (judged clock kept (entry_of b))))
    ∙ sym (kept_next clock kept n b [])
    ∙ ap (kept_from clock kept n) (sym (opened_end b))
walk_opened clock kept n b (l ∷ ls) = go (is_key_line l) refl (λ kept n b. walk_opened clock kept n b ls)
  where
    more : (b : Block) → size_of (record { starts = b.starts; below = b.below ++ (l ∷ []) }) ≡ suc (size_of b)
    more b = unfold size_of in omega (arith, length-append b.below (l ∷ []))

    one : size_of (record { starts = l; below = [] }) ≡ 1
    one = unfold size_of in refl

    go : (x : Bool) → is_key_line l ≡ x
        → ((kept : List Row) (n : ℕ) (b : Block) → walked clock kept n (size_of b) (entry_of b) ls ≡ kept_from clock kept n (opened b ls))
        → walked clock kept n (size_of b) (entry_of b) (l ∷ ls) ≡ kept_from clock kept n (opened b (l ∷ ls))
    go true is rec =
        let c : Block = record { starts = b.starts; below = b.below ++ (l ∷ []) } in
        walk_key clock kept n (size_of b) (entry_of b) l ls is
        ∙ ap₂ (λ (k : ℕ) (e : Entry). walked clock kept n k e ls) (sym (more b)) (sym (entry_added_lem b l))
        ∙ rec kept n c
        ∙ ap (kept_from clock kept n) (sym (opened_key b l ls is))
    go false is rec =
        let c : Block = record { starts = l; below = [] } in
        let j = judged clock kept (entry_of b) in
        walk_other clock kept n (size_of b) (entry_of b) l ls is
        ∙ ap (dropping (names_in n (size_of b) j))
        (ap₂ (λ (k : ℕ) (e : Entry). walked clock (keeps_in kept j) (n + size_of b) k e ls) (sym one) (sym (entry_begun_lem l))
        ∙ rec (keeps_in kept j) (n + size_of b) c)
        ∙ sym (kept_next clock kept n b (opened c ls))
        ∙ ap (kept_from clock kept n) (sym (opened_other b l ls is))

-- A line that starts a pair.
walk_started : (clock : ℕ) (kept : List Row) (n : ℕ) (l : List ℕ) (ls : List (List ℕ)) → walked clock kept n 1 (entry_begun (read_pair l)) ls ≡ kept_from clock kept n (opened (record { starts = l; below = [] }) ls)
unfolding size_of
walk_started clock kept n l ls = ap (λ (e : Entry). walked clock kept n 1 e ls) (sym (entry_begun_lem l)) ∙ walk_opened clock kept n (record { starts = l; below = [] }) ls

-- No pair open, and k `key` lines of line 1 from line n on.
pub walk_loose : (clock : ℕ) (kept : List Row) (n k : ℕ) (ls : List (List ℕ))
    → walked clock kept n k unread ls
    ≡ dropping (dropped_from LINE n (k + length (blocks_of ls).loose)) (kept_from clock kept (n + (k + length (blocks_of ls).loose)) (blocks_of ls).blocks)
unfolding kept_from blocks_of judged keeps_in names_in
walk_loose clock kept n k [] =
    let z : k ≡ k + 0 = omega arith in
    walk_end clock kept n k unread
    ∙ sym (dropping_end (dropped_from LINE n k) kept)
    ∙ ap (λ (k : ℕ). dropping (dropped_from LINE n k) (record { rows = kept; dropped = [] })) z
walk_loose clock kept n k (l ∷ ls) = go (is_key_line l) refl (walk_loose clock kept n (suc k) ls)
  where
    g : Blocks
    g = blocks_of ls

    go : (x : Bool) → is_key_line l ≡ x
        → walked clock kept n (suc k) unread ls ≡ dropping (dropped_from LINE n (suc k + length g.loose)) (kept_from clock kept (n + (suc k + length g.loose)) g.blocks)
        → walked clock kept n k unread (l ∷ ls)
        ≡ dropping (dropped_from LINE n (k + length (blocks_from x l g).loose)) (kept_from clock kept (n + (k + length (blocks_from x l g).loose)) (blocks_from x l g).blocks)
    go true is rec =
        let z : suc k + length g.loose ≡ k + suc (length g.loose) = omega arith in
        walk_key clock kept n k unread l ls is
        ∙ rec
        ∙ ap (λ (k : ℕ). dropping (dropped_from LINE n k) (kept_from clock kept (n + k) g.blocks)) z
    go false is rec =
        let c : Block = record { starts = l; below = [] } in
        let z : k ≡ k + 0 = omega arith in
        walk_other clock kept n k unread l ls is
        ∙ ap (dropping (dropped_from LINE n k)) (walk_started clock kept (n + k) l ls)
        ∙ ap (λ (k : ℕ). dropping (dropped_from LINE n k) (kept_from clock kept (n + k) (opened c ls))) z

-- A listing whose clock line keeps its rules.
pub mend_walked : (ls : List (List ℕ)) (c : Clocked) → clocked_rule c ≡ true → mended_by (Some c) (blocks_of ls) ≡ mended_with c (walked c.clock [] 2 0 unread ls)
mend_walked ls c rule =
    let b = blocks_of ls in
    let z : length b.loose ≡ 0 + length b.loose = omega arith in
    rw rule
    (ap (mended_with c)
    (ap (λ (k : ℕ). dropping (dropped_from LINE 2 k) (kept_from c.clock [] (2 + k) b.blocks)) z ∙ sym (walk_loose c.clock [] 2 0 ls)))
