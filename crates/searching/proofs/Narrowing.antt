-- The search narrows: every place below `low` has a lower suffix than the name, every place from `high` on a higher one, and what lies between halves with
-- each comparison. Assumes nothing.
use Prim.Native.Nat.{ℕ, zero, suc, ◌+◌, ◌-◌, ◌*◌, ◌/◌, ◌^◌, ◌≤◌, ◌<◌}
use mathlib.Core.Bool.{false}
use mathlib.Core.List.{List}
use Rattle.std.specs.Prelude.{Option, None, Some, Result, Ok, Err}
use mathlib.Core.Path.{◌≡◌, refl, sym, ap, ◌∙◌}
use native.Mathlib.Decide.{dec_lt}
use native.Mathlib.Nat.{pow-suc}
use native.Mathlib.Omega.{arith}
use borrow.Author.Tests.{lt-ltb, le-ltb}
use Rattle.model.specs.Names.{same_name}
use Rattle.model.specs.Tables.{names_of, row_named}
use Rattle.std.specs.declared.cmp.Ordering.{Ordering}
use Rattle.std.specs.declared.cmp.Ordering.TheVariants.{Less, Equal, Greater}
use Rattle.std.specs.Ordering.{is_eq}
use Rattle.ordering.specs.Order.{order_of}
use Rattle.ordering.proofs.Laws.{order_same, order_trans, order_less, order_greater, order_as}
use Rattle.store.specs.Layout.{count_of, place_of, row_in, suffix_in, laid_table, table_of}
use Rattle.store.proofs.Laid.{Laid, lays, ascends, shown}
use Rattle.store.proofs.Listed.{names_laid, named_none, named_some}
use Rattle.searching.specs.Search.{by_order, halved, Sought}

order_of_two : (p q : ℕ) → (p < q → ⊥) → (p ≡ q → ⊥) → q < p
order_of_two p q l e = omega arith

-- ── A half of what is left ──────────────────────────────────────────────────────────────────────────────────────────

module _ (low high left : ℕ) (more : low < high) (few : high < low + 2 ^ left) where
  enough : 1 ≤ left
  enough = go left few
    where
      go : (k : ℕ) → high < low + 2 ^ k → 1 ≤ k
      go zero h = absurd (omega arith)
      go (suc k) h = omega arith

  -- so many comparisons are one, and then half as many
  halves : 2 ^ left ≡ 2 ^ (left - 1) * 2
  halves = go left enough
    where
      go : (k : ℕ) → 1 ≤ k → 2 ^ k ≡ 2 ^ (k - 1) * 2
      go zero h = absurd (omega arith)
      go (suc k) h = let e : suc k - 1 ≡ k = omega arith in rw (e, pow-suc) refl

  upper_half : high < low + (high - low) / 2 + 1 + 2 ^ (left - 1)
  upper_half = omega (arith, halves)

  lower_half : low + (high - low) / 2 < low + 2 ^ (left - 1)
  lower_half = omega (arith, halves)

-- ── The search ──────────────────────────────────────────────────────────────────────────────────────────────────────

pub record Narrowed (w s name : List ℕ) (low high left : ℕ) : Type 0 where
  pub between : low ≤ high
  pub within : high ≤ count_of w
  pub few : high < low + 2 ^ left
  pub below : (q : ℕ) → q < low → order_of (suffix_in w s q) name ≡ Less
  pub above : (q : ℕ) → high ≤ q → q < count_of w → order_of (suffix_in w s q) name ≡ Greater
  pub turns : halved w (λ q. order_of (suffix_in w s q) name) left low high ≡ halved w (λ q. order_of (suffix_in w s q) name) 7 0 (count_of w)

-- One turn, and none.
turn :
    (w : List ℕ) (order : ℕ → Ordering) (left low high m : ℕ) {o : Ordering}
    → 1 ≤ left
    → low < high
    → m ≡ low + (high - low) / 2
    → order m ≡ o
    → halved w order left low high ≡ by_order o (halved w order (left - 1) (m + 1) high) (Ok (row_in w m)) (halved w order (left - 1) low m)
unfolding halved
turn w order zero low high m l h e t = absurd (omega arith)
turn w order (suc k) low high m l h e t = let z : suc k - 1 ≡ k = omega arith in rw (z, lt-ltb low high h, ← e, t) refl

no_turn : (w : List ℕ) (order : ℕ → Ordering) (left low high : ℕ) → high ≤ low → halved w order left low high ≡ Err low
unfolding halved
no_turn w order zero low high h = refl
no_turn w order (suc k) low high h = rw (le-ltb low high h) refl

module _ {w s : List ℕ} (l : Laid w s) (name : List ℕ) where
  pub narrow_first : Narrowed w s name 0 (count_of w) 7
  narrow_first = record {
    between = omega arith;
    within = omega arith;
    few = omega (arith, l.few);
    below = λ q h. absurd (omega arith);
    above = λ q h g. absurd (omega arith);
    turns = refl;
  }

  module _ {low high left : ℕ} (n : Narrowed w s name low high left) (more : low < high) where
    pub one_left : 1 ≤ left
    one_left = enough low high left more n.few

    module _ (m : ℕ) (middle : m ≡ low + (high - low) / 2) where
      pub inside : m < count_of w
      inside = omega (arith, n.within)

      pub narrow_up : order_of (suffix_in w s m) name ≡ Less → Narrowed w s name (m + 1) high (left - 1)
      narrow_up o = record {
        between = omega arith;
        within = n.within;
        few = omega (arith, upper_half low high left more n.few);
        below = λ q h. go q h (dec_lt q m);
        above = n.above;
        turns = sym (turn w _ left low high m one_left more middle o) ∙ n.turns;
      }
        where
          go : (q : ℕ) → q < m + 1 → Dec (q < m) → order_of (suffix_in w s q) name ≡ Less
          go q h (yes g) = order_trans _ (suffix_in w s m) _ (ascends l q m g inside) o
          go q h (no g) = let e : q ≡ m = omega arith in rw e o

      pub narrow_down : order_of (suffix_in w s m) name ≡ Greater → Narrowed w s name low m (left - 1)
      narrow_down o = record {
        between = omega arith;
        within = omega (arith, n.within);
        few = omega (arith, lower_half low high left more n.few);
        below = n.below;
        above = λ q h g. go q h g (dec_lt m q);
        turns = sym (turn w _ left low high m one_left more middle o) ∙ n.turns;
      }
        where
          go : (q : ℕ) → m ≤ q → q < count_of w → Dec (m < q) → order_of (suffix_in w s q) name ≡ Greater
          go q h g (yes k) = order_greater name _ (order_trans name (suffix_in w s m) _ (order_less _ name o) (ascends l m q k g))
          go q h g (no k) = let e : q ≡ m = omega arith in rw e o

  -- ── What it found ─────────────────────────────────────────────────────────────────────────────────────────────────

  -- whether row i bears the name, by the place where it lies
  bears : (i : ℕ) → same_name (suffix_in w s (place_of w i)) name ≡ is_eq (order_of (suffix_in w s (place_of w i)) name)
  bears i = order_same (suffix_in w s (place_of w i)) name

  found_at : (m : ℕ) → m < count_of w → order_of (suffix_in w s m) name ≡ Equal → row_named (names_of (laid_table w s)) name ≡ Some (row_in w m)
  unfolding row_named
  found_at m h o =
      let p = l.at m h in
      let z : 0 + row_in w m ≡ row_in w m = omega arith in
      rw (names_laid w s)
      (named_some name _ (count_of w) 0 (row_in w m) p.enrolled
      (bears (row_in w m) ∙ rw (p.mapped, o) refl)
      (λ j g.
      bears j
      ∙ other j (omega (arith, p.enrolled)) (dec_lt (place_of w j) m)
      (λ e. let i = sym (l.at j (omega (arith, p.enrolled))).named ∙ ap (row_in w) e in omega arith))
      ∙ ap {B = Option ℕ} Some z)
    where
      -- a row at another place does not
      other : (j : ℕ) → j < count_of w → Dec (place_of w j < m) → (place_of w j ≡ m → ⊥) → is_eq (order_of (suffix_in w s (place_of w j)) name) ≡ false
      other j g (yes k) n = rw (sym (order_as (suffix_in w s (place_of w j)) (suffix_in w s m) name o) ∙ ascends l (place_of w j) m k h) refl
      other j g (no k) n =
          rw
          (sym (order_as (suffix_in w s (place_of w j)) (suffix_in w s m) name o)
          ∙ order_greater (suffix_in w s m) (suffix_in w s (place_of w j)) (ascends l m (place_of w j) (order_of_two (place_of w j) m k n) (l.at j g).lands))
          refl

  found_nowhere : {low high left : ℕ} → Narrowed w s name low high left → high ≤ low → row_named (names_of (laid_table w s)) name ≡ None
  unfolding row_named
  found_nowhere {low} {high} n e =
      rw (names_laid w s) (named_none name _ (count_of w) 0 (λ j g. bears j ∙ missed (place_of w j) (l.at j g).lands (dec_lt (place_of w j) low)))
    where
      missed : (q : ℕ) → q < count_of w → Dec (q < low) → is_eq (order_of (suffix_in w s q) name) ≡ false
      missed q h (yes g) = rw (n.below q g) refl
      missed q h (no g) = rw (n.above q (omega arith) h) refl

  its_names : names_of (table_of w s) ≡ names_of (laid_table w s)
  its_names = ap names_of (shown w s (lays w s l))

  -- as the code answers
  pub sought_row :
      {low high left : ℕ} (n : Narrowed w s name low high left) → low < high → (m : ℕ) → m ≡ low + (high - low) / 2
      → order_of (suffix_in w s m) name ≡ Equal → {i : ℕ} → i ≡ row_in w m → Sought w s name (Ok i)
  sought_row {low} {high} {left} n more m middle o e = record {
    says = ap (λ (ns : List (List ℕ)). row_named ns name) its_names ∙ found_at m (inside n more m middle) o ∙ ap Some (sym e);
    gap = λ g q. let z : ◌≡◌ {A = ℕ} 0 1 = cc in absurd (omega arith);
    seven = ap {B = Result ℕ ℕ} (λ (i : ℕ). Ok i) e ∙ sym (turn w _ left low high m (one_left n more) more middle o) ∙ n.turns;
  }

  pub sought_missing : {low high left : ℕ} → Narrowed w s name low high left → high ≤ low → Sought w s name (Err low)
  sought_missing {low} {high} {left} n e = record {
    says = ap (λ (ns : List (List ℕ)). row_named ns name) its_names ∙ found_nowhere n e;
    gap = λ g q. rw (← same q) (record { within = omega (arith, n.within, n.between); below = n.below; above = λ r h k. n.above r (omega arith) k });
    seven = sym (no_turn w _ left low high e) ∙ n.turns;
  }
    where
      same : {g : ℕ} → ◌≡◌ {A = Result ℕ ℕ} (Err low) (Err g) → low ≡ g
      same q = cc

-- ── What the code compared ──────────────────────────────────────────────────────────────────────────────────────────

pub ordered_as : {o r : Ordering} {x y : List ℕ} (name : List ℕ) → r ≡ order_of x name → x ≡ y → r ≡ o → order_of y name ≡ o
ordered_as name e x t = rw (← x, ← e) t
