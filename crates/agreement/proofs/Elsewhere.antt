-- An operation of another pair, or of none, leaves the row of a pair, and so keeps agreement. Assumes nothing.
use mathlib.Core.Path.{◌≡◌, refl, sym, ap, subst, ◌∙◌}
use mathlib.Core.Bool.{Bool, true, false, cond, ◌&&◌}
use Rattle.std.specs.Prelude.{Option, None, Some}
use mathlib.Core.List.{List, [], ◌∷◌, ◌++◌}
use Prim.Native.Nat.{ℕ, zero, suc, ◌+◌, ◌-◌, ◌<◌}
use native.Mathlib.Omega.{arith}
use lib.ListN.{length, get_or, take, drop}
use lib.Dec.{leb, ltb}
use Rattle.model.specs.declared.Pair.{Pair}
use Rattle.model.specs.declared.Resolver.{Resolver}
use Rattle.model.specs.Names.{algorithm_numbered}
use Rattle.model.specs.Tables.{Row, Table, no_row, row_at, suffix_at, pair_at, with_clock, names_of, row_named, is_none, suffix_ok, term_ok}
use Rattle.model.specs.Checks.{check_some}
use Rattle.model.specs.Calls.{NOPAIR, SPENT, NAME, TERM, TWIN, FULL, Result, done, unchanged, gate, with_row, first_serial, enrolled, enrol_passed, enrol_on, without_row, number_owner, closed, close_passed, close_on, Call, time_of, called}
use Rattle.model.specs.Runs.{Operation, enrol, close, call, operated, frame_of, belongs}
use Rattle.model.specs.Exchange.{Sides, elsewhere, happened, Other, elsewhere_all, AllOther, Agree}
use Rattle.model.proofs.Tests.{by_check, by_known}
use Rattle.guarantees.proofs.OneCall.{same_size, refused_same, keeps_frame, keeps_others, frame_names}
use Rattle.agreement.proofs.Steps.{agree_as}

-- Row i is there as before.
pub record Kept (i : ℕ) (t u : Table) : Type 0 where
  pub row : row_at u i ≡ row_at t i
  pub there : i < length u.rows

module _ (i : ℕ) (t : Table) (h : i < length t.rows) where
  as_it_was : Kept i t t
  as_it_was = record { row = refl; there = h }

  -- a call of another pair, or of none
  call_keeps : (c : Call) (g : Option ℕ) → gate t (time_of c) ≡ g → ¬ (belongs (frame_of t) c ≡ Some i) → Kept i t (called t c).table
  call_keeps c (Some n) e q = subst (λ (x : Table). Kept i t x) (sym (refused_same t c n e)) as_it_was
  call_keeps c None e q =
      let n : length (called t c).table.rows ≡ length t.rows = same_size (called t c).table t (frame_names (called t c).table t (keeps_frame t c e)) in
      record { row = keeps_others t c e i q; there = omega arith }

-- ── An enrolment ────────────────────────────────────────────────────────────────────────────────────────────────────

at_front : (l : List Row) (x : Row) (i : ℕ) → i < length l → (get_or (l ++ (x ∷ [])) i no_row ≡ get_or l i no_row) × (i < length (l ++ (x ∷ [])))
at_front [] x i h = absurd (omega arith)
at_front (y ∷ l) x zero h = (refl, omega arith)
at_front (y ∷ l) x (suc i) h = let r = at_front l x i (omega arith) in (r.0, omega (arith, r.1))

module _ (i : ℕ) (t : Table) (h : i < length t.rows) (suffix : List ℕ) (lifetime fresh algorithm : ℕ) where
  row_keeps : (p : Pair) → Kept i t (with_row t suffix p)
  unfolding with_row row_at
  row_keeps p = let r = at_front t.rows (record { suffix = suffix; pair = p }) i h in record { row = r.0; there = r.1 }

  enrolled_keeps : Kept i t (enrolled t suffix lifetime fresh algorithm).table
  unfolding enrolled unchanged
  enrolled_keeps =
      let stays = as_it_was i t h in
      by_check (λ (r : Result). Kept i t r.table) (unchanged t) NAME stays (suffix_ok suffix) λ _.
      by_check (λ (r : Result). Kept i t r.table) (unchanged t) TERM stays (term_ok lifetime fresh) λ _.
      by_known (λ (r : Result). Kept i t r.table) (unchanged t) TERM stays (algorithm_numbered algorithm) λ g _.
      by_check (λ (r : Result). Kept i t r.table) (unchanged t) TWIN stays (is_none (row_named (names_of t) suffix)) λ _.
      by_check (λ (r : Result). Kept i t r.table) (unchanged t) FULL stays (ltb (length t.rows) 64) λ _.
      by_check (λ (r : Result). Kept i t r.table) (unchanged t) SPENT stays (ltb (first_serial t) 0x1_0000_0000) λ _.
      row_keeps _

-- ── A closing ───────────────────────────────────────────────────────────────────────────────────────────────────────

in_front : (l : List Row) (k i : ℕ) → i < k → i < length l → (get_or (take k l ++ drop (suc k) l) i no_row ≡ get_or l i no_row) × (i < length (take k l ++ drop (suc k) l))
in_front [] k i b h = absurd (omega arith)
in_front (y ∷ l) zero i b h = absurd (omega arith)
in_front (y ∷ l) (suc k) zero b h = (refl, omega arith)
in_front (y ∷ l) (suc k) (suc i) b h = let r = in_front l k i (omega arith) (omega arith) in (r.0, omega (arith, r.1))

module _ (i : ℕ) (t : Table) (h : i < length t.rows) (number : ℕ) (b : i + 1 < number) where
  closed_keeps : Kept i t (closed t number).table
  unfolding closed number_owner unchanged without_row row_at
  closed_keeps = go (leb 1 number && leb number (length (names_of t)))
    where
      row : Kept i t (without_row t (number - 1))
      row = let r = in_front t.rows (number - 1) i (omega arith) h in record { row = r.0; there = r.1 }

      go : (c : Bool) → Kept i t (check_some (unchanged t) NOPAIR (cond c (Some (number - 1)) None) (λ k. record { table = without_row t k; outcome = done 0 0 })).table
      go true = row
      go false = as_it_was i t h

clock_keeps : {i : ℕ} {t u : Table} (time : ℕ) → Kept i (with_clock t time) u → Kept i t u
unfolding with_clock row_at
clock_keeps time k = record { row = k.row; there = k.there }

module _ (i : ℕ) (t : Table) (h : i < length t.rows) where
  enrol_keeps : (time : ℕ) (suffix : List ℕ) (lifetime fresh algorithm : ℕ) (g : Option ℕ) → Kept i t (enrol_passed t time suffix lifetime fresh algorithm g).table
  unfolding unchanged with_clock
  enrol_keeps time suffix lifetime fresh algorithm (Some n) = as_it_was i t h
  enrol_keeps time suffix lifetime fresh algorithm None = clock_keeps time (enrolled_keeps i (with_clock t time) h suffix lifetime fresh algorithm)

  close_keeps : (time number : ℕ) → i + 1 < number → (g : Option ℕ) → Kept i t (close_passed t time number g).table
  unfolding unchanged with_clock
  close_keeps time number b (Some n) = as_it_was i t h
  close_keeps time number b None = clock_keeps time (closed_keeps i (with_clock t time) h number b)

  keeps : (o : Operation) → Other i t o → Kept i t (operated t o).table
  unfolding operated enrol_on close_on
  keeps (enrol time suffix lifetime fresh algorithm) q = enrol_keeps time suffix lifetime fresh algorithm (gate t (Some time))
  keeps (close time number) q = close_keeps time number q (gate t (Some time))
  keeps (call c) q = call_keeps i t h c (gate t (time_of c)) refl q

-- ── Agreement ───────────────────────────────────────────────────────────────────────────────────────────────────────

pub kept_pair : {i : ℕ} {t u : Table} → Kept i t u → pair_at u i ≡ pair_at t i
unfolding pair_at
kept_pair k = ap (λ (r : Row). r.pair) k.row

pub kept_suffix : {i : ℕ} {t u : Table} → Kept i t u → suffix_at u i ≡ suffix_at t i
unfolding suffix_at
kept_suffix k = ap (λ (r : Row). r.suffix) k.row

kept_agrees : (i : ℕ) (t u : Table) (s : Resolver) → Kept i t u → Agree i (record { table = t; resolver = s }) → Agree i (record { table = u; resolver = s })
kept_agrees i t u s k e = agree_as t u i (kept_suffix k) s s (λ _. k.there) (kept_pair k) refl refl e

pub agree_elsewhere : (i : ℕ) (b : Sides) (o : Operation) → Agree i b → Other i b.table o → Agree i (happened b (elsewhere o))
agree_elsewhere i b o e q = kept_agrees i b.table (operated b.table o).table b.resolver (keeps i b.table e.enrolled o q) e

-- Any operations elsewhere: the pair is as it was, and so is the resolver.
pub record Waited (i : ℕ) (b c : Sides) : Type 0 where
  pub pair : pair_at c.table i ≡ pair_at b.table i
  pub resolver : c.resolver ≡ b.resolver
  pub agrees : Agree i c

pub waited : (i : ℕ) (b : Sides) (os : List Operation) → Agree i b → AllOther i b os → Waited i b (elsewhere_all b os)
waited i b [] e q = record { pair = refl; resolver = refl; agrees = e }
waited i b (o ∷ os) e q =
    let k = keeps i b.table e.enrolled o q.0 in
    let w = waited i (happened b (elsewhere o)) os (agree_elsewhere i b o e q.0) q.1 in
    record { pair = w.pair ∙ kept_pair k; resolver = w.resolver; agrees = w.agrees }
