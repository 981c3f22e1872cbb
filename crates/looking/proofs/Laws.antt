-- Laws of look as the code makes it. Assumes nothing.
use Prim.Native.Nat.{ℕ, ◌<◌}
use mathlib.Core.Path.{◌≡◌, refl, sym, ap, subst, ◌∙◌}
use mathlib.Core.Bool.{Bool, true, false}
use Rattle.std.specs.Prelude.{Option}
use mathlib.Core.List.{List}
use lib.ListN.{length}
use Rattle.model.specs.declared.Answer.{Answer}
use Rattle.model.specs.declared.Pair.{Pair}
use Rattle.model.specs.Tables.{Table, row_at, names_of, pair_at, pair_rule, table_rules}
use Rattle.model.specs.Judging.{Holder}
use Rattle.model.specs.Calls.{TABLE, refusal_at, refusal, unchanged, gate, leaves, look_step, look, time_of, octets_owner, owner_of, step_of, served, look_on}
use Rattle.model.proofs.Rows.{tests, every_member, at_member}
use Rattle.model.proofs.CallLaws.{holder_by, refused_first, passes_first, leaves_it}
use Rattle.step.specs.Steps.{Ruled, looked}
use Rattle.store.specs.Layout.{table_of}
use Rattle.outcomes.specs.Ends.{shown}
use Rattle.outcomes.proofs.Laws.{rules_layout}
use Rattle.looking.specs.Look.{Sound}

-- ── The gate ────────────────────────────────────────────────────────────────────────────────────────────────────────

pub sound : (w s : List ℕ) (b : Bool) → b ≡ table_rules (table_of w s) → b ≡ true → Sound w s
unfolding pair_at row_at
sound w s b is e =
    let r = sym is ∙ e in
    record {
      layout = rules_layout w s r;
      rule = λ i h. every_member (λ x. pair_rule (table_of w s).clock x.pair) (table_of w s).rows (tests (table_of w s) r).1.1.1.1.0 (at_member (table_of w s).rows i _ h);
    }

module _ (t : Table) (m : List ℕ) (b : Bool) (is : b ≡ table_rules t) where
  pub look_refused : b ≡ false → look_on t m ≡ unchanged t 1
  unfolding look_on time_of gate TABLE
  look_refused e = refused_first t (look m) 1 (rw (sym is ∙ e) refl)

  pub look_passes : b ≡ true → look_on t m ≡ served t (look m)
  unfolding look_on time_of gate
  look_passes e = passes_first t (look m) (rw (sym is ∙ e) refl)

pub refuse_all : (w s : List ℕ) (m : List ℕ) {a : Answer} → a ≡ (refusal 1).answer → look_on (table_of w s) m ≡ unchanged (table_of w s) 1 → shown w s a ≡ look_on (table_of w s) m
unfolding unchanged refusal refusal_at
refuse_all w s m e is = ap (shown w s) e ∙ sym is

-- ── The step ────────────────────────────────────────────────────────────────────────────────────────────────────────

pub row_ruled : (w s : List ℕ) → Sound w s → (i : ℕ) → i < length (table_of w s).rows → {p : Pair} → p ≡ pair_at (table_of w s) i → Ruled p
row_ruled w s o i h is = record { tested = (table_of w s).clock; rule = rw is (o.rule i h) }

-- The step on the row o, or on nobody, is the call.
pub looks :
    (w s m : List ℕ) (o : Option ℕ)
    → octets_owner (names_of (table_of w s)) m ≡ o
    → (h : Holder)
    → h ≡ holder_by (table_of w s) o
    → (a : Answer)
    → leaves h (looked a) ≡ look_step h m
    → shown w s a ≡ served (table_of w s) (look m)
unfolding owner_of step_of
looks w s m o owner h held a e =
    let y = subst (λ (h : Holder). leaves h (looked a) ≡ look_step h m) held e in
    sym (leaves_it (table_of w s) (look m) o (looked a) owner (sym y))
