-- `lines::read_pair` meets its contract, field by field. Assumes nothing.
use Prim.Native.Nat.{ℕ, ◌≤◌}
use mathlib.Core.Path.{refl, sym, subst, ◌∙◌}
use Rattle.model.specs.declared.Pair.{Pair}
use native.Mathlib.Omega.{arith}
use Rattle.std.proofs.lemmas.Option.{same_Some}
use Rattle.model.specs.Listing.{pair_word}
use Rattle.model.specs.Lines.{suffix_said, pair_said, read_pair}
use Rattle.lines.proofs.Steps.{unheaded, begins, stops, steps, numbers_are}
use Rattle.lines.proofs.read_pair.Goals as goal

pub returns-in_err-first : goal.returns-in_err-first
unfolding read_pair
returns-in_err-first c =
    rw c.from_residual.ensures (record { says = unheaded pair_word _ pair_said c.in_err-first.ensures; size = refl; bound = λ p e. grind arith })

pub returns-in_err-size : goal.returns-in_err-size
unfolding read_pair
returns-in_err-size c =
    let s = c.in_err-size.ensures in
    let n = begins pair_word _ pair_said c.in_ok-first.first c.in_ok-first.ensures ∙ stops suffix_said _ _ _ s.says in
    rw c.from_residual-in_err-size.ensures (record { says = n; size = s.long; bound = λ p e. grind arith })

pub returns-in_err-next_serial : goal.returns-in_err-next_serial
unfolding read_pair
returns-in_err-next_serial c =
    let s = c.in_ok-size.ensures in
    let n = begins pair_word _ pair_said c.in_ok-first.first c.in_ok-first.ensures ∙ steps suffix_said _ _ _ _ c.in_ok-size.size.next s.says ∙ numbers_are _ _ _ _ (sym c.in_err-next_serial.ensures) in
    rw c.from_residual-in_err-next_serial.ensures (record { says = n; size = s.long; bound = λ p e. grind arith })

pub returns : goal.returns
unfolding read_pair
returns c =
    let s = c.in_ok-size.ensures in
    let most = s.bound c.in_ok-size.size refl in
    record {
      says = begins pair_word _ pair_said c.in_ok-first.first c.in_ok-first.ensures ∙ steps suffix_said _ _ _ _ c.in_ok-size.size.next s.says ∙ numbers_are _ _ _ _ (sym c.in_ok-next_serial.ensures);
      size = s.long;
      bound = λ p e. let P : ℕ × Pair → Type 0 = λ p. p.0 ≤ 128 in subst P (same_Some _ _ e) most;
    }
