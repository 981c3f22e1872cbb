-- `inserting::renumber` meets its contract. Assumes nothing.
use Prim.Native.Nat.{ℕ, ◌+◌, ◌-◌}
use mathlib.Core.Path.{◌≡◌, ap, sym, ◌∙◌}
use native.Mathlib.Omega.{arith}
use lib.ListN.{get_or, take, drop, length, length-drop}
use Rattle.std.proofs.lemmas.List.{get_or-take, get_or-drop, length-take-le}
use Rattle.store.specs.Layout.{place_of}
use Rattle.inserting.specs.Insert.{up_from}
use Rattle.inserting.proofs.Moving.{up_low, up_high, partly_set, renumbered}
use Rattle.inserting.proofs.renumber.Goals as goal
use Rattle.inserting.proofs.renumber.Goals.{then-gap-place, else-gap-place}

pub loop-place-init : goal.loop-place-init
loop-place-init c = record {
  done = λ i h. absurd (omega arith);
  left = λ i h g. get_or-take (3 + c.args.n - 3) (drop 3 c.args.w.now) i 0 (omega arith) ∙ get_or-drop 3 c.args.w.now i 0;
}

pub overflow_add-place : goal.overflow_add-place
overflow_add-place c =
    let l = c.loop-place in
    let long : length (take (3 + c.args.n - 3) (drop 3 c.args.w.now)) ≡ 3 + c.args.n - 3 = length-take-le _ (drop 3 c.args.w.now) (omega (arith, length-drop 3 c.args.w.now)) in
    omega (arith, long, l.invariant.left l.place-index (omega arith) (omega arith), c.requires.1 l.place-index (omega arith))

pub loop-place-preserved : goal.loop-place-preserved
loop-place-preserved c =
    let l = c.loop-place in
    let i = l.place-index in
    let long : length (take (3 + c.args.n - 3) (drop 3 c.args.w.now)) ≡ 3 + c.args.n - 3 = length-take-le _ (drop 3 c.args.w.now) (omega (arith, length-drop 3 c.args.w.now)) in
    let was : get_or l.place-items i 0 ≡ place_of c.args.w.now i = l.invariant.left i (omega arith) (omega arith) in
    elim c.if-gap-place.branch [
      | then-gap-place w ↦ partly_set l.invariant (omega arith) w.place-items-is (ap (λ (q : ℕ). q + 1) was ∙ sym (up_high (omega arith)))
      | else-gap-place w ↦ partly_set l.invariant (omega arith) w.place-items-is (was ∙ sym (up_low (omega arith)))
    ]

pub returns : goal.returns
returns c =
    let long : length (take (3 + c.args.n - 3) (drop 3 c.args.w.now)) ≡ 3 + c.args.n - 3 = length-take-le _ (drop 3 c.args.w.now) (omega (arith, length-drop 3 c.args.w.now)) in
    let e : c.loop-place.place-index ≡ c.args.n = omega arith in
    renumbered _ _ c.requires.0 (omega arith) (omega arith) (rw e at c.loop-place.invariant)
