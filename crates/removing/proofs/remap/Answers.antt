-- `removing::remap` meets its contract. Assumes nothing.
use Prim.Native.Nat.{◌+◌, ◌-◌}
use mathlib.Core.Path.{◌≡◌, refl, ap, ◌∙◌}
use native.Mathlib.Omega.{arith}
use lib.ListN.{take, drop, length, length-drop}
use Rattle.std.proofs.lemmas.List.{get_or-take, get_or-drop, length-take-le}
use Rattle.inserting.proofs.Moving.{partly_set}
use Rattle.removing.specs.Remove.{down_from}
use Rattle.removing.proofs.Moving.{remapped}
use Rattle.removing.proofs.remap.Goals as goal

pub loop-x-init : goal.loop-x-init
loop-x-init c = record {
  done = λ i h. absurd (omega arith);
  left = λ i h g. get_or-take (3 + c.args.n - 3) (drop 3 c.args.w.now) i 0 (omega arith) ∙ get_or-drop 3 c.args.w.now i 0;
}

pub loop-x-preserved : goal.loop-x-preserved
loop-x-preserved c =
    let l = c.loop-x in
    let long : length (take (3 + c.args.n - 3) (drop 3 c.args.w.now)) ≡ 3 + c.args.n - 3 = length-take-le _ (drop 3 c.args.w.now) (omega (arith, length-drop 3 c.args.w.now)) in
    partly_set l.invariant (omega arith) refl (c.down_from.ensures ∙ ap (down_from c.args.place) (l.invariant.left l.x-index (omega arith) (omega arith)))

pub returns : goal.returns
returns c =
    let long : length (take (3 + c.args.n - 3) (drop 3 c.args.w.now)) ≡ 3 + c.args.n - 3 = length-take-le _ (drop 3 c.args.w.now) (omega (arith, length-drop 3 c.args.w.now)) in
    let e : c.loop-x.x-index ≡ c.args.n = omega arith in
    remapped _ _ c.requires (omega arith) (omega arith) (rw e at c.loop-x.invariant)
