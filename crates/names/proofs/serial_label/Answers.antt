-- `names::serial_label` meets its contract: the digits stand from place 1 on, and their number goes to place 0. Assumes nothing.
use Prim.Native.Nat.{ℕ, ◌-◌, ◌<◌}
use mathlib.Core.Path.{◌≡◌, refl, ap, ◌∙◌}
use mathlib.Core.List.{List, ◌∷◌}
use native.Mathlib.Omega.{arith}
use borrow.Author.Rules.{rules}
use lib.ListN.{length, take, drop, set, replicate}
use lib.Seq.{take-set-lt, take_at}
use Rattle.model.specs.Octets.{put, overlay}
use Rattle.model.specs.Names.{decimal, serial_label}
use Rattle.model.proofs.NameLaws.{decimal_short}
use Rattle.octets.specs.Wrote.{Wrote}
use Rattle.names.proofs.serial_label.Goals as goal

-- the digits with their number in front
headed : (n r : ℕ) (out : List ℕ) → Wrote (decimal n) 1 (replicate 11 0) out r → take r (set out 0 (r - 1)) ≡ serial_label n
unfolding serial_label overlay put
headed n r out w =
    let p : 0 < r = omega arith in
    let e : r - 1 ≡ length (decimal n) = omega arith in
    let o : take r out ≡ 0 ∷ decimal n = ap (take r) w.left ∙ take_at (0 ∷ decimal n) (drop (length (decimal n)) (replicate 10 0)) r (omega arith) in
    rw (take-set-lt r out 0 (r - 1) p, o, e) refl

pub decimal_into-end-requires : goal.decimal_into-end-requires
decimal_into-end-requires c = omega (arith, decimal_short 10 c.args.serial (omega arith))

pub returns : goal.returns
returns c = (search rules, headed c.args.serial c.decimal_into-end.result c.decimal_into-end.new.out c.decimal_into-end.ensures)
