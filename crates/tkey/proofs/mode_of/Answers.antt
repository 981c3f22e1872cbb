-- `tkey::mode_of` meets its contract. Assumes nothing.
use Rattle.std.proofs.Common.{◌≢◌, arith}
use mathlib.Core.Logic.{⊎_elim}
use borrow.Author.Tests.{ne_eqb}
use Rattle.model.specs.Tkey.{mode_of}
use Rattle.tkey.proofs.mode_of.Goals as goal

pub returns-in-5 : goal.returns-in-5
unfolding mode_of
returns-in-5 c = rw c.in-5.is

pub returns-in-4097 : goal.returns-in-4097
unfolding mode_of
returns-in-4097 c = rw c.in-4097.is

pub returns-in-4098 : goal.returns-in-4098
unfolding mode_of
returns-in-4098 c = rw c.in-4098.is

pub returns-in-4099 : goal.returns-in-4099
unfolding mode_of
returns-in-4099 c = rw c.in-4099.is

pub returns-in-4100 : goal.returns-in-4100
unfolding mode_of
returns-in-4100 c = rw c.in-4100.is

pub returns-in-0 : goal.returns-in-0
unfolding mode_of
returns-in-0 c = ⊎_elim (λ e. rw e) (λ e. rw e) c.in-0.is

pub returns-in-1-to-4 : goal.returns-in-1-to-4
unfolding mode_of
returns-in-1-to-4 c =
    let n5 : c.args.n ≢ 5 = omega arith in
    let n4097 : c.args.n ≢ 4097 = omega arith in
    let n4098 : c.args.n ≢ 4098 = omega arith in
    let n4099 : c.args.n ≢ 4099 = omega arith in
    let n4100 : c.args.n ≢ 4100 = omega arith in
    let n0 : c.args.n ≢ 0 = grind arith in
    let n65535 : c.args.n ≢ 65535 = grind arith in
    simp (ne_eqb _ _ n5, ne_eqb _ _ n4097, ne_eqb _ _ n4098, ne_eqb _ _ n4099, ne_eqb _ _ n4100, ne_eqb _ _ n0, ne_eqb _ _ n65535)
