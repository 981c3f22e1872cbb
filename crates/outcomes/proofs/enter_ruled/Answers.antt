-- `outcomes::enter_ruled` meets its contract. Assumes nothing.
use mathlib.Core.Path.{◌≡◌, ap}
use Rattle.std.proofs.Common.{rules}
use Rattle.outcomes.specs.Gate.{number_in}
use Rattle.outcomes.proofs.Laws.{shown_words, enter_refused, enter_passed, refused_number}
use Rattle.outcomes.proofs.enter_ruled.Goals as goal

pub returns-in_err-late : goal.returns-in_err-late
returns-in_err-late c =
    let e : c.from_residual.result ≡ c.late.result = search rules in
    rw e (enter_refused _ _ _ _ c.late.ensures (refused_number c.in_err-late.was))

pub set_clock-requires : goal.set_clock-requires
set_clock-requires c =
    let w = c.args.words.now in
    let s = c.args.suffixes.now in
    shown_words w s (c.late.ensures.layout (ap number_in c.in_ok-late.was))

pub returns : goal.returns
returns c = enter_passed _ _ _ _ c.late.ensures (ap number_in c.in_ok-late.was) c.set_clock.ensures
