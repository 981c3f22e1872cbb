-- `messages::questions` meets its contract. Assumes nothing.
use Prim.Native.Nat.{ℕ}
use mathlib.Core.List.{[]}
use mathlib.Core.Path.{ap, ◌∙◌}
use native.Mathlib.Omega.{arith}
use Rattle.std.proofs.lemmas.Result.{err_from_is_err_and}
use Rattle.messages.specs.declared.Asked.TheVariants.{Nothing}
use Rattle.messages.specs.Scan.{ask_from}
use Rattle.messages.proofs.Loops.{ask_none, ask_stops, ask_goes}
use Rattle.messages.proofs.questions.Goals as goal

pub loop-init : goal.loop-init
loop-init c = let a = c.args in ap (λ (n : ℕ). ask_from a.m.now n Nothing a.at) (omega arith)

pub returns-in_err-kind : goal.returns-in_err-kind
returns-in_err-kind c =
    let p = err_from_is_err_and c.from_residual.result c.from_residual.ensures.1 in
    rw (p.1, p.2) (c.loop.invariant ∙ ask_stops _ _ _ _ _ _ c.skip_question.ensures.read (omega arith) _ c.in_err-kind.was)

pub loop-preserved : goal.loop-preserved
loop-preserved c =
    c.loop.invariant
    ∙ ask_goes _ _ _ _ _ _ c.skip_question.ensures.read (omega arith) _ _ _ _ c.in_ok-kind.was _ c.ask_more-asks.ensures
    ∙ ap (λ (n : ℕ). ask_from c.args.m.now n c.ask_more-asks.result c.in_ok-kind.field-0.next) (omega arith)

pub returns : goal.returns
returns c = c.loop.invariant ∙ ask_none _ _ _ [] _ (omega arith)
