use Rattle.loading.proofs.Laws.{named_none, named_next, named_all}
use Rattle.model.specs.Loading.{dropped_from}
use native.Mathlib.Omega.{arith}
use Rattle.loading.proofs.name_lines.Goals as goal

pub loop-i-init : goal.loop-i-init
unfolding dropped_from
loop-i-init c = named_none _ _

pub loop-i-preserved : goal.loop-i-preserved
loop-i-preserved c =
    let st = c.args in
    let k = c.loop-i in
    named_next st.before st.reason st.first k.i k.invariant c.name_line.ensures

pub shape_of-named : goal.shape_of-named
shape_of-named c = c.loop-i.invariant.size

pub returns : goal.returns
returns c = named_all _ _ _ _ _ c.loop-i.invariant (omega arith) (omega arith)
