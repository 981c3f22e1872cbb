-- `resolver_state::store_names` meets its contract. Assumes nothing.
use lib.ListN.{length, length-append}
use mathlib.Core.Path.{◌≡◌}
use native.Mathlib.Omega.{arith}
use Rattle.resolver_state.specs.State.{state_names}
use Rattle.octets.proofs.Laws.{then}
use Rattle.resolver_state.proofs.Laws.{wrote_all}
use borrow.Author.Rules.{rules}
use Rattle.resolver_state.proofs.store_names.Goals as goal

pub returns : goal.returns
unfolding state_names
returns c =
    let s = c.args.s in
    let a : length s.adopted.name ≡ 255 = search rules in
    let o : length s.offered.name ≡ 255 = search rules in
    let n : length c.args.names.now ≡ 510 = search rules in
    record {
      says = wrote_all (then c.all_into-next.ensures.1 c.all_into.ensures.1) (rw length-append (omega (arith, a, o, n)));
      adopted = a;
      offered = o;
    }
