-- `resolver_state::key_in` meets its contract. Assumes nothing.
use Rattle.octets.proofs.Laws.{part_length}
use lib.ListN.{length}
use Prim.Native.Nat.{◌+◌, ◌≤◌}
use mathlib.Core.Path.{refl, sym}
use Rattle.resolver_state.proofs.Laws.{wrote_all, unwrapped}
use Rattle.resolver_state.specs.State.{key_in}
use borrow.Author.Rules.{rules}
use Rattle.resolver_state.proofs.key_in.Goals as goal

pub returns : goal.returns
unfolding key_in
returns c =
    let room : c.args.at + 255 ≤ length c.args.names.now = search rules in
    rw (wrote_all c.part_into.ensures.1 (sym (part_length c.args.names.now c.args.at 255 room)), c.unwrap_or-algorithm.ensures, unwrapped _ _ _ c.try_from.ensures) refl
