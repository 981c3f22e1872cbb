-- `replies::flags_of` meets its contract. Assumes nothing.
use native.Mathlib.Omega.{arith}
use mathlib.Core.Path.{ap, ◌∙◌}
use Prim.Native.Nat.{ℕ, ◌+◌, ◌*◌, ◌/◌, ◌%◌}
use mathlib.Core.List.{[], ◌∷◌}
use Rattle.model.specs.Messages.{opcode_of, desired_of}
use Rattle.replies.proofs.Laws.{two_octets}
use Rattle.replies.proofs.flags_of.Goals as goal

pub returns : goal.returns
unfolding opcode_of desired_of
returns c =
    let o = c.wide-o.result in
    let e = c.wide-o.ensures.0 in
    (omega arith, two_octets (128 + o / 8 % 16 * 8 + o % 2) c.args.rcode (omega arith) ∙ ap (λ (x : ℕ). (128 + x / 8 % 16 * 8 + x % 2) ∷ c.args.rcode ∷ []) e)
