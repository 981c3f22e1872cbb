-- `words::unhex_into` meets its contract. The loop's invariant: the octets are those read so far, and then those that what is left says. Assumes nothing.
use Prim.Native.Nat.{◌*◌}
use mathlib.Core.Path.{◌≡◌}
use lib.ListN.{length, take, drop}
use Rattle.model.specs.Text.{unhex}
use Rattle.words.proofs.Laws.{after}
use Rattle.words.proofs.unhex_into.Given as goal

abbrev pub invariant-loop-n : goal.invariant-loop-n
invariant-loop-n l = (length l.out ≡ length l.initial.out) × (unhex l.w ≡ after (take l.n l.out) (unhex (drop (2 * l.n) l.w)))
