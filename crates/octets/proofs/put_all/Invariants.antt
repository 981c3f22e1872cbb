-- `octets::put_all` meets its contract. The loop's invariant: the first i octets of s stand at the front of buf, and the rest of buf is as it was.
-- Assumes nothing.
use mathlib.Core.Path.{◌≡◌}
use lib.ListN.{length, take}
use Rattle.model.specs.Octets.{put}
use Rattle.octets.proofs.put_all.Given as goal

abbrev pub invariant-loop-i : goal.invariant-loop-i
invariant-loop-i l = (length l.buf ≡ length l.fn.buf) × (l.buf ≡ put (take l.i l.s) l.fn.buf)
