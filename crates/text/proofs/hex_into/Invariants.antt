-- `text::hex_into` meets its contract. The loop's invariant: the first octets of s are written. Assumes nothing.
use mathlib.Core.Path.{◌≡◌}
use Prim.Native.Nat.{◌+◌, ◌*◌}
use lib.ListN.{length, take}
use Rattle.model.specs.Text.{hex_of}
use Rattle.octets.specs.Wrote.{Wrote}
use Rattle.text.proofs.hex_into.Given as goal

abbrev pub invariant-loop-x : goal.invariant-loop-x
invariant-loop-x l = (l.next ≡ l.at + 2 * l.x-index) × (length l.buf ≡ length l.initial.buf) × Wrote (hex_of (take l.x-index l.s)) l.at l.initial.buf l.buf l.next
