-- Laws of removing a TSIG as the code does. Assumes nothing.
use Prim.Native.Nat.{ℕ, ◌-◌}
use mathlib.Core.Path.{◌≡◌, refl, ap, sym, ◌∙◌}
use mathlib.Core.List.{List, ◌++◌}
use native.Mathlib.Omega.{arith}
use lib.ListN.{length, length-append}
use Rattle.model.specs.Octets.{be16, u16_at, part}
use Rattle.model.specs.Signing.{removed, removed_in}
use Rattle.model.specs.Received.{received, in_room}
use Rattle.octets.proofs.Laws.{part_length, be16_length}
use Rattle.messages.specs.Scan.{LastAt}

-- removing is what follows a TSIG that was read back
pub removed_as : (m : List ℕ) (room : ℕ) → removed_in m room ≡ received m (λ t. in_room room (removed m))
unfolding removed_in received in_room
removed_as m room = refl

-- by the place of the last record
module _ (m : List ℕ) (place : ℕ) (l : LastAt m place) where
  pub removed_is : part m 0 10 ++ (be16 (u16_at m 10 - 1) ++ part m 12 (place - 12)) ≡ removed m
  unfolding removed part
  removed_is = rw l.begins refl

  pub removed_length : length (removed m) ≡ place
  removed_length =
      let a = part_length m 0 10 (omega arith) in
      let b = be16_length (u16_at m 10 - 1) in
      let d = part_length m 12 (place - 12) (omega arith) in
      ap length (sym removed_is) ∙ simp length-append (omega arith)
