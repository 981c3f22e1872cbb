-- The calls on a received message are what follows a TSIG that was read back. Assumes nothing.
use Prim.Native.Nat.{ℕ}
use mathlib.Core.Path.{◌≡◌, refl}
use mathlib.Core.List.{List}
use Rattle.model.specs.Received.{received, received_request, received_reply, received_later}
use Rattle.receiving.specs.Receiving.{request_room, reply_room, later_room}

module _ (m : List ℕ) (room : ℕ) where
  pub request_as : received_request m room ≡ received m (λ t. request_room m t room)
  unfolding received_request
  request_as = refl

  pub reply_as : (mac : List ℕ) → received_reply mac m room ≡ received m (λ t. reply_room mac m t room)
  unfolding received_reply
  reply_as mac = refl

  pub later_as : (prior before : List ℕ) → received_later prior before m room ≡ received m (λ t. later_room prior before m t room)
  unfolding received_later
  later_as prior before = refl
