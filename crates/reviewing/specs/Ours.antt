-- What a reply that is written into a buffer leaves there. Assumes nothing.
use Rattle.std.specs.Prelude.{ℕ, ◌≤◌, ◌≡◌, List, length, take}

-- The first n octets of the buffer are the reply.
pub record Fills (reply buffer : List ℕ) (n : ℕ) : Type 0 where
  pub within : n ≤ length buffer
  pub is : take n buffer ≡ reply
