-- The two ways that a call ends: it is refused and writes nothing; or it is done. Assumes nothing.
use Prim.Native.Nat.{ℕ, ◌≤◌, ◌<◌}
use mathlib.Core.Path.{◌≡◌, refl}
use mathlib.Core.List.{List}
use native.Mathlib.Omega.{arith}
use borrow.Author.Tests.{le-leb, lt-leb}
use lib.ListN.{length}
use Rattle.std.specs.Prelude.{Result, Ok, Err}
use Rattle.model.specs.Octets.{put}
use Rattle.model.specs.Checks.{check}
use Rattle.model.specs.Calls.{ROOM}
use Rattle.model.specs.Signing.{MACSIZE, Assembled, unassembled, mac_ok, assembled_into}
use Rattle.model.specs.Received.{in_room}
use Rattle.octets.specs.Wrote.{Wrote}
use Rattle.octets.proofs.Laws.{wrote_put}
use Rattle.digests.specs.declared.Refusal.{Refusal}
use Rattle.digests.specs.declared.Refusal.TheVariants.{Time, Size, Format, Room, Name, MacSize}
use Rattle.digests.specs.Left.{number_of, Left}

pub refused : (r : Refusal) (b : List ℕ) → Left (unassembled (number_of r)) b b (Err r)
unfolding unassembled assembled_into put
refused r b = record { number = refl; length = refl; left = refl }

pub written : {xs b b' : List ℕ} {end : ℕ} → Wrote xs 0 b b' end → Left (record { number = 0; octets = xs }) b b' (Ok end)
unfolding assembled_into
written w = let p = wrote_put w in record { number = refl; length = p.0; left = p.1 }

-- no refusal has the number of what is done
pub refusal_numbered : (r : Refusal) → number_of r ≡ 0 → ⊥
refusal_numbered Time e = omega arith
refusal_numbered Size e = omega arith
refusal_numbered Format e = omega arith
refusal_numbered Room e = omega arith
refusal_numbered Name e = omega arith
refusal_numbered MacSize e = omega arith

-- ROOM of the lent buffer alone
module _ (xs b : List ℕ) where
  pub unroomed : length b < length xs → Left (in_room (length b) xs) b b (Err Room)
  unfolding in_room ROOM
  unroomed h = rw (lt-leb (length xs) (length b) h) (refused Room b)

  pub roomed : (b' : List ℕ) (end : ℕ) → Wrote xs 0 b b' end → Left (in_room (length b) xs) b b' (Ok end)
  unfolding in_room
  roomed b' end w = rw (le-leb (length xs) (length b) (omega arith)) (written w)

-- MACSIZE
module _ (mac : List ℕ) (next : Assembled) (b : List ℕ) where
  pub mac_refused : 64 < length mac → Left (check unassembled MACSIZE (mac_ok mac) next) b b (Err MacSize)
  unfolding mac_ok MACSIZE
  mac_refused h = rw (lt-leb (length mac) 64 h) (refused MacSize b)

  pub mac_passes : length mac ≤ 64 → (r : Result ℕ Refusal) (b' : List ℕ) → Left next b b' r → Left (check unassembled MACSIZE (mac_ok mac) next) b b' r
  unfolding mac_ok
  mac_passes h r b' l = rw (le-leb (length mac) 64 h) l
