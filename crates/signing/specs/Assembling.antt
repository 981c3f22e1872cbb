-- What the calls of this crate return, against the crate model's Signing. Assumes nothing.
use Rattle.std.specs.Prelude.{ℕ, ◌+◌, ◌^◌, ◌≤◌, ◌<◌, ◌≡◌, cond, List, ◌++◌, eqb, length, take, drop}
use Rattle.model.specs.Octets.{be16, u16_at}
use Rattle.model.specs.Messages.{read_message}
use Rattle.model.specs.Tsig.{signature}
use Rattle.model.specs.Checks.{check, check_read}
use Rattle.model.specs.Calls.{SIZE, FORMAT, size_ok}
use Rattle.model.specs.Signing.{MACSIZE, Stamp, Assembled, unassembled, is_unsigned, signable, mac_ok}
use Rattle.model.specs.Received.{in_room, later_digest}

-- What is known of a message that passed SIZE and FORMAT: its count of additional records has room for one more.
pub record Sized (m : List ℕ) : Type 0 where
  pub from : 12 ≤ length m
  pub to : length m ≤ 65535
  pub counted : u16_at m 10 + 1 < 65536

-- The number is that of SIZE and FORMAT of a message that is to be signed; 0 where what follows decides.
pub record Bare (m : List ℕ) (r : ℕ) : Type 0 where
  pub says :
      (next : Assembled)
      → check unassembled SIZE (size_ok m) (check_read unassembled FORMAT (read_message m) λ q. check unassembled FORMAT (is_unsigned (signature q.records)) next)
      ≡ cond (eqb r 0) next (unassembled r)
  pub sized : r ≡ 0 → Sized m

-- What is known besides once NAME and TIME passed.
pub record Fit (m name algorithm : List ℕ) (signed : ℕ) : Type 0 where
  pub message : Sized m
  pub named : length name ≤ 255
  pub hashed : length algorithm ≤ 255
  pub timed : signed < 2 ^ 48

-- The number is that of the first refusal; 0 where what follows decides.
pub record Passes (m name algorithm : List ℕ) (signed r : ℕ) : Type 0 where
  pub says : (t : Stamp) (next : Assembled) → t.algorithm ≡ algorithm → t.signed ≡ signed → signable m name t next ≡ cond (eqb r 0) next (unassembled r)
  pub fit : r ≡ 0 → Fit m name algorithm signed

-- The message with one more additional record counted.
unfoldable pub counted_octets : List ℕ → List ℕ
counted_octets m = take 10 m ++ (be16 (u16_at m 10 + 1) ++ drop 12 m)

-- MACSIZE, ROOM, then the digest of a later message: the last steps of digested_later.
abbrev pub later_in : List ℕ → List ℕ → List ℕ → Stamp → ℕ → Assembled
later_in prior before m t room = check unassembled MACSIZE (mac_ok prior) (in_room room (later_digest prior before m t))
