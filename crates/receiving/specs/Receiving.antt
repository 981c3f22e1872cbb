-- What the calls of this crate return, against the crate model's Received and Signing. Assumes nothing.
use Rattle.std.specs.Prelude.{ℕ, ◌≤◌, ◌≡◌, List, [], length, take, Option, None, Some, Result, Ok, Err}
use Rattle.model.specs.Octets.{put}
use Rattle.model.specs.Tsig.{Tsig}
use Rattle.model.specs.Checks.{check}
use Rattle.model.specs.Signing.{MACSIZE, request_digest, reply_digest, Assembled, unassembled, mac_ok, ReadBack, read_back, removed}
use Rattle.model.specs.Received.{stamp_in, in_room, later_digest}
use Rattle.records.specs.Record.{Within, cut}
use Rattle.tsig.specs.declared.TsigFields.{TsigFields}
use Rattle.digests.specs.declared.TsigNumbers.{TsigNumbers}
use Rattle.digests.specs.declared.Refusal.{Refusal}
use Rattle.digests.specs.Left.{number_of}
use Rattle.receiving.specs.declared.TsigParts.{TsigParts}

-- The numbers of a TSIG with these fields.
abbrev pub numbers_in : TsigFields → TsigNumbers
numbers_in f = record { signed = f.signed; fudge = f.fudge; original_id = f.id; error = f.error }

-- ── What follows SIZE and FORMAT ────────────────────────────────────────────────────────────────────────────────────

-- Of a message with this TSIG.
abbrev pub request_room : List ℕ → Tsig → ℕ → Assembled
request_room m t room = in_room room (request_digest (removed m) t.name (stamp_in t))

abbrev pub reply_room : List ℕ → List ℕ → Tsig → ℕ → Assembled
reply_room mac m t room = check unassembled MACSIZE (mac_ok mac) (in_room room (reply_digest mac (removed m) t.name (stamp_in t)))

abbrev pub later_room : List ℕ → List ℕ → List ℕ → Tsig → ℕ → Assembled
later_room prior before m t room = check unassembled MACSIZE (mac_ok prior) (in_room room (later_digest prior before (removed m) (stamp_in t)))

-- ── The TSIG ────────────────────────────────────────────────────────────────────────────────────────────────────────

-- The TSIG that the answer says the message m has: its names are the first octets of the lent arrays.
abbrev pub tsig_told : List ℕ → List ℕ → List ℕ → TsigParts → Tsig
tsig_told m name algorithm p =
    record {
      name = take p.named name;
      algorithm = take p.fields.algorithm.size algorithm;
      signed = p.fields.signed;
      fudge = p.fields.fudge;
      mac = cut m p.fields.mac;
      original_id = p.fields.id;
      error = p.fields.error;
      other = cut m p.fields.other;
    }

abbrev pub told : List ℕ → List ℕ → List ℕ → Result TsigParts Refusal → ReadBack
told m name algorithm (Ok p) = record { number = 0; tsig = Some (tsig_told m name algorithm p) }
told m name algorithm (Err r) = record { number = number_of r; tsig = None }

-- The names of a TSIG that was read; none has no octets.
abbrev pub owner_of : Option Tsig → List ℕ
owner_of None = []
owner_of (Some t) = t.name

abbrev pub hash_of : Option Tsig → List ℕ
hash_of None = []
hash_of (Some t) = t.algorithm

-- The names lie in the arrays, the MAC and other data in the message.
pub record PartsLie (m name algorithm : List ℕ) (p : TsigParts) : Type 0 where
  pub named : p.named ≤ length name
  pub hashed : p.fields.algorithm.size ≤ length algorithm
  pub mac : Within m p.fields.mac
  pub other : Within m p.fields.other

abbrev pub Lies : List ℕ → List ℕ → List ℕ → Result TsigParts Refusal → Type 0
Lies m name algorithm (Ok p) = PartsLie m name algorithm p
Lies m name algorithm (Err r) = Unit {0}

-- The answer is the TSIG of the message m. The lent arrays are `name` and `algorithm` at entry, and these at exit.
pub record TsigTold (m name algorithm name' algorithm' : List ℕ) (r : Result TsigParts Refusal) : Type 0 where
  -- the number of a refusal, or the TSIG
  pub says : read_back m ≡ told m name' algorithm' r
  -- the names are written at the front of the arrays, and nothing else is; nothing at all where the call is refused
  pub named : name' ≡ put (owner_of (read_back m).tsig) name
  pub hashed : algorithm' ≡ put (hash_of (read_back m).tsig) algorithm
  pub lies : Lies m name algorithm r
