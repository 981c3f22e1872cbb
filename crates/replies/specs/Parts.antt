-- Replies over the octets of the message: model's definitions (Replies), with parts of the message where they have its contents. Assumes nothing.
use Rattle.std.specs.Prelude.{Option, Some, None, true, false, ℕ, ◌+◌, ◌-◌, ◌*◌, ◌≤◌, ◌<◌, ◌≡◌, Bool, List, [], ◌∷◌, ◌++◌, length, take, drop}
use Rattle.model.specs.Octets.{be16, be32, put, part, u16_at}
use Rattle.model.specs.Messages.{Message, message_of, opcode_of, desired_of}
use Rattle.model.specs.declared.Scheme.{Scheme}
use Rattle.model.specs.declared.Scheme.TheVariants.{DiffieHellman, ServerAssignment, ResolverAssignment}
use Rattle.model.specs.Replies.{heading, record_octets, tkey_data, tkey_record, behind}
use Rattle.model.specs.Calls.{room_for}
use Rattle.records.specs.Record.{cut, Within}
use Rattle.replies.specs.declared.Fields.{Fields}
use Rattle.replies.specs.declared.Grant.{Grant}
use Rattle.tkey.specs.declared.KeyFields.{KeyFields}

-- The message, of which no more is read than its header and its question section, which ends at `end`.
abbrev pub framed : List ℕ → ℕ → Message
framed m end = message_of m [] end []

-- A heading in two: ID, flags and count of questions; the other counts and the questions.
unfoldable pub heading_front : List ℕ → ℕ → List ℕ
heading_front m rcode = be16 (u16_at m 0) ++ (((128 + opcode_of m * 8 + desired_of m) ∷ rcode ∷ []) ++ be16 (u16_at m 4))

unfoldable pub heading_back : List ℕ → ℕ → ℕ → ℕ → List ℕ
heading_back m end answers additionals = be16 answers ++ (be16 0 ++ (be16 additionals ++ part m 12 (end - 12)))

-- Octets behind their count.
unfoldable pub sized_octets : List ℕ → List ℕ
sized_octets xs = be16 (length xs) ++ xs

-- What stands in a record before its data, which has this many octets.
unfoldable pub record_front : List ℕ → ℕ → ℕ → ℕ → ℕ → List ℕ
record_front owner type class ttl n = owner ++ (be16 type ++ (be16 class ++ (be32 ttl ++ be16 n)))

-- What stands in a TKEY's data before its key data.
unfoldable pub tkey_front : List ℕ → ℕ → ℕ → ℕ → ℕ → List ℕ
tkey_front algorithm inception expiration mode error = algorithm ++ (be32 inception ++ (be32 expiration ++ (be16 mode ++ be16 error)))

-- The data of the TKEY that answers, with this key data.
abbrev pub data_of : List ℕ → Fields → List ℕ → List ℕ
data_of m t key = tkey_data (cut m t.algorithm) t.inception t.expiration t.mode t.error key (cut m t.other)

-- The echoed KEY record, its owner name given.
abbrev pub echo_of : List ℕ → List ℕ → KeyFields → List ℕ
echo_of m owner e = record_octets owner e.kind e.class e.ttl (cut m e.content)

-- The key data: the offer, or that part of the request.
abbrev pub key_data : Bool → List ℕ → ℕ → ℕ → List ℕ → List ℕ
key_data true request from to offer = offer
key_data false request from to offer = take (to - from) (drop from request)

-- Header, questions and the TKEY that answers, with this key data.
unfoldable pub repeated_octets : List ℕ → ℕ → ℕ → ℕ → Fields → List ℕ → List ℕ → List ℕ
repeated_octets m end answers additionals t owner key = heading (framed m end) 0 answers additionals ++ tkey_record owner (data_of m t key)

-- The same, the lent record and the echo.
unfoldable pub renewed_octets : List ℕ → Grant → List ℕ → List ℕ → List ℕ → List ℕ → List ℕ
renewed_octets m g owner key second subject = repeated_octets m g.end g.answers 1 g.fields owner key ++ (second ++ echo_of m subject g.echo)

-- A granted renewal by its scheme: whose key data it hands out, and whether the lent record stands there.
unfoldable pub takes_offer : Scheme → Bool
takes_offer DiffieHellman = true
takes_offer ServerAssignment = true
takes_offer ResolverAssignment = false

unfoldable pub granted_octets : Scheme → List ℕ → Grant → List ℕ → List ℕ → List ℕ → List ℕ → List ℕ
granted_octets scheme m g owner offer second subject =
    renewed_octets m g owner (key_data (takes_offer scheme) m g.fields.key.from (g.fields.key.from + g.fields.key.size) offer) (behind scheme second) subject

-- Their lengths, from numbers: the lengths of the owner names and of the key data among them.
abbrev pub repeated_size : ℕ → ℕ → Fields → ℕ → ℕ
repeated_size end owner t key = end + owner + 10 + (t.algorithm.size + 16 + key + t.other.size)

abbrev pub renewed_size : Grant → ℕ → ℕ → ℕ → ℕ → ℕ
renewed_size g owner key second subject = repeated_size g.end owner g.fields key + second + subject + 10 + g.echo.content.size

-- What the writer of a reply leaves: the reply in the first octets, and so long; or there is no room for it, and nothing was written.
abbrev pub RepliedBy : List ℕ → List ℕ → List ℕ → Option ℕ → Type 0
RepliedBy reply entry exit (Some n) = (room_for (length entry) reply ≡ true) × (n ≡ length reply) × (exit ≡ put reply entry)
RepliedBy reply entry exit None = (room_for (length entry) reply ≡ false) × (exit ≡ entry)

pub record Replied (reply entry exit : List ℕ) (w : Option ℕ) : Type 0 where
  pub says : RepliedBy reply entry exit w

-- The places and numbers of a TKEY are the message's, and fit their fields.
pub record FieldsIn (m : List ℕ) (t : Fields) : Type 0 where
  pub algorithm : Within m t.algorithm
  pub key : Within m t.key
  pub other : Within m t.other
  pub inception : t.inception < 4294967296
  pub expiration : t.expiration < 4294967296
  pub mode : t.mode < 65536
  pub error : t.error < 65536

pub record EchoIn (m : List ℕ) (e : KeyFields) : Type 0 where
  pub content : Within m e.content
  pub kind : e.kind < 65536
  pub class : e.class < 65536
  pub ttl : e.ttl < 4294967296

-- The message has been read, its question section ends at `end`.
pub record Read (m : List ℕ) (end : ℕ) : Type 0 where
  pub from : 12 ≤ end
  pub to : end ≤ length m
  pub size : length m ≤ 65535
