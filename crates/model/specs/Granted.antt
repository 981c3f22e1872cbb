-- What a router's own program needs of the resolver's half besides Resolver (02, CR 1): a state to start from, a renewal whose algorithm is a number, and
-- the key data that a granted renewal brings. Assumes nothing.
use Rattle.std.specs.Prelude.{ℕ, ◌+◌, Bool, false, cond, ◌&&◌, List, [], length, replicate, eqb, Option, None, Some}
use Rattle.model.specs.declared.Algorithm.{Algorithm}
use Rattle.model.specs.declared.ResolverKey.{ResolverKey}
use Rattle.model.specs.declared.Holding.{Holding}
use Rattle.model.specs.declared.Asking.{Asking}
use Rattle.model.specs.declared.Resolver.{Resolver}
use Rattle.model.specs.Octets.{put, part, u16_at, Reading, stops, reads}
use Rattle.model.specs.Names.{read_plain, wire_name, algorithm_named, algorithm_numbered}
use Rattle.model.specs.Messages.{Record, Message, read_message, of_type}
use Rattle.model.specs.Tsig.{Tsig, Signature, unsigned, misplaced, well_placed, signature}
use Rattle.model.specs.Tkey.{tkey_type, only}
use Rattle.model.specs.Checks.{check, check_read, check_known}
use Rattle.model.specs.Calls.{size_ok}
use Rattle.model.specs.Resolver.{LOST, WRONGID, UNSIGNED, FORMAT, NOKEY, Writing, unwritten, written_renewal, TkeyAnswer, answer_of, answers, is_mode, rcode_of}
use Rattle.model.specs.declared.OpenRequest.{OpenRequest}

-- ── A state to start from ───────────────────────────────────────────────────────────────────────────────────────────

-- Of "a counter and a table that start with the same adopted key" the counter: it holds this key and nothing else. No request is open, and the next adoption
-- is signed with the adopted key. (The offered key is not held, and has no meaning.)
unfoldable pub key_named : List ℕ → Algorithm → ℕ → ℕ → ResolverKey
key_named name algorithm inception expiration =
    record { name = put name (replicate 255 0); length = length name; algorithm = algorithm; inception = inception; expiration = expiration }

unfoldable pub starting_with : ResolverKey → Resolver
starting_with k =
    record { holding = Holding.Adopted; adopted = k; offered = k; awaited = None; offered_signs = false }

-- What holding a key ends with: its number, and the state afterwards.
pub record Hold : Type 0 where
  pub number : ℕ
  pub state : Resolver

unfoldable pub unheld : Resolver → ℕ → Hold
unheld s n = record { number = n; state = s }

-- NOKEY: its name is no wire name, or its algorithm none of the three (256, 384, 512).
unfoldable pub held : Resolver → List ℕ → ℕ → ℕ → ℕ → Hold
held s name algorithm inception expiration =
    check (unheld s) NOKEY (wire_name name)
    (check_known (unheld s) NOKEY (algorithm_numbered algorithm) λ g.
    record { number = 0; state = starting_with (key_named name g inception expiration) })

-- ── A renewal whose algorithm is a number ───────────────────────────────────────────────────────────────────────────

-- NOKEY too where it is none of the three.
unfoldable pub numbered_renewal : Resolver → ℕ → List ℕ → ℕ → ℕ → ℕ → List ℕ → ℕ → Writing
numbered_renewal s id name algorithm inception expiration key_record room =
    check_known (unwritten s) NOKEY (algorithm_numbered algorithm) λ g.
    written_renewal s id name g inception expiration key_record room

-- ── The key data of a granted renewal ───────────────────────────────────────────────────────────────────────────────

-- The key data of a TKEY (fields as in Tkey): the octets behind its key size; `at` is behind the algorithm.
abbrev pub key_data_named : Record → Reading (List ℕ) → List ℕ
key_data_named r (stops place) = []
key_data_named r (reads algorithm at) = part r.content (at + 14) (u16_at r.content (at + 12))

unfoldable pub key_data_of : Record → List ℕ
key_data_of r = key_data_named r (read_plain r.content 0)

-- As Resolver's offered_by, renewed_in and moved: where they make an offered key, its data; else none.
abbrev pub offered_data : Record → Option Algorithm → Option (List ℕ)
offered_data r None = None
offered_data r (Some g) = Some (key_data_of r)

abbrev pub renewed_data : Holding → Record → TkeyAnswer → Option (List ℕ)
renewed_data Holding.Nothing r t = None
renewed_data Holding.Adopted r t = offered_data r (algorithm_named t.algorithm)
renewed_data Holding.AdoptedAndOffered r t = offered_data r (algorithm_named t.algorithm)

abbrev pub moved_data : Asking → Resolver → Record → TkeyAnswer → Option (List ℕ)
moved_data Asking.Ordinary s r t = None
moved_data Asking.Renewal s r t = renewed_data s.holding r t
moved_data Asking.Adoption s r t = None
moved_data Asking.Deletion s r t = None

-- As moved_by, of the only TKEY of the answer section.
abbrev pub answered_data : Asking → Resolver → Record → Option TkeyAnswer → Option (List ℕ)
answered_data asking s r None = None
answered_data asking s r (Some t) = cond (is_mode asking t.mode && eqb t.error 0) (moved_data asking s r t) None

abbrev pub only_data : Asking → Resolver → Option Record → Option (List ℕ)
only_data asking s None = None
only_data asking s (Some r) = answered_data asking s r (answer_of r)

-- As accepted.
unfoldable pub accepted_data : Resolver → Asking → List ℕ → Message → Tsig → Option (List ℕ)
accepted_data s asking octets m t =
    cond (m.response && (eqb (rcode_of octets) 0 && eqb t.error 0)) (only_data asking s (only (of_type tkey_type (answers m.records)))) None

-- As signed_reply, awaited_reply and read_reply: each refusal brings none.
unfoldable pub no_data : ℕ → Option (List ℕ)
no_data n = None

abbrev pub signed_data : Resolver → Asking → List ℕ → Message → Bool → Signature → Option (List ℕ)
signed_data s asking octets m good unsigned = no_data UNSIGNED
signed_data s asking octets m good misplaced = no_data UNSIGNED
signed_data s asking octets m good (well_placed t) = check no_data UNSIGNED good (accepted_data s asking octets m t)

abbrev pub awaited_data : Resolver → Option OpenRequest → List ℕ → Bool → Message → Option (List ℕ)
awaited_data s None octets good m = no_data LOST
awaited_data s (Some q) octets good m =
    check no_data WRONGID (eqb m.id q.id) (signed_data s q.asking octets m good (signature m.records))

-- The key data of the reply's TKEY where reading the reply (read_reply) grants a renewal; else none.
unfoldable pub granted_data : Resolver → Bool → List ℕ → Option (List ℕ)
granted_data s good octets = check no_data FORMAT (size_ok octets) (check_read no_data FORMAT (read_message octets) (awaited_data s s.awaited octets good))
