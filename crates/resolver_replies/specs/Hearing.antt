-- What the steps of reading a reply say, of whatever message the octets m are: `end` is where its questions end, and `signer` says how it is signed.
-- Assumes nothing.
use Rattle.std.specs.Prelude.{ℕ, ◌-◌, ◌≤◌, ◌≡◌, Bool, false, List, length, replicate, Result, Ok, Err}
use Rattle.model.specs.declared.Algorithm.{Algorithm}
use Rattle.model.specs.declared.ResolverKey.{ResolverKey}
use Rattle.model.specs.declared.Holding.TheVariants.{AdoptedAndOffered, Adopted}
use Rattle.model.specs.declared.Asking.{Asking}
use Rattle.model.specs.declared.Resolver.{Resolver}
use Rattle.model.specs.declared.Heard.{Heard}
use Rattle.model.specs.Octets.{put, u16_at, part, reads}
use Rattle.model.specs.Messages.{Message, read_message}
use Rattle.model.specs.Tsig.{Tsig, signature}
use Rattle.model.specs.Resolver.{unheard, only_answer, moved_by, accepted, heard, signed_reply, awaited_reply, read_reply}
use Rattle.tsig.specs.declared.Signer.{Signer}
use Rattle.tsig.specs.Signature.{shown as signerShown}
use Rattle.resolver_replies.specs.declared.Passed.{Passed}
use Rattle.resolver_replies.specs.declared.Refusal.{Refusal}
use Rattle.resolver_replies.specs.declared.Refusal.TheVariants.{Lost, WrongId, Unsigned, Format}

-- The number of a refusal.
abbrev pub number_of : Refusal → ℕ
number_of Lost = 1
number_of WrongId = 2
number_of Unsigned = 3
number_of Format = 4

-- A key by its name and its other fields.
abbrev pub key_from : List ℕ → Algorithm → ℕ → ℕ → ResolverKey
key_from name algorithm inception expiration =
    record { name = put name (replicate 255 0); length = length name; algorithm = algorithm; inception = inception; expiration = expiration }

-- The resolver with an offered key, which does not sign yet; and with the offered key in the old one's place.
abbrev pub offering : Resolver → ResolverKey → Resolver
offering s k = record { holding = AdoptedAndOffered; adopted = s.adopted; offered = k; awaited = s.awaited; offered_signs = false }

abbrev pub adopting : Resolver → Resolver
adopting s = record { holding = Adopted; adopted = s.offered; offered = s.offered; awaited = s.awaited; offered_signs = s.offered_signs }

-- What the steps know of the message q that the octets m are: its questions end at `end`, and whether it is a response.
pub record MessageRead (m : List ℕ) (q : Message) (end : ℕ) (response : Bool) : Type 0 where
  pub says : read_message m ≡ reads q (length m)
  pub after : 12 ≤ end
  pub within : end ≤ length m
  pub octets : q.question_octets ≡ part m 12 (end - 12)
  pub id : q.id ≡ u16_at m 0
  pub responds : q.response ≡ response

pub record AnswerMoves (s : Resolver) (asking : Asking) (m : List ℕ) (end : ℕ) (r : Resolver) : Type 0 where
  pub says : (q : Message) (response : Bool) → MessageRead m q end response → r ≡ moved_by asking s (only_answer q)

-- The same with the header's RCODE and a TSIG with this error looked at.
pub record Accepts (s : Resolver) (asking : Asking) (m : List ℕ) (end : ℕ) (response : Bool) (error : ℕ) (r : Resolver) : Type 0 where
  pub says : (q : Message) → MessageRead m q end response → (t : Tsig) → t.error ≡ error → r ≡ accepted s asking m q t

pub record Hears (s : Resolver) (asking : Asking) (m : List ℕ) (end : ℕ) (response : Bool) (error : ℕ) (r : Heard) : Type 0 where
  pub says : (q : Message) → MessageRead m q end response → (t : Tsig) → t.error ≡ error → r ≡ heard s asking m q t

pub record HearsSigned (s : Resolver) (asking : Asking) (good : Bool) (m : List ℕ) (end : ℕ) (response : Bool) (signer : Signer) (r : Heard) : Type 0 where
  pub says : (q : Message) → MessageRead m q end response → r ≡ signed_reply s asking m q good (signerShown m signer)

pub record HearsAwaited (s : Resolver) (good : Bool) (m : List ℕ) (end : ℕ) (response : Bool) (signer : Signer) (r : Heard) : Type 0 where
  pub says :
      (q : Message)
      → MessageRead m q end response
      → signature q.records ≡ signerShown m signer
      → r ≡ awaited_reply s s.awaited m good q

-- What the checks answer: how the reading call ends is a refusal, or what hearing the message that passed gives.
abbrev pub Passes : Resolver → List ℕ → (Heard → Type 0) → Result Passed Refusal → Type 0
Passes s m ends (Ok p) = (r : Heard) → Hears s p.asking m p.end p.response p.error r → ends r
Passes s m ends (Err e) = ends (unheard s (number_of e))

-- The same of the whole call; a message that passed has a header.
abbrev pub Checked : Resolver → Bool → List ℕ → Result Passed Refusal → Type 0
Checked s good m (Ok p) = (12 ≤ length m) × ((r : Heard) → Hears s p.asking m p.end p.response p.error r → r ≡ read_reply s good m)
Checked s good m (Err e) = unheard s (number_of e) ≡ read_reply s good m
