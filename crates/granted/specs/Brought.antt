-- Where the key data of a granted renewal stands, against the crate model's granted_data, and what the steps to it say of whatever message the octets m are.
-- Assumes nothing.
use Rattle.std.specs.Prelude.{ℕ, ◌≡◌, Bool, true, false, cond, ◌&&◌, List, eqb, Option, None, Some}
use Rattle.model.specs.declared.Span.{Span}
use Rattle.model.specs.declared.Holding.{Holding}
use Rattle.model.specs.declared.Asking.{Asking}
use Rattle.model.specs.declared.Resolver.{Resolver}
use Rattle.model.specs.Names.{algorithm_named}
use Rattle.model.specs.Messages.{Record, Message, record_at, of_type}
use Rattle.model.specs.Tsig.{Tsig, signature}
use Rattle.model.specs.Tkey.{tkey_type, only}
use Rattle.model.specs.Resolver.{TkeyAnswer, answer_of, answers}
use Rattle.model.specs.Granted.{offered_data, accepted_data, signed_data, awaited_data}
use Rattle.messages.specs.declared.Kept.{Kept}
use Rattle.messages.specs.Scan.{key_by, key_at}
use Rattle.records.specs.Record.{Within, cut}
use Rattle.tsig.specs.declared.Signer.{Signer}
use Rattle.tsig.specs.Signature.{shown as signerShown}
use Rattle.resolver_replies.specs.Hearing.{MessageRead}
use Rattle.model.specs.declared.OpenRequest.{OpenRequest}

-- The octets that the answer names, and that they lie in the message m.
abbrev pub shown : List ℕ → Option Span → Option (List ℕ)
shown m None = None
shown m (Some p) = Some (cut m p)

abbrev pub DataFits : List ℕ → Option Span → Type 0
DataFits m None = Unit {0}
DataFits m (Some p) = Within m p

pub record DataRead (x : Option (List ℕ)) (m : List ℕ) (f : Option Span) : Type 0 where
  pub says : x ≡ shown m f
  pub fits : DataFits m f

-- ── Steps ───────────────────────────────────────────────────────────────────────────────────────────────────────────

-- A renewal is awaited, and there is a key to renew: only then is there key data.
abbrev pub asks_renewal : Asking → Bool
asks_renewal Asking.Ordinary = false
asks_renewal Asking.Renewal = true
asks_renewal Asking.Adoption = false
asks_renewal Asking.Deletion = false

abbrev pub renews : Holding → Asking → Bool
renews Holding.Nothing asking = false
renews Holding.Adopted asking = asks_renewal asking
renews Holding.AdoptedAndOffered asking = asks_renewal asking

-- What a TKEY brings then.
abbrev pub brought : Record → Option TkeyAnswer → Option (List ℕ)
brought r None = None
brought r (Some t) = cond (eqb t.mode 4098 && eqb t.error 0) (offered_data r (algorithm_named t.algorithm)) None

abbrev pub brought_by : Option Record → Option (List ℕ)
brought_by None = None
brought_by (Some r) = brought r (answer_of r)

-- Of whatever record has the part `content` of the message for its data; of the record at a place; of what a pass kept.
pub record ContentRead (m : List ℕ) (content : Span) (f : Option Span) : Type 0 where
  pub says : (r : Record) → r.content ≡ cut m content → brought r (answer_of r) ≡ shown m f
  pub fits : DataFits m f

pub record PlaceRead (m : List ℕ) (place : ℕ) (f : Option Span) : Type 0 where
  pub says : (section : ℕ) → brought_by (key_by (record_at m section place)) ≡ shown m f
  pub fits : DataFits m f

pub record KeptRead (m : List ℕ) (kept : Kept) (f : Option Span) : Type 0 where
  pub says : brought_by (key_at m kept) ≡ shown m f
  pub fits : DataFits m f

-- Of the message q; of a TSIG with this error.
pub record AnswerRead (m : List ℕ) (end : ℕ) (f : Option Span) : Type 0 where
  pub says : (q : Message) (response : Bool) → MessageRead m q end response → brought_by (only (of_type tkey_type (answers q.records))) ≡ shown m f
  pub fits : DataFits m f

pub record AcceptedRead (b : Bool) (m : List ℕ) (end : ℕ) (response : Bool) (error : ℕ) (f : Option Span) : Type 0 where
  pub says :
      (q : Message) → MessageRead m q end response → (t : Tsig) → t.error ≡ error
      → (s : Resolver) (asking : Asking) → renews s.holding asking ≡ b → accepted_data s asking m q t ≡ shown m f
  pub fits : DataFits m f

pub record SignedRead (b good : Bool) (m : List ℕ) (end : ℕ) (response : Bool) (signer : Signer) (f : Option Span) : Type 0 where
  pub says :
      (q : Message) → MessageRead m q end response
      → (s : Resolver) (asking : Asking) → renews s.holding asking ≡ b → signed_data s asking m q good (signerShown m signer) ≡ shown m f
  pub fits : DataFits m f

pub record AwaitedRead (holding : Holding) (awaited : Option OpenRequest) (good : Bool) (m : List ℕ) (end : ℕ) (response : Bool) (signer : Signer) (f : Option Span)
    : Type 0 where
  pub says :
      (q : Message) → MessageRead m q end response → signature q.records ≡ signerShown m signer
      → (s : Resolver) → s.holding ≡ holding → awaited_data s awaited m good q ≡ shown m f
  pub fits : DataFits m f
