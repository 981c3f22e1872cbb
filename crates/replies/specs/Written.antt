-- The whole reply, by the decision and by what was read of the message, and what its writer answers. Assumes nothing.
use Rattle.std.specs.Prelude.{ℕ, ◌+◌, ◌%◌, ◌^◌, ◌≤◌, ◌<◌, ◌≡◌, Bool, true, false, List, [], length, take, Option, Some, None}
use Rattle.model.specs.declared.Span.{Span}
use Rattle.model.specs.declared.Pair.{Pair}
use Rattle.model.specs.declared.Decision.{Decision}
use Rattle.model.specs.declared.Decision.TheVariants.{Unsigned, Refused, Passed, Failed, Renews, Adopts, Readopts, Deletes, Withdraws}
use Rattle.model.specs.Names.{key_name}
use Rattle.model.specs.Judging.{Holder, held_suffix, held_pair, Given}
use Rattle.model.specs.declared.Scheme.{Scheme}
use Rattle.model.specs.Replies.{answers_of, reply_of}
use Rattle.matching.specs.Compare.{name_standing}
use Rattle.records.specs.Record.{cut}
use Rattle.tkey.specs.declared.TkeyFields.{TkeyFields}
use Rattle.tkey.specs.declared.KeyFields.{KeyFields}
use Rattle.contents.specs.declared.Contents.{Contents}
use Rattle.contents.specs.Contents.{ContentsRead}
use Rattle.replies.specs.declared.Fields.{Fields as AnswerFields}
use Rattle.replies.specs.declared.Grant.{Grant}
use Rattle.replies.specs.Parts.{repeated_octets, granted_octets, Replied}
use Rattle.tkey.specs.declared.OnlyTkey.{OnlyTkey}
use Rattle.tkey.specs.declared.OnlyKey.{OnlyKey}

-- The TKEY that answers the request's: with this error number and this other data; or with the new key's times.
abbrev pub answer_of : TkeyFields → ℕ → Span → AnswerFields
answer_of t error other =
    record { algorithm = t.algorithm; inception = t.inception; expiration = t.expiration; mode = t.mode; error = error; key = t.key; other = other }

abbrev pub other_of : TkeyFields → Bool → Span
other_of t true = record { from = 0; size = 0 }
other_of t false = t.other

abbrev pub grant_of : TkeyFields → ℕ → ℕ → AnswerFields
grant_of t time expiry =
    record { algorithm = t.algorithm; inception = time % 4294967296; expiration = expiry % 4294967296; mode = t.mode; error = 0; key = t.key; other = t.other }

-- The reply of a TKEY outcome that grants no key, and of a granted renewal, by the only TKEY and the only KEY.
abbrev pub outcome_of : List ℕ → ℕ → Option OnlyTkey → ℕ → Bool → List ℕ
outcome_of m end None error again = []
outcome_of m end (Some t) error again = repeated_octets m end 1 0 (answer_of t.fields error (other_of t.fields again)) (name_standing m t.place) (cut m t.fields.key)

abbrev pub grant_by : Scheme → ℕ → TkeyFields → KeyFields → Pair → ℕ → Grant
grant_by scheme end t e p time = record { end = end; answers = answers_of scheme; fields = grant_of t time (time + p.lifetime); echo = e }

abbrev pub renewal_for : Scheme → List ℕ → ℕ → Option OnlyTkey → Option OnlyKey → List ℕ → List ℕ → Pair → List ℕ → ℕ → List ℕ
renewal_for scheme m end None key offer second p suffix time = []
renewal_for scheme m end (Some t) None offer second p suffix time = []
renewal_for scheme m end (Some t) (Some k) offer second p suffix time =
    granted_octets scheme m (grant_by scheme end t.fields k.fields p time) (key_name p.next_serial suffix) offer second (name_standing m k.place)

abbrev pub renewal_octets : Scheme → List ℕ → Contents → List ℕ → List ℕ → Pair → List ℕ → ℕ → List ℕ
renewal_octets scheme m c offer second p suffix time = renewal_for scheme m c.end c.tkey c.key offer second p suffix time

-- The name at a place of the message m is written out: it is the first n octets of `out`.
pub record NameOut (m : List ℕ) (place : ℕ) (out : List ℕ) (n : ℕ) : Type 0 where
  pub says : take n out ≡ name_standing m place
  pub short : n ≤ 255
  pub room : length out ≡ 255

-- A granted renewal has a serial left, and a time that fits.
abbrev pub DecisionFits : Decision → Pair → ℕ → Type 0
DecisionFits Unsigned p time = Unit {0}
DecisionFits (Refused rcode error) p time = rcode < 256
DecisionFits (Passed skew) p time = Unit {0}
DecisionFits (Failed error) p time = error < 65536
DecisionFits (Renews scheme g) p time = (p.next_serial < 2 ^ 32) × (time + p.lifetime < 2 ^ 64)
DecisionFits Adopts p time = Unit {0}
DecisionFits Readopts p time = Unit {0}
DecisionFits Deletes p time = Unit {0}
DecisionFits Withdraws p time = Unit {0}

-- It has no reply.
abbrev pub is_quiet : Decision → Bool
is_quiet Unsigned = true
is_quiet (Refused rcode error) = false
is_quiet (Passed skew) = true
is_quiet (Failed error) = false
is_quiet (Renews scheme g) = false
is_quiet Adopts = false
is_quiet Readopts = false
is_quiet Deletes = false
is_quiet Withdraws = false

-- The answer and the buffer are those of model's reply to the message that was read, whatever holder and call these are the readings of.
pub record Replies
    (m : List ℕ) (c : Contents) (offer second : List ℕ) (p : Pair) (suffix : List ℕ) (time : ℕ) (d : Decision) (entry exit : List ℕ) (w : Option ℕ) : Type 0 where
  pub answers :
      (x : ContentsRead m c) (h : Holder) (g : Given)
      → held_suffix h ≡ suffix
      → held_pair h ≡ p
      → g.now ≡ time
      → g.offer ≡ offer
      → g.second ≡ second
      → Replied (reply_of h g x.message d) entry exit w
