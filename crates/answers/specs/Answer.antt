-- What the reader of a reply's TKEY says, against the crate model's answerOf. Assumes nothing.
use Rattle.std.specs.Prelude.{ℕ, ◌+◌, ◌≤◌, ◌<◌, ◌≡◌, List, take, Option, None, Some}
use Rattle.model.specs.Octets.{u16_at, u32_at}
use Rattle.model.specs.Messages.{record_at}
use Rattle.model.specs.Resolver.{TkeyAnswer, answer_in}
use Rattle.messages.specs.declared.Kept.{Kept}
use Rattle.records.specs.Record.{Within, cut}
use Rattle.messages.specs.Scan.{key_by, key_at}
use Rattle.answers.specs.declared.AnswerFields.{AnswerFields}
use Rattle.answers.specs.declared.AnswerFound.{AnswerFound}

-- The fields of the data d, which stands in the message from `start` on.
abbrev pub fields_at : List ℕ → ℕ → ℕ → AnswerFields
fields_at d start next =
    record {
      algorithm = record { from = start; size = next };
      inception = u32_at d next;
      expiration = u32_at d (next + 4);
      mode = u16_at d (next + 8);
      error = u16_at d (next + 10);
    }

-- The answer is these fields, and its numbers lie in theirs.
pub record FieldsRead (d : List ℕ) (start next : ℕ) (t : AnswerFields) : Type 0 where
  pub says : t ≡ fields_at d start next
  pub mode : t.mode < 65536
  pub error : t.error < 65536

-- The TKEY with these fields that the message m holds, of a record with this owner name.
abbrev pub answer_from : List ℕ → List ℕ → AnswerFields → TkeyAnswer
answer_from m owner t =
    record {
      name = owner;
      algorithm = cut m t.algorithm;
      inception = t.inception;
      expiration = t.expiration;
      mode = t.mode;
      error = t.error;
    }

-- The algorithm's name lies in the message, and the numbers in their fields.
pub record Fits (m : List ℕ) (t : AnswerFields) : Type 0 where
  pub algorithm : Within m t.algorithm
  pub short : t.algorithm.size ≤ 255
  pub mode : t.mode < 65536
  pub error : t.error < 65536

-- The TKEY that the answer says the message m has, where `owner` holds its owner name.
abbrev pub shown : List ℕ → List ℕ → Option AnswerFound → Option TkeyAnswer
shown m owner None = None
shown m owner (Some f) = Some (answer_from m (take f.name owner) f.fields)

abbrev pub FoundFits : List ℕ → Option AnswerFound → Type 0
FoundFits m None = Unit {0}
FoundFits m (Some f) = (f.name ≤ 255) × Fits m f.fields

-- The answer is what the record at a place says as a TKEY, in whatever section it stands.
pub record RecordRead (m : List ℕ) (place : ℕ) (owner : List ℕ) (f : Option AnswerFound) : Type 0 where
  pub says : (section : ℕ) → answer_in (key_by (record_at m section place)) ≡ shown m owner f
  pub fits : FoundFits m f

-- The answer is the TKEY that was kept.
pub record AnswerRead (m : List ℕ) (kept : Kept) (owner : List ℕ) (f : Option AnswerFound) : Type 0 where
  pub says : answer_in (key_at m kept) ≡ shown m owner f
  pub fits : FoundFits m f
