-- What the calls of this crate return, against the crate model's Signing. Assumes nothing.
use Rattle.std.specs.Prelude.{ℕ, ◌≡◌, List, None, Some, Result, Ok, Err}
use Rattle.model.specs.Tsig.{Tsig}
use Rattle.model.specs.Signing.{ReadBack, read_back}
use Rattle.matching.specs.Compare.{name_standing, Readable}
use Rattle.messages.specs.Scan.{LastAt}
use Rattle.tsig.specs.Signature.{tsig_from, Fits}
use Rattle.digests.specs.declared.Refusal.{Refusal}
use Rattle.digests.specs.Left.{number_of}
use Rattle.unsigning.specs.declared.TsigRead.{TsigRead}

-- The TSIG that was read in the message m.
abbrev pub tsig_at : List ℕ → TsigRead → Tsig
tsig_at m t = tsig_from m (name_standing m t.place) t.fields

abbrev pub back_shown : List ℕ → Result TsigRead Refusal → ReadBack
back_shown m (Ok t) = record { number = 0; tsig = Some (tsig_at m t) }
back_shown m (Err r) = record { number = number_of r; tsig = None }

-- The owner name can be read, the parts lie in the message, and the TSIG is its last record.
pub record TsigStands (m : List ℕ) (t : TsigRead) : Type 0 where
  pub readable : Readable m t.place
  pub fits : Fits m t.fields
  pub last : LastAt m t.place

abbrev pub Stands : List ℕ → Result TsigRead Refusal → Type 0
Stands m (Ok t) = TsigStands m t
Stands m (Err r) = Unit {0}

-- The answer is the TSIG of the message m, and its parts lie in the message, at its end.
pub record BackRead (m : List ℕ) (r : Result TsigRead Refusal) : Type 0 where
  pub says : read_back m ≡ back_shown m r
  pub stands : Stands m r
