-- The TSIG that a writer of this crate is asked for, as the crate model's Signing has it. Assumes nothing.
use Rattle.std.specs.Prelude.{ℕ, List}
use Rattle.model.specs.Signing.{Stamp}
use Rattle.digests.specs.declared.TsigNumbers.{TsigNumbers}

abbrev pub stamp_of : TsigNumbers → List ℕ → List ℕ → List ℕ → Stamp
stamp_of t algorithm mac other =
    record {
      algorithm = algorithm;
      signed = t.signed;
      fudge = t.fudge;
      mac = mac;
      original_id = t.original_id;
      error = t.error;
      other = other;
    }
