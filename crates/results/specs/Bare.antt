-- The numbers of a call that has no reply. Assumes nothing.
use Rattle.std.specs.Prelude.{ℕ, pos}
use Rattle.model.specs.declared.Answer.{Answer}

abbrev pub bare_as : ℕ → ℕ → ℕ → ℕ → Answer
bare_as number pair serial place = record { number = number; length = 0; error = 0; skew = pos 0; pair = pair; serial = serial; place = place }
