-- `answers::fields_of` meets its contract. Assumes nothing.
use mathlib.Core.Path.{refl}
use Rattle.answers.proofs.fields_of.Goals as goal

pub returns : goal.returns
returns c =
    record {
      says = rw
          (c.u32_at.ensures.0, c.u32_at-2.ensures.0, c.u16_at.ensures.0, c.u16_at-2.ensures.0)
          refl;
      mode = c.u16_at.ensures.1;
      error = c.u16_at-2.ensures.1;
    }
