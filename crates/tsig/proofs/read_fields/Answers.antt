-- `tsig::read_fields` meets its contract. Assumes nothing.
use mathlib.Core.Path.{refl}
use Rattle.tsig.proofs.read_fields.Goals as goal

pub returns : goal.returns
returns c =
    record {
      says = rw
          (c.u48_at.ensures.0, c.u16_at.ensures.0, c.u16_at-2.ensures.0, c.u16_at-3.ensures.0)
          refl;
      signed = c.u48_at.ensures.1;
      fudge = c.u16_at.ensures.1;
      id = c.u16_at-2.ensures.1;
      error = c.u16_at-3.ensures.1;
    }
