-- `inquiries::moves` meets its contract. Assumes nothing.
use mathlib.Core.Path.{refl}
use Rattle.model.specs.Inquiries.{moves_of}
use Rattle.inquiries.proofs.moves.Goals as goal

pub returns : goal.returns
unfolding moves_of
returns c =
    rw (
      c.unless_among-4.ensures,
      c.unless_among-3.ensures,
      c.if_same.ensures,
      c.max.ensures,
      c.unless_among-2.ensures,
      c.unless_among.ensures,
      c.waiting_serial-offered.ensures,
      c.adopted_serial-former.ensures,
      c.waiting_serial-waiting.ensures,
      c.adopted_serial-adopted.ensures,
    )
    refl
