-- `lines::suffix_into` meets its contract. Assumes nothing.
use mathlib.Core.Path.{refl, sym, ◌∙◌}
use native.Mathlib.Omega.{arith}
use Rattle.lines.proofs.Laws.{short_suffix, long_suffix, plain_suffix, upper_suffix}
use Rattle.lines.proofs.suffix_into.Goals.{then-is_empty-via-then-is_empty, then-is_empty-via-else-is_empty+then-w-gt256, then-is_empty-via-else-is_empty+else-w-gt256+then-not-no_upper}
use Rattle.lines.proofs.suffix_into.Goals as goal

pub returns-then-is_empty : goal.returns-then-is_empty
returns-then-is_empty c = record {
  are =
      elim c.then-is_empty.branch [
        | then-is_empty-via-then-is_empty w ↦ short_suffix c.args.w.now (grind arith)
        | then-is_empty-via-else-is_empty+then-w-gt256 w ↦ long_suffix c.args.w.now w.if-w-gt256.true
        | then-is_empty-via-else-is_empty+else-w-gt256+then-not-no_upper w ↦ upper_suffix c.args.w.now (sym w.no_upper.ensures ∙ w.if-not-no_upper.true)
      ];
  fits = tt;
  long = refl;
}

pub returns : goal.returns
returns c =
    let u = c.unhex_into.ensures in
    record { are = plain_suffix _ (grind arith) (omega arith) (sym c.no_upper.ensures ∙ c.if-not-no_upper.false) ∙ u.are; fits = u.fits; long = u.long }
