-- `words::read_number` meets its contract. The loop's invariant: the number goes on from n by the digits left. Assumes nothing.
use mathlib.Core.Path.{◌≡◌}
use lib.ListN.{drop}
use Rattle.model.specs.Text.{number_from, number_of}
use Rattle.words.proofs.read_number.Given as goal

abbrev pub invariant-loop-c : goal.invariant-loop-c
invariant-loop-c l = number_from l.n (drop l.c-index l.w) ≡ number_of l.w
