-- The measure of `names::decimal_into` is n: the last digit comes after those of n / 10.
use Rattle.names.proofs.+decimal_into.Given as goal

abbrev pub decreases-decimal_into : goal.decreases-decimal_into
decreases-decimal_into l = l.n
