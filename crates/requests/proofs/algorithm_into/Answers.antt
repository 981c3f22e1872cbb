-- `requests::algorithm_into` meets its contract. By the cases of the algorithm. Assumes nothing.
use mathlib.Core.Path.{sym, ap}
use Rattle.model.specs.Names.{algorithm_name}
use Rattle.octets.proofs.Laws.{wrote_as}
use borrow.Author.Rules.{rules}
use Rattle.requests.proofs.algorithm_into.Goals as goal

pub returns-in-Sha256 : goal.returns-in-Sha256
unfolding algorithm_name
returns-in-Sha256 c = (search rules, wrote_as (ap algorithm_name (sym c.in-Sha256.is)) c.all_into.ensures.1)

pub returns-in-Sha384 : goal.returns-in-Sha384
unfolding algorithm_name
returns-in-Sha384 c = (search rules, wrote_as (ap algorithm_name (sym c.in-Sha384.is)) c.all_into-in-Sha384.ensures.1)

pub returns-in-Sha512 : goal.returns-in-Sha512
unfolding algorithm_name
returns-in-Sha512 c = (search rules, wrote_as (ap algorithm_name (sym c.in-Sha512.is)) c.all_into-in-Sha512.ensures.1)
