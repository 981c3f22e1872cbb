-- `listing::key_lines` meets its contract. Assumes nothing.
use mathlib.Core.Path.{sym, ap}
use Rattle.model.specs.Listing.{adopted_word, waiting_word, key_lines}
use Rattle.octets.proofs.Laws.{then, wrote_as}
use Rattle.octets.proofs.Back.{wrote_none}
use borrow.Author.Rules.{rules}
use Rattle.listing.proofs.key_lines.Goals as goal

pub returns-in-Empty : goal.returns-in-Empty
unfolding key_lines
returns-in-Empty c = (search rules, wrote_as (ap key_lines (sym c.in-Empty.is)) (wrote_none _ _ (search rules)))

pub returns-in-Adopted : goal.returns-in-Adopted
unfolding key_lines adopted_word
returns-in-Adopted c = (search rules, wrote_as (ap key_lines (sym c.in-Adopted.is)) c.key_line.ensures.1)

pub returns-in-Renewing : goal.returns-in-Renewing
unfolding key_lines adopted_word waiting_word
returns-in-Renewing c = (search rules, wrote_as (ap key_lines (sym c.in-Renewing.is)) (then c.key_line-next.ensures.1 c.key_line-in-Renewing.ensures.1))
