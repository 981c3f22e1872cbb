-- `rules::pair_rule` meets its contract. Assumes nothing.
use Rattle.rules.proofs.Laws.{whole_pair}
use Rattle.rules.proofs.pair_rule.Goals as goal

pub returns : goal.returns
returns c =
    whole_pair c.args.clock c.args.p c.term_ok.ensures c.keys_rule.ensures
