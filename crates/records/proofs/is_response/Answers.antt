-- `records::is_response` meets its contract. Assumes nothing.
use Rattle.model.specs.Messages.{response_of}
use borrow.Author.Rules.{rules}
use Rattle.records.proofs.is_response.Goals as goal

pub returns : goal.returns
unfolding response_of
returns c = search rules
