-- `replies::tkey_record` meets its contract. Assumes nothing.
use Rattle.octets.proofs.Laws.{then, wrote_as}
use native.Mathlib.Omega.{arith}
use Rattle.replies.proofs.Laws.{record_octets_lem}
use Rattle.model.specs.Replies.{tkey_record}
use Rattle.model.specs.Tkey.{tkey_type}
use Rattle.model.specs.Tsig.{any_class}
use Rattle.replies.specs.Parts.{data_of}
use borrow.Author.Rules.{rules}
use Rattle.replies.proofs.tkey_record.Goals as goal

pub returns : goal.returns
unfolding tkey_record tkey_type any_class
returns c =
    let a = c.args in
    let w = c.tkey_data.ensures.1 in
    (search rules, wrote_as (record_octets_lem a.owner.now 249 255 0 c.tkey_size-n.result (data_of a.m.now a.t a.key.now) (omega arith)) (then c.record_front-a.ensures.1 w))
