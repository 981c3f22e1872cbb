-- `capi_resolver::luffcringle_resolver_deletion` meets its contract. Assumes nothing.
use Rattle.capi_resolver.proofs.Laws.{keeps_deletion, sends}
use Rattle.model.specs.Resolver.{written_deletion}
use lib.ListN.{length}
use Rattle.capi_resolver.proofs.luffcringle_resolver_deletion.Goals as goal

pub returns : goal.returns
returns c =
    let a = c.args in
    let room = length a.out.now in
    sends (λ s. written_deletion s a.id room) (λ s. keeps_deletion s a.id room) c.load-s.ensures c.write_deletion-w.ensures c.tell_sent.ensures
    c.keep.ensures
