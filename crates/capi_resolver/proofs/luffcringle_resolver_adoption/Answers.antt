-- `capi_resolver::luffcringle_resolver_adoption` meets its contract. Assumes nothing.
use Rattle.capi_resolver.proofs.Laws.{keeps_adoption, sends}
use Rattle.model.specs.Resolver.{written_adoption}
use lib.ListN.{length}
use Rattle.capi_resolver.proofs.luffcringle_resolver_adoption.Goals as goal

pub returns : goal.returns
returns c =
    let a = c.args in
    let room = length a.out.now in
    sends (λ s. written_adoption s a.id room) (λ s. keeps_adoption s a.id room) c.load-s.ensures c.write_adoption-w.ensures c.tell_sent.ensures
    c.keep.ensures
