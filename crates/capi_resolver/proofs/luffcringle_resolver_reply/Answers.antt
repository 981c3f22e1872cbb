-- `capi_resolver::luffcringle_resolver_reply` meets its contract. Assumes nothing.
use Rattle.capi_resolver.proofs.Laws.{hears}
use Rattle.capi_resolver.proofs.luffcringle_resolver_reply.Goals as goal

pub returns : goal.returns
returns c =
    let a = c.args in
    hears a.message.now a.good c.load-s.ensures c.key_data-found.ensures c.read_reply-h.ensures c.tell_heard.ensures c.keep.ensures
