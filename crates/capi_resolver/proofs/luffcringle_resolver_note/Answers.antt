-- `capi_resolver::luffcringle_resolver_note` meets its contract. Assumes nothing.
use Rattle.model.specs.Resolver.{noted}
use Rattle.model.specs.declared.Resolver.{Resolver}
use mathlib.Core.Path.{ap, ◌∙◌}
use Rattle.capi_resolver.proofs.luffcringle_resolver_note.Goals as goal

pub returns : goal.returns
returns c = c.store.ensures.shows ∙ c.note-after.ensures ∙ ap (λ (s : Resolver). noted s c.args.id) c.load-s.ensures
