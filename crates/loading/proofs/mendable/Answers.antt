use Rattle.model.specs.Loading.{mend}
use mathlib.Core.List.{[], ◌∷◌}
use Rattle.loading.proofs.Ends.{counted}
use Rattle.loading.proofs.mendable.Goals as goal

pub returns : goal.returns
returns c =
    let k = c.read_into in
    counted (mend c.args.text.now) k.new.words k.new.suffixes (0 ∷ []) k.new.named k.result k.ensures
