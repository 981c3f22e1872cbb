-- `capi::tell` meets its contract. Assumes nothing.
use mathlib.Core.Path.{refl, ◌∙◌, ap}
use mir.Syntax.{w64}
use mir.ValLaws.{to_z-of_z}
use Rattle.results.specs.Words.{twos_complement, answer_words}
use Rattle.capi.proofs.tell.Goals as goal

pub returns : goal.returns
unfolding answer_words
returns c =
    let a = c.args.a in
    let back = to_z-of_z w64 a.skew (record { sfits = c.struct_told-1.given.1.1.1.0.1 }) in
    let skew = c.skew_word-skew.ensures ∙ ap twos_complement back in
    record { written = rw skew refl; returned = refl }
