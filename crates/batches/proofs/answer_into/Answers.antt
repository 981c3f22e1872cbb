-- `batches::answer_into` meets its contract. Assumes nothing.
use mathlib.Core.Path.{◌∙◌, ap}
use mir.Syntax.{w64}
use mir.ValLaws.{to_z-of_z}
use Rattle.octets.proofs.Laws.{then}
use Rattle.results.specs.Words.{twos_complement, answer_words}
use borrow.Author.Rules.{rules}
use Rattle.batches.proofs.answer_into.Goals as goal

pub returns : goal.returns
unfolding answer_words
returns c =
    let a = c.args.a in
    let back = to_z-of_z w64 a.skew (record { sfits = c.struct_told-1.given.1.1.1.0.1 }) in
    let skew = c.skew_word-skew.ensures ∙ ap twos_complement back in
    let first = rw skew at c.five_into-i.ensures.1 in
    let all = then first (then c.word_into-j.ensures.1 c.word_into.ensures.1) in
    search rules
