-- `replies::outcome` meets its contract. Assumes nothing.
use mathlib.Core.Path.{sym}
use native.Mathlib.Omega.{arith}
use Rattle.replies.proofs.Answers.{read_so, outcome_in, outcome_key, outcome_answers, no_outcome, out_lent, lent_short}
use borrow.Author.Rules.{rules}
use Rattle.replies.proofs.outcome.Goals as goal

pub slice_bounds-all-end : goal.slice_bounds-all-end
slice_bounds-all-end c = sym c.name_at-n.ensures.room

pub slice_bounds-owner-end : goal.slice_bounds-owner-end
slice_bounds-owner-end c = let o = c.name_at-n.ensures in search rules

pub part_of-key-requires : goal.part_of-key-requires
part_of-key-requires c =
    outcome_key c.requires.0 _ _ c.in-Some.is

pub repeated-requires : goal.repeated-requires
repeated-requires c =
    let r = read_so c.requires.0 in
    let key = outcome_key c.requires.0 _ _ c.in-Some.is in
    let fields = outcome_in c.requires.0 _ _ c.in-Some.is c.args.error c.args.again _ c.other_data-other.ensures _ c.answering-t.ensures c.requires.1 in
    (r, fields, lent_short _ _ c.name_at-n.ensures.short, omega (arith, c.part_of-key.ensures.1, key, r.size))

pub returns-in-None : goal.returns-in-None
returns-in-None c =
    let a = c.args in
    no_outcome a.m.now a.c a.buf.now a.error a.again c.in-None.is

pub returns-in-Some : goal.returns-in-Some
returns-in-Some c =
    outcome_answers c.requires.0 _ _ c.in-Some.is c.args.error c.args.again _ c.other_data-other.ensures _ c.answering-t.ensures c.requires.1 _ _ (out_lent c.name_at-n.ensures) c.part_of-key.ensures.0 c.repeated.ensures
