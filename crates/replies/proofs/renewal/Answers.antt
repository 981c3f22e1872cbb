-- `replies::renewal` meets its contract. Assumes nothing.
use native.Mathlib.Omega.{arith}
use mathlib.Core.Path.{sym}
use Rattle.replies.proofs.Answers.{read_so, echo_in, renewal_in, renewal_answers, no_renewal, no_echo, name_lent, out_lent, lent_short}
use borrow.Author.Rules.{rules}
use Rattle.replies.proofs.renewal.Goals as goal

pub slice_bounds-echoed-end : goal.slice_bounds-echoed-end
slice_bounds-echoed-end c = sym c.name_at-n.ensures.room

pub slice_bounds-grant_reply-end-in-Some-one : goal.slice_bounds-grant_reply-end-in-Some-one
slice_bounds-grant_reply-end-in-Some-one c = let o = c.name_at-n.ensures in search rules

pub grant_reply-requires : goal.grant_reply-requires
grant_reply-requires c =
    let a = c.args in
    let x = c.requires.0 in (
      read_so x,
      renewal_in x _ _ c.in-Some.is _ _ c.in-Some-one.is a.at.pair a.at.time _ c.granting-t.ensures,
      echo_in x _ _ c.in-Some.is _ _ c.in-Some-one.is,
      c.answer_count.ensures.1,
      lent_short c.key_name-k.result _ (omega (arith, c.key_name-k.ensures.0, c.requires)),
      omega (arith, c.requires.4),
      lent_short _ _ c.name_at-n.ensures.short,
    )

pub returns-in-None : goal.returns-in-None
returns-in-None c =
    let a = c.args in
    no_renewal a.m.now a.c a.buf.now a.scheme a.offer.now a.second.now a.at.pair a.suffix.now a.at.time c.in-None.is

pub returns-in-None-one : goal.returns-in-None-one
returns-in-None-one c =
    let a = c.args in
    no_echo a.m.now a.c a.buf.now a.scheme a.offer.now a.second.now a.at.pair a.suffix.now a.at.time _ _ c.in-Some.is c.in-None-one.is

pub returns-in-Some-one : goal.returns-in-Some-one
returns-in-Some-one c =
    let a = c.args in
    renewal_answers c.requires.0 _ _ c.in-Some.is _ _ c.in-Some-one.is a.at.pair a.at.time _ c.granting-t.ensures a.scheme _ _ _ _ _ a.suffix.now c.answer_count.ensures.0 (name_lent c.key_name-k.ensures.1) (out_lent c.name_at-n.ensures) c.grant_reply.ensures
