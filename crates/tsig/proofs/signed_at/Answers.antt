-- `tsig::signed_at` meets its contract. Assumes nothing.
use mathlib.Core.Path.{refl}
use native.Mathlib.Omega.{arith}
use Rattle.std.specs.Prelude.{Ok}
use Rattle.tsig.proofs.SignerLaws.{s_within, s_class, s_ttl, s_ill, s_fits, s_key}
use Rattle.tsig.proofs.signed_at.Goals as goal

pub returns-then-last-ne255 : goal.returns-then-last-ne255
returns-then-last-ne255 c =
    let l = c.args.last in
    s_class _ _ _ (Ok l) c.requires.read l.len l.kind l.class l.ttl l.content refl c.if-last-ne255.true

pub returns-then-last-ne0 : goal.returns-then-last-ne0
returns-then-last-ne0 c =
    let l = c.args.last in
    s_ttl _ _ _ (Ok l) c.requires.read l.len l.kind l.class l.ttl l.content refl c.if-last-ne255.false c.if-last-ne0.true

pub read_fields-fields-requires : goal.read_fields-fields-requires
read_fields-fields-requires c =
    let l = c.args.last in
    let w = s_within _ _ _ (Ok l) c.requires.read l.len l.kind l.class l.ttl l.content refl in
    ((s_fits _ _ _ (Ok l) c.requires.read l.len l.kind l.class l.ttl l.content refl c.if-last-ne255.false c.if-last-ne0.false _ c.part_of-d.ensures.0 _ c.layout_of.ensures _ _ _ c.in-Some.is).3, omega arith)

pub returns-in-None : goal.returns-in-None
returns-in-None c =
    let l = c.args.last in
    s_ill _ _ _ (Ok l) c.requires.read l.len l.kind l.class l.ttl l.content refl c.if-last-ne255.false c.if-last-ne0.false _ c.part_of-d.ensures.0 _ c.layout_of.ensures c.in-None.is

pub returns-in-Some : goal.returns-in-Some
returns-in-Some c =
    let l = c.args.last in
    s_key _ _ _ (Ok l) c.requires.read l.len l.kind l.class l.ttl l.content refl c.if-last-ne255.false c.if-last-ne0.false _ c.part_of-d.ensures.0 _ c.layout_of.ensures _ _ _ c.in-Some.is _ c.read_fields-fields.ensures
