-- `replies::grant_reply` meets its contract. Assumes nothing.
use native.Mathlib.Omega.{arith}
use mathlib.Core.Path.{refl, ap}
use lib.ListN.{length}
use Rattle.replies.specs.Parts.{granted_octets}
use Rattle.replies.proofs.Laws.{key_short, replied_as}
use Rattle.replies.proofs.grant_reply.Goals as goal

pub renewed-requires : goal.renewed-requires
renewed-requires c =
    let a = c.args in
    let k = ap length c.key_data-key.ensures in
    let short = key_short c.takes_offer.result a.m.now a.g.fields.key a.offer.now (omega (arith, c.requires.0.size)) c.requires.1.key c.requires.5 in
    (c.requires.0, c.requires.1, c.requires.2, c.requires.3, c.requires.4, omega (arith, k, short), c.requires.6)

pub returns : goal.returns
unfolding granted_octets
returns c =
    replied_as (rw (c.key_data-key.ensures, c.behind_tkey-behind.ensures, c.takes_offer.ensures) refl) c.renewed.ensures
