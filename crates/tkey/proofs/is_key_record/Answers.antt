-- `tkey::is_key_record` meets its contract. Assumes nothing.
use native.Mathlib.Omega.{arith}
use Rattle.tkey.proofs.KeyLaws.{key_unnamed, key_within, key_cut, key_other, key_filled}
use Rattle.tkey.proofs.is_key_record.Goals as goal

pub overflow_sub-key : goal.overflow_sub-key
overflow_sub-key c = key_within _ _ _ c.skip_plain.ensures.read _ _ c.in-Ok.is

pub returns-then-key-next-lt10 : goal.returns-then-key-next-lt10
returns-then-key-next-lt10 c = key_cut _ _ _ c.skip_plain.ensures.read _ _ c.in-Ok.is (omega arith)

pub returns-then-u16_at-ne25 : goal.returns-then-u16_at-ne25
returns-then-u16_at-ne25 c = key_other _ _ _ c.skip_plain.ensures.read _ _ c.in-Ok.is _ c.u16_at.ensures c.if-u16_at-ne25.true

pub returns-in_default : goal.returns-in_default
returns-in_default c = key_unnamed _ _ _ c.skip_plain.ensures.read _ c.in_default.is

pub returns : goal.returns
returns c = key_filled _ _ _ c.skip_plain.ensures.read _ _ c.in-Ok.is _ c.u16_at.ensures c.if-u16_at-ne25.false (omega arith) _ c.u16_at-2.ensures
