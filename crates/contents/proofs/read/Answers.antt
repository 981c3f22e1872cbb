-- `contents::read` meets its contract. Assumes nothing.
use Rattle.messages.proofs.Outlines.{scan_bad, scan_whole}
use Rattle.messages.proofs.Sizes.{size_short, size_long, size_fits}
use Rattle.contents.proofs.read.Goals as goal

pub returns-then-m-lt12 : goal.returns-then-m-lt12
returns-then-m-lt12 c = size_short _ c.if-m-lt12.true

pub returns-then-m-gt65535 : goal.returns-then-m-gt65535
returns-then-m-gt65535 c = size_long _ c.if-m-gt65535.true

pub contents_of-c-requires : goal.contents_of-c-requires
contents_of-c-requires c = (scan_whole _ c.scan.ensures c.in-Ok.is, size_fits _ c.if-m-lt12.false c.if-m-gt65535.false)

pub returns-in-Err : goal.returns-in-Err
returns-in-Err c = (size_fits _ c.if-m-lt12.false c.if-m-gt65535.false, scan_bad _ c.scan.ensures c.in-Err.is)
