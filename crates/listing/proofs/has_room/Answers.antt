-- `listing::has_room` meets its contract. Assumes nothing.
use Prim.Native.Nat.{ℕ}
use mathlib.Core.Path.{sym, ap, ◌∙◌}
use native.Mathlib.Omega.{arith}
use lib.Dec.{leb}
use lib.ListN.{length}
use borrow.Author.Tests.{le-leb}
use Rattle.model.specs.Listing.{listing}
use Rattle.store.specs.Layout.{table_of}
use Rattle.listing.proofs.Laws.{long, few, count}
use Rattle.listing.proofs.Sizes.{listing_short}
use Rattle.listing.proofs.has_room.Goals as goal

pub bounds-words-1 : goal.bounds-words-1
bounds-words-1 c =
    let w = c.args.words.now in
    let s = c.args.suffixes.now in
    omega (arith, long w s c.requires)

pub overflow_mul-n : goal.overflow_mul-n
overflow_mul-n c =
    let w = c.args.words.now in
    let s = c.args.suffixes.now in
    record { fits = omega (arith, few w s c.requires) }

pub overflow_add-n : goal.overflow_add-n
overflow_add-n c =
    let w = c.args.words.now in
    let s = c.args.suffixes.now in
    record { fits = omega (arith, few w s c.requires) }

pub returns-then-n-room : goal.returns-then-n-room
returns-then-n-room c =
    let w = c.args.words.now in
    let s = c.args.suffixes.now in
    le-leb _ _ c.if-n-room.true ∙ sym (le-leb (length (listing (table_of w s))) c.args.room (omega (arith, listing_short (table_of w s) c.requires, count w s c.requires)))

pub returns-else-n-room : goal.returns-else-n-room
returns-else-n-room c = ap (λ (n : ℕ). leb n c.args.room) c.size.ensures
