-- The listing is staged in a text with room for any, so its length is known before the slice is touched: where that is shorter nothing is written, and else
-- the bytes staged are put at its front.
use native.Mathlib.Omega.{arith}
use Rattle.daybook.proofs.Calls.{staged, call_fits}
use Rattle.daybook.proofs.Told.{listing-long}
use borrow.Author.Rules.{rules}
use Rattle.daybook.proofs.replay.Goals as goal

pub returns-then-listing-n-clause-told : goal.returns-then-listing-n-clause-told
returns-then-listing-n-clause-told c = omega (arith, listing-long c.args.file.now)

pub returns-clause-listing_after : goal.returns-clause-listing_after
returns-clause-listing_after c =
    let f = c.args.file.now in
    let l = c.list-n in
    call_fits f _ _ l.result l.ensures.writes l.ensures.short c.args.listing.now _ _ c.if-listing-n.false (rw (staged f _ _ l.result l.ensures.writes l.ensures.short (search rules)) at c.put_bytes.ensures)

pub returns-clause-told : goal.returns-clause-told
returns-clause-told c = omega (arith, listing-long c.args.file.now)
