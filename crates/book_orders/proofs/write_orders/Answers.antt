-- The loop keeps the entries of the first `i` rows at the start of `out`, and `at` their length. These entries are part of the whole, for which there is room,
-- so each row's entry fits.
use mathlib.Core.Path.{refl}
use native.Mathlib.Omega.{arith}
use Rattle.book_queue.proofs.Orders.{writes_start, writes-room, writes-next}
use Rattle.book_orders.proofs.write_orders.Goals as goal

pub loop-i-init : goal.loop-i-init
loop-i-init c = (writes_start c.args.form c.args.side c.args.price c.args.rows.words.now c.args.rows.count c.args.out.now, refl)

pub write_row-at-requires : goal.write_row-at-requires
write_row-at-requires c = let r = writes-room c.args.form c.args.side c.args.price c.args.rows.words.now c.args.rows.count c.args.out.now c.loop-i.out c.loop-i.at c.loop-i.i c.loop-i.invariant.0 c.loop-i-test.true in rw c.get.ensures (omega (arith, r, c.loop-i.invariant.1, c.requires))

pub loop-i-preserved : goal.loop-i-preserved
loop-i-preserved c = (writes-next c.args.form c.args.side c.args.price c.args.rows.words.now c.args.rows.count c.args.out.now c.loop-i.out c.loop-i.at c.loop-i.i c.loop-i.invariant.0 c.loop-i-test.true _ _ (rw c.get.ensures at c.write_row-at.ensures.value) (rw c.get.ensures at c.write_row-at.ensures.out_after), omega (arith, c.write_row-at.auto.out, c.loop-i.invariant.1))
