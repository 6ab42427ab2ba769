-- From the last row to the first: the level of the rows behind, with one row more, is the level of one row more (`level-next`). Each sum stays small, since
-- every row is sound and there are few.
use Prim.Native.Nat.{◌-◌}
use mathlib.Core.Path.{sym}
use native.Mathlib.Omega.{arith}
use Rattle.laws.proofs.Bools.{or_no}
use Rattle.book.specs.Rows.{rows_from}
use Rattle.book.specs.Broken.{row_broken, some_row_broken}
use Rattle.book.proofs.Rows.{rows_prev, rows-done}
use Rattle.book.proofs.Kept.{sound-from, sound_row}
use Rattle.book_levels.proofs.Totals.{level-next, small-from}
use Rattle.book_levels.proofs.level_at.Goals as goal

pub loop-i-init : goal.loop-i-init
loop-i-init c = rw (rows-done c.args.sound.rows.words.now c.args.sound.rows.count c.args.sound.rows.count (omega arith))

pub level_with-level-requires : goal.level_with-level-requires
level_with-level-requires c =
    let v = small-from c.args.sound.rows.words.now c.args.sound.rows.count c.loop-i.i c.args.side c.args.price c.args.sound.rows.lent.few c.loop-i.auto.i c.args.sound.sound in
    let here = rows_prev c.args.sound.rows.words.now c.args.sound.rows.count c.loop-i.i (c.loop-i.i - 1) c.get.result (omega arith) c.loop-i.auto.i c.get.ensures in
    let q = sound-from c.args.sound.rows.words.now c.args.sound.rows.count (c.loop-i.i - 1) (omega arith) c.args.sound.sound in
    let d = or_no (row_broken c.get.result) (some_row_broken (rows_from c.args.sound.rows.words.now c.loop-i.i (c.args.sound.rows.count - c.loop-i.i))) (rw here at q) in
    let o = sound_row c.get.result d.0 in
    rw c.loop-i.invariant (o.remaining.high, (v.total, (v.unknown, v.orders)))

pub loop-i-preserved : goal.loop-i-preserved
loop-i-preserved c = rw (c.level_with-level.ensures, rows_prev c.args.sound.rows.words.now c.args.sound.rows.count c.loop-i.i (c.loop-i.i - 1) c.get.result (omega arith) c.loop-i.auto.i c.get.ensures, c.loop-i.invariant) (sym (level-next c.args.side c.args.price c.get.result (rows_from c.args.sound.rows.words.now c.loop-i.i (c.args.sound.rows.count - c.loop-i.i))))
