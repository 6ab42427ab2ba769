-- From the last row to the first: the tally of the rows behind, with one row more, is `before` of one row more; each sum stays small.
use Prim.Native.Nat.{◌-◌}
use mathlib.Core.Path.{◌∙◌, sym, ap}
use native.Mathlib.Omega.{arith}
use Rattle.book.specs.Rows.{rows_from}
use Rattle.book.proofs.Rows.{rows-done, rows_prev, length-rows}
use Rattle.book.proofs.Kept.{sound-from}
use Rattle.book_queue.specs.Queue.{rows_at}
use Rattle.queue.specs.Ahead.{tally_of, before}
use Rattle.queue.proofs.Ahead.{size_most, row-sound_at, before_small, before-tally}
use Rattle.queue_tally.proofs.tally_before.Goals as goal

pub loop-i-init : goal.loop-i-init
loop-i-init c = c.no_tally-t.ensures ∙ sym (ap (λ l. tally_of c.args.since (before c.args.own (rows_at c.args.side c.args.price l))) (rows-done c.args.sound.rows.words.now c.args.sound.rows.count c.args.sound.rows.count (omega arith)))

pub tally_row-t-requires : goal.tally_row-t-requires
tally_row-t-requires c = (rw c.get.ensures (size_most _ (row-sound_at c.args.sound.rows.words.now c.args.sound.rows.count (c.loop-i.i - 1) (omega arith) c.args.sound.sound)), rw c.loop-i.invariant (before_small c.args.since c.args.side c.args.price c.args.own (rows_from c.args.sound.rows.words.now c.loop-i.i (c.args.sound.rows.count - c.loop-i.i)) (sound-from c.args.sound.rows.words.now c.args.sound.rows.count c.loop-i.i c.loop-i.auto.i c.args.sound.sound) (omega (arith, length-rows c.args.sound.rows.words.now c.loop-i.i (c.args.sound.rows.count - c.loop-i.i), c.args.sound.rows.lent.few))))

pub loop-i-preserved : goal.loop-i-preserved
loop-i-preserved c = rw (c.tally_row-t.ensures, rows_prev c.args.sound.rows.words.now c.args.sound.rows.count c.loop-i.i (c.loop-i.i - 1) c.get.result (omega arith) c.loop-i.auto.i c.get.ensures, c.loop-i.invariant) (sym (before-tally c.args.since c.args.side c.args.price c.args.own c.get.result (rows_from c.args.sound.rows.words.now c.loop-i.i (c.args.sound.rows.count - c.loop-i.i))))
