-- From the last entry to the first: the tally of the entries behind, with one entry more, is that of one entry more; each sum stays small.
use Prim.Native.Nat.{◌-◌}
use mathlib.Core.Path.{◌∙◌, sym, ap}
use native.Mathlib.Omega.{arith}
use Rattle.book.specs.Rows.{rows_of}
use Rattle.queue.specs.Ahead.{tally_of, still_ahead, entries_from, entered_at, entry_at, row_with}
use Rattle.queue.proofs.Ahead.{entries-done, entries_prev, still-small, joined-tally}
use Rattle.queue_tally.proofs.tally_list.Goals as goal

pub loop-i-init : goal.loop-i-init
loop-i-init c = c.no_tally-t.ensures ∙ sym (ap (λ l. tally_of c.args.since (still_ahead (rows_of c.args.sound.rows.words.now c.args.sound.rows.count) l)) (entries-done c.args.ahead.now c.args.orders))

pub tally_entry-t-requires : goal.tally_entry-t-requires
tally_entry-t-requires c = rw c.loop-i.invariant (still-small c.args.since (rows_of c.args.sound.rows.words.now c.args.sound.rows.count) c.args.ahead.now c.loop-i.i (c.args.orders - c.loop-i.i) c.args.sound.sound (omega (arith, c.requires.1)))

pub loop-i-preserved : goal.loop-i-preserved
loop-i-preserved c = rw (c.tally_entry-t.ensures, entries_prev c.args.ahead.now c.args.orders c.loop-i.i (c.loop-i.i - 1) (omega arith) c.loop-i.auto.i, c.loop-i.invariant) (sym (joined-tally c.args.since (entered_at (entry_at c.args.ahead.now (c.loop-i.i - 1)).entered (row_with (entry_at c.args.ahead.now (c.loop-i.i - 1)).id (rows_of c.args.sound.rows.words.now c.args.sound.rows.count))) (still_ahead (rows_of c.args.sound.rows.words.now c.args.sound.rows.count) (entries_from c.args.ahead.now c.loop-i.i (c.args.orders - c.loop-i.i)))))
