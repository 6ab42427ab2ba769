-- The loop keeps the first `i` rows marked: a mark writes a place above 0 into the bucket of its row, and so unmarks no other row of that bucket.
use mathlib.Core.Path.{refl}
use borrow.Author.Rules.{rules}
use Rattle.book_index.proofs.Index.{marks-none, marks-next}
use Rattle.book_index_upkeep.proofs.mark_rows.Goals as goal

pub loop-i-init : goal.loop-i-init
loop-i-init c = (refl, marks-none _ _)

pub loop-i-preserved : goal.loop-i-preserved
loop-i-preserved c = (search rules, marks-next c.args.rows.words.now c.loop-i.i c.get-o.result c.loop-i.places _ c.get-o.ensures c.mark.ensures c.loop-i.invariant.1)
