-- The loop keeps the first `i` rows marked: a mark writes a place above 0 into the bucket of its row, and so unmarks no other row of that bucket.
use mathlib.Core.Path.{◌≡◌}
use mathlib.Core.Bool.{true}
use lib.ListN.{length}
use Rattle.book.specs.Rows.{rows_of}
use Rattle.book_index.specs.Index.{all, row_marked}
use Rattle.book_index_upkeep.proofs.mark_rows.Given as goal

abbrev pub invariant-loop-i : goal.invariant-loop-i
invariant-loop-i l = (length l.places ≡ length l.initial.places) × (all (row_marked l.places) (rows_of l.rows.words.now l.i) ≡ true)
