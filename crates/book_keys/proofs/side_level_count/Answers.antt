use native.Mathlib.Omega.{arith}
use Rattle.book.specs.Rows.{rows_of}
use Rattle.book_keys.proofs.Counts.{side_keys}
use Rattle.book_keys.proofs.side_level_count.Goals as goal

pub overflow_sub-result : goal.overflow_sub-result
overflow_sub-result c = let k = rw (← c.some_other.ensures, c.if-some_other.true) at (side_keys c.args.side (rows_of c.args.rows.words.now c.args.rows.count)) in omega (arith, k, c.count_keys-count.ensures)

pub returns-then-some_other : goal.returns-then-some_other
returns-then-some_other c = let k = rw (← c.some_other.ensures, c.if-some_other.true) at (side_keys c.args.side (rows_of c.args.rows.words.now c.args.rows.count)) in omega (arith, k, c.count_keys-count.ensures)

pub returns-else-some_other : goal.returns-else-some_other
returns-else-some_other c = let k = rw (← c.some_other.ensures, c.if-some_other.false) at (side_keys c.args.side (rows_of c.args.rows.words.now c.args.rows.count)) in omega (arith, k, c.count_keys-count.ensures)
