use native.Mathlib.Omega.{arith}
use Rattle.book.specs.Rows.{rows_of, line_of}
use Rattle.book_levels.proofs.Prices.{prices-count}
use Rattle.book_main.proofs.walk.Goals as goal

pub write_levels-requires-clause-le_width : goal.write_levels-requires-clause-le_width
write_levels-requires-clause-le_width c =
    let e = prices-count c.args.side (line_of (rows_of c.args.book.now.words.now c.args.book.now.rows)) in
    ((omega arith, omega arith), omega (arith, e, c.side_level_count-count.ensures, c.if-out-count.false))
