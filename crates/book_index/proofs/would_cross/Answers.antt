use mathlib.Core.Path.{sym, ◌∙◌}
use Rattle.book_index.proofs.Index.{clear_apart}
use Rattle.book.specs.Rows.{rows_of}
use Rattle.book_index.proofs.would_cross.Goals as goal

pub returns-then-clears : goal.returns-then-clears
returns-then-clears c = sym (clear_apart c.args.index.bounds c.args.side c.args.price (rows_of c.args.index.rows.words.now c.args.index.rows.count) c.args.index.indexed.within (sym c.clears.ensures ∙ c.if-clears.true))
