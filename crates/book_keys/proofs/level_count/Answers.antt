use mathlib.Core.Path.{◌∙◌, sym}
use Rattle.book.specs.Rows.{rows_of}
use Rattle.book_keys.proofs.Counts.{levels_keys}
use Rattle.book_keys.proofs.level_count.Goals as goal

pub returns : goal.returns
returns c = c.count_keys.ensures ∙ sym (levels_keys (rows_of c.args.rows.words.now c.args.rows.count))
