-- The rows of lent words, as the struct holds them.
use Rattle.std.specs.Prelude.{List}
use Rattle.book.specs.declared.Resting.{Resting}
use Rattle.book.specs.declared.lent.LentRows.{LentRows}
use Rattle.book.specs.Rows.{rows_of}

-- the rows that are lent
abbrev pub rows_in : LentRows → List Resting
rows_in r = rows_of r.words.now r.count
