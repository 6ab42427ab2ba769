-- The Rust's `Book::audit` on rows: "Recomputes every invariant from scratch", in its order.
use Rattle.std.specs.Prelude.{ℕ, ◌*◌, Bool, false, ◌||◌, cond, List, [], ◌∷◌, eqb, ltb, length, Result, Ok, Err, ⊤}
use Rattle.book.specs.declared.Resting.{Resting}
use Rattle.book.specs.Line.{crossed}
use Rattle.book.specs.Rows.{row_words, most_rows, rows_of, line_of}
use Rattle.book.specs.Broken.{id_twice}
use Rattle.book_valid.specs.declared.AuditFinding.TheVariants.{NotLent, SizeNotPositive, IdTwice, Crossed}
use Rattle.book_valid.specs.declared.AuditFinding.{AuditFinding}

-- "order .. has size ..": one that is not positive
abbrev pub some_empty : List Resting → Bool
some_empty [] = false
some_empty (o ∷ os) = eqb o.remaining 0 || some_empty os

-- sizes, then "an id is duplicated or missing", then "crossed"
abbrev pub audit_rows : List Resting → Result ⊤ AuditFinding
audit_rows os =
    cond (some_empty os) (Err SizeNotPositive) (cond (id_twice (line_of os)) (Err IdTwice) (cond (crossed (line_of os)) (Err Crossed) (Ok tt)))

-- n rows in lent words
abbrev pub audit_of : List ℕ → ℕ → Result ⊤ AuditFinding
audit_of ws n = cond (ltb most_rows n) (Err NotLent) (cond (ltb (length ws) (row_words * n)) (Err NotLent) (audit_rows (rows_of ws n)))
