-- Every row is marked, so a bucket without a place means that no row has the id; ids are distinct, so a row that `find_near` meets is the first with the id.
-- In the other cases the plain search answers.
use mathlib.Core.Path.{sym, ap, ◌∙◌}
use native.Mathlib.Omega.{arith}
use lib.ListN.{get_or}
use Rattle.book_index.proofs.Index.{no_place, unmarked-none, near_is}
use Rattle.book.specs.Rows.{rows_of}
use Rattle.book_index.proofs.find.Goals as goal

pub returns-then-place-eq0 : goal.returns-then-place-eq0
returns-then-place-eq0 c =
    let ps = c.args.index.places.now in
    sym (unmarked-none ps c.args.id (no_place ps c.args.id (omega arith) (ap (λ b. get_or ps b 0) (sym c.bucket_of.ensures.0) ∙ sym c.row_of-place.ensures ∙ c.if-place-eq0.true)) (rows_of c.args.index.rows.words.now c.args.index.rows.count) 0 c.args.index.indexed.marks)

pub returns : goal.returns
returns c =
    let near = rw c.in-Some.is at c.find_near.ensures in
    near_is c.args.index.rows.words.now c.args.index.rows.count _ c.args.id c.args.index.indexed.single (omega (arith, near.0, c.min.ensures)) near.1
