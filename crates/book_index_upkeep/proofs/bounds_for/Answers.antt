use Rattle.book_index.proofs.Index.{within-kept, bounded_now}
use Rattle.book.specs.Rows.{rows_of}
use Rattle.book_index_upkeep.proofs.bounds_for.Goals as goal

pub returns-in_default : goal.returns-in_default
returns-in_default c =
    let a = c.args in
    let b = c.bounds_of.result in
    rw c.widened.ensures (within-kept b a.side a.price (rows_of a.rows.words.now a.rows.count) c.bounds_of.ensures, bounded_now b a.side a.price)

pub returns-then-clear_of : goal.returns-then-clear_of
returns-then-clear_of c =
    let a = c.args in
    let b = c.in-Some.known in
    let h = rw c.in-Some.is at c.requires in
    rw c.widened-then-clear_of.ensures (within-kept b a.side a.price (rows_of a.rows.words.now a.rows.count) h, bounded_now b a.side a.price)

pub returns : goal.returns
returns c =
    let a = c.args in
    let b = c.bounds_of-2.result in
    rw c.widened-2.ensures (within-kept b a.side a.price (rows_of a.rows.words.now a.rows.count) c.bounds_of-2.ensures, bounded_now b a.side a.price)
