-- Where `valid_book` answers a sequence, 1, 2 and 3 are passed: the rows are lent, and the best prices found are the line's.
use Rattle.std.proofs.lemmas.Result.{err_from_is_err_and}
use mathlib.Core.Bool.{false}
use Rattle.book.specs.Memory.{memory}
use Rattle.reconstructor_checks.proofs.StateChecks.{rows-ready}
use Rattle.reconstructor_view.specs.ValueReads.{best_of}
use Rattle.reconstructor_view.proofs.Readable.{refused-for, found-valid}
use Rattle.reconstructor_view_valid.proofs.best_under.Goals as goal

pub invariant_of-lent : goal.invariant_of-lent
invariant_of-lent c =
    let a = c.args in
    let m = memory a.rows.now in
    let v = found-valid a.top.limit a.book m false _ c.valid_book.ensures _ c.in_ok-valid_book.was in
    record { lent = rows-ready a.top.limit a.book m a.top.workable v.2.trusted }

pub returns-in_err-valid_book : goal.returns-in_err-valid_book
unfolding best_of
returns-in_err-valid_book c =
    let a = c.args in
    let p = err_from_is_err_and c.from_residual.result c.from_residual.ensures.1 in
    rw (p.1, p.2, refused-for a.top.limit a.book (memory a.rows.now) false _ c.valid_book.ensures _ c.in_err-valid_book.was)

pub returns : goal.returns
unfolding best_of
returns c =
    let a = c.args in
    let v = found-valid a.top.limit a.book (memory a.rows.now) false _ c.valid_book.ensures _ c.in_ok-valid_book.was in
    rw (v.0, c.best_bid.ensures, c.best_ask.ensures)
