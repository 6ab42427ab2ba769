use Rattle.std.proofs.lemmas.Result.{err_from_is_err_and}
use mathlib.Core.Bool.{false}
use Rattle.book.specs.Memory.{memory}
use Rattle.reconstructor_view.specs.ValueReads.{audited_of}
use Rattle.reconstructor_view.proofs.Readable.{refused-for, found-valid, audit_ok}
use Rattle.reconstructor_view_valid.proofs.audit_under.Goals as goal

pub returns-in_err-valid_book : goal.returns-in_err-valid_book
unfolding audited_of
returns-in_err-valid_book c =
    let a = c.args in
    let m = memory a.rows.now in
    let p = err_from_is_err_and c.from_residual.result c.from_residual.ensures.1 in
    rw (p.1, p.2, refused-for a.top.limit a.book m false _ c.valid_book.ensures _ c.in_err-valid_book.was)

pub returns : goal.returns
unfolding audited_of
returns c =
    let a = c.args in
    let m = memory a.rows.now in
    let v = found-valid a.top.limit a.book m false _ c.valid_book.ensures _ c.in_ok-valid_book.was in
    rw (v.0, audit_ok a.top.limit a.book m false v.2)
