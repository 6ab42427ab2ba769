-- Where `valid_book` answers a sequence, the rows are lent and sound: the own order is looked up, and its price fits an amount.
use mathlib.Core.Path.{sym, ◌∙◌}
use Rattle.std.proofs.lemmas.Result.{err_from_is_err_and}
use mathlib.Core.Bool.{false}
use Rattle.book.specs.Memory.{memory, orders_of}
use Rattle.reconstructor_checks.proofs.StateChecks.{sound, rows-ready}
use Rattle.reconstructor_view.proofs.Readable.{refused-for, found-valid}
use Rattle.queue.specs.Estimates.{own_viewed}
use Rattle.queue.proofs.Ahead.{with-sound, price_most}
use Rattle.queue_estimates_own.proofs.queue_estimate_own_under.Goals as goal

pub invariant_of-lent : goal.invariant_of-lent
invariant_of-lent c =
    let a = c.args in
    let m = memory a.rows.now in
    let v = found-valid a.top.limit a.book m false _ c.valid_book.ensures _ c.in_ok-_last_seq.was in
    record { lent = rows-ready a.top.limit a.book m a.top.workable v.2.trusted }

pub returns-in_default : goal.returns-in_default
unfolding own_viewed
returns-in_default c =
    let a = c.args in
    let v = found-valid a.top.limit a.book (memory a.rows.now) false _ c.valid_book.ensures _ c.in_ok-_last_seq.was in
    let w = sym c.resting.ensures ∙ c.in_default.is in
    rw (v.0, w)

pub returns-then-place_unknown : goal.returns-then-place_unknown
unfolding own_viewed
returns-then-place_unknown c =
    let a = c.args in
    let v = found-valid a.top.limit a.book (memory a.rows.now) false _ c.valid_book.ensures _ c.in_ok-_last_seq.was in
    let w = sym c.resting.ensures ∙ c.in-Some.is in
    rw (v.0, w, ← c.place_unknown.ensures, c.if-place_unknown.true)

pub own_estimate-requires : goal.own_estimate-requires
own_estimate-requires c =
    let a = c.args in
    let m = memory a.rows.now in
    let v = found-valid a.top.limit a.book m false _ c.valid_book.ensures _ c.in_ok-_last_seq.was in
    let w = sym c.resting.ensures ∙ c.in-Some.is in
    price_most _ (with-sound a.order_id (orders_of m a.book.rows) _ (sound a.book m v.2.trusted.sound).formed.sound w)

pub returns-in_err-_last_seq : goal.returns-in_err-_last_seq
unfolding own_viewed
returns-in_err-_last_seq c =
    let a = c.args in
    let p = err_from_is_err_and c.from_residual.result c.from_residual.ensures.1 in
    rw (p.1, p.2, refused-for a.top.limit a.book (memory a.rows.now) false _ c.valid_book.ensures _ c.in_err-_last_seq.was)

pub returns : goal.returns
unfolding own_viewed
returns c =
    let a = c.args in
    let v = found-valid a.top.limit a.book (memory a.rows.now) false _ c.valid_book.ensures _ c.in_ok-_last_seq.was in
    let w = sym c.resting.ensures ∙ c.in-Some.is in
    rw (v.0, w, ← c.place_unknown.ensures, c.if-place_unknown.false, c.own_estimate.ensures)
