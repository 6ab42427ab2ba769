-- The tests of the code are those of `ahead_refusal`, in its order; past them the rows are lent and sound, and the list is long enough.
use Rattle.std.proofs.lemmas.Result.{err_from_is_err_and}
use mathlib.Core.Path.{◌∙◌, ap}
use mathlib.Core.Bool.{false}
use Rattle.book.specs.Memory.{memory, orders_of}
use Rattle.reconstructor_state.specs.Checks.{check, first}
use Rattle.reconstructor_checks.proofs.StateChecks.{sound, rows-ready}
use Rattle.reconstructor_view.proofs.Readable.{refused-for, found-valid}
use Rattle.queue.specs.Estimates.{ahead_refusal, ahead_of, anchor_ahead}
use Rattle.queue_ahead.proofs.volume_ahead_under.Goals as goal

pub invariant_of-lent : goal.invariant_of-lent
invariant_of-lent c =
    let a = c.args in
    let m = memory a.rows.now in
    let v = found-valid a.top.limit a.book m false _ c.valid_book.ensures _ c.in_ok-last_seq.was in
    record { lent = rows-ready a.top.limit a.book m a.top.workable v.2.trusted }

pub invariant_of-sound : goal.invariant_of-sound
invariant_of-sound c =
    let a = c.args in
    let m = memory a.rows.now in
    let v = found-valid a.top.limit a.book m false _ c.valid_book.ensures _ c.in_ok-last_seq.was in
    record { sound = (sound a.book m v.2.trusted.sound).formed.sound }

pub returns-then-list_short : goal.returns-then-list_short
unfolding ahead_refusal ahead_of check first
returns-then-list_short c =
    let a = c.args in
    let v = found-valid a.top.limit a.book (memory a.rows.now) false _ c.valid_book.ensures _ c.in_ok-last_seq.was in
    rw (v.0, ← c.list_short.ensures, c.if-list_short.true)

pub returns-then-is_stale : goal.returns-then-is_stale
unfolding ahead_refusal ahead_of check first
returns-then-is_stale c =
    let a = c.args in
    let v = found-valid a.top.limit a.book (memory a.rows.now) false _ c.valid_book.ensures _ c.in_ok-last_seq.was in
    rw (v.0, ← c.list_short.ensures, c.if-list_short.false, ← c.is_stale.ensures, c.if-is_stale.true)

pub returns-in_err-last_seq : goal.returns-in_err-last_seq
unfolding ahead_refusal ahead_of check first
returns-in_err-last_seq c =
    let a = c.args in
    let p = err_from_is_err_and c.from_residual.result c.from_residual.ensures.1 in
    rw (p.1, p.2, refused-for a.top.limit a.book (memory a.rows.now) false _ c.valid_book.ensures _ c.in_err-last_seq.was)

pub returns : goal.returns
unfolding ahead_refusal ahead_of check first
returns c =
    let a = c.args in
    let v = found-valid a.top.limit a.book (memory a.rows.now) false _ c.valid_book.ensures _ c.in_ok-last_seq.was in
    rw (v.0, ← c.list_short.ensures, c.if-list_short.false, ← c.is_stale.ensures, c.if-is_stale.false) (c.anchor_ahead.ensures ∙ ap (λ t. anchor_ahead a.book.rules.size_decrease t a.estimate a.estimate.anchor a.ahead.now (orders_of (memory a.rows.now) a.book.rows)) v.1)
