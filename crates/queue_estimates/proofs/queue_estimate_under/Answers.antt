-- Where `valid_book` answers a sequence, the rows are lent. The orders counted are the entries, three words each; so the code's 7 is the definition's.
use Rattle.std.proofs.lemmas.Result.{err_from_is_err_and}
use mathlib.Core.Path.{◌≡◌, sym}
use mathlib.Core.Bool.{false}
use native.Mathlib.Omega.{arith}
use borrow.Author.Tests.{lt-ltb, le-ltb}
use lib.ListN.{length}
use Rattle.message.proofs.Signed.{sized, back}
use Rattle.book.specs.Memory.{memory, orders_of}
use Rattle.book.proofs.Rows.{length-rows}
use Rattle.book_queue.specs.declared.EntryForm.TheVariants.{Ahead}
use Rattle.book_queue.specs.Queue.{rows_at, entries_words}
use Rattle.book_queue.proofs.Orders.{at_most, width-entries}
use Rattle.reconstructor_checks.proofs.StateChecks.{rows-ready}
use Rattle.reconstructor_view.proofs.Readable.{refused-for, found-valid}
use Rattle.queue.specs.Estimates.{estimated}
use Rattle.queue_estimates.proofs.queue_estimate_under.Goals as goal

pub invariant_of-lent : goal.invariant_of-lent
invariant_of-lent c =
    let a = c.args in
    let m = memory a.rows.now in
    let v = found-valid a.top.limit a.book m false _ c.valid_book.ensures _ c.in_ok-last_seq.was in
    record { lent = rows-ready a.top.limit a.book m a.top.workable v.2.trusted }

pub returns-then-ahead-orders : goal.returns-then-ahead-orders
unfolding estimated
returns-then-ahead-orders c =
    let a = c.args in
    let v = found-valid a.top.limit a.book (memory a.rows.now) false _ c.valid_book.ensures _ c.in_ok-last_seq.was in
    let os = rows_at a.side c.size_of-at.result (orders_of (memory a.rows.now) a.book.rows) in
    let e : length os ≡ c.order_count-orders.result = sym c.order_count-orders.ensures in
    let z = sized a.price c.size_of-at.ensures c.ranges.price in
    rw (v.0, ← z, lt-ltb (length a.ahead.now) (length (entries_words Ahead os)) (omega (arith, e, width-entries Ahead os, c.if-ahead-orders.true)))

pub write_orders-requires : goal.write_orders-requires
write_orders-requires c =
    let a = c.args in
    let m = memory a.rows.now in
    let v = found-valid a.top.limit a.book m false _ c.valid_book.ensures _ c.in_ok-last_seq.was in
    let os = rows_at a.side c.size_of-at.result (orders_of m a.book.rows) in
    omega (arith, width-entries Ahead os, c.order_count-orders.ensures, c.if-ahead-orders.false)

pub returns-in_err-last_seq : goal.returns-in_err-last_seq
unfolding estimated
returns-in_err-last_seq c =
    let a = c.args in
    let p = err_from_is_err_and c.from_residual.result c.from_residual.ensures.1 in
    rw (p.1, p.2, refused-for a.top.limit a.book (memory a.rows.now) false _ c.valid_book.ensures _ c.in_err-last_seq.was)

pub returns : goal.returns
unfolding estimated
returns c =
    let a = c.args in
    let v = found-valid a.top.limit a.book (memory a.rows.now) false _ c.valid_book.ensures _ c.in_ok-last_seq.was in
    let os = rows_at a.side c.size_of-at.result (orders_of (memory a.rows.now) a.book.rows) in
    let e : length os ≡ c.order_count-orders.result = sym c.order_count-orders.ensures in
    let z = sized a.price c.size_of-at.ensures c.ranges.price in
    rw (v.0, ← z, le-ltb (length a.ahead.now) (length (entries_words Ahead os)) (omega (arith, e, width-entries Ahead os, c.if-ahead-orders.false)), c.write_orders.ensures, c.segment_name.ensures, e, v.1, back a.price c.ranges.price.sfits)

pub overflow_mul-orders : goal.overflow_mul-orders
overflow_mul-orders c =
    let a = c.args in
    let m = memory a.rows.now in
    let v = found-valid a.top.limit a.book m false _ c.valid_book.ensures _ c.in_ok-last_seq.was in
    let l = rows-ready a.top.limit a.book m c.args.top.workable v.2.trusted in
    record { fits = omega (arith, c.order_count-orders.ensures, at_most a.side c.size_of-at.result (orders_of m a.book.rows), length-rows a.rows.now 0 a.book.rows, l.few) }
