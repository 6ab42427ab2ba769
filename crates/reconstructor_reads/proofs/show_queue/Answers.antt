-- The count is the number of entries, and each has as many words as the code asks room for; so the code's 7 is the definition's.
use mathlib.Core.Path.{◌≡◌, sym}
use native.Mathlib.Omega.{arith}
use lib.ListN.{length}
use borrow.Author.Tests.{lt-ltb, le-ltb}
use Rattle.book.specs.Memory.{memory, orders_of}
use Rattle.book.proofs.Rows.{length-rows}
use Rattle.book_queue.specs.declared.EntryForm.TheVariants.{Queue}
use Rattle.book_queue.specs.Queue.{rows_at, entries_words}
use Rattle.book_queue.proofs.Orders.{at_most, width-entries}
use Rattle.reconstructor_reads.specs.LevelReads.{shown}
use Rattle.reconstructor_reads.proofs.show_queue.Goals as goal

pub overflow_mul-count : goal.overflow_mul-count
overflow_mul-count c =
    let a = c.args in
    let m = at_most a.side a.price (orders_of (memory a.rows.words.now) a.rows.count) in
    record { fits = omega (arith, c.order_count-count.ensures, m, length-rows a.rows.words.now 0 a.rows.count, a.rows.lent.few) }

pub returns-then-out-count : goal.returns-then-out-count
unfolding shown
returns-then-out-count c =
    let a = c.args in
    let os = rows_at a.side a.price (orders_of (memory a.rows.words.now) a.rows.count) in
    let e : length os ≡ c.order_count-count.result = sym c.order_count-count.ensures in
    rw (lt-ltb (length a.out.now) (length (entries_words Queue os)) (omega (arith, e, width-entries Queue os, c.if-out-count.true)))

pub write_orders-requires : goal.write_orders-requires
write_orders-requires c =
    let a = c.args in
    let os = rows_at a.side a.price (orders_of (memory a.rows.words.now) a.rows.count) in
    omega (arith, width-entries Queue os, c.order_count-count.ensures, c.if-out-count.false)

pub returns : goal.returns
unfolding shown
returns c =
    let a = c.args in
    let os = rows_at a.side a.price (orders_of (memory a.rows.words.now) a.rows.count) in
    let e : length os ≡ c.order_count-count.result = sym c.order_count-count.ensures in
    let f = le-ltb (length a.out.now) (length (entries_words Queue os)) (omega (arith, e, width-entries Queue os, c.if-out-count.false)) in
    rw (f, c.clear.ensures, c.write_orders.ensures, e)
