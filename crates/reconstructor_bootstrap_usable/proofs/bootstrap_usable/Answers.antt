-- 6 and then 10 to 14 are tested as the definition does. A usable state is lent rows up to its limit and a list no shorter than its count; so past 6 the count
-- is below the list's length and can grow, and past 14 the rows have room for the orders, as `accept` asks.
use mathlib.Core.Path.{ap, ◌∙◌}
use Prim.Native.Nat.{◌+◌}
use native.Mathlib.Omega.{arith}
use Rattle.book.specs.Rows.{most_rows}
use Rattle.book.specs.Memory.{memory}
use Rattle.reconstructor_bootstrap.specs.Snapshot.{snapshot_line}
use Rattle.reconstructor_bootstrap.specs.Bootstrap.{booted}
use Rattle.reconstructor_checks.proofs.StateChecks.{orders-within}
use Rattle.reconstructor_bootstrap.proofs.InTurn.{said, said-none}
use Rattle.reconstructor_bootstrap.proofs.Whole.{list_full, snapshot-refused, snapshot-fits, few-orders, room_for, segment-room}
use Rattle.reconstructor_bootstrap_usable.proofs.bootstrap_usable.Goals as goal

pub returns-then-lent-book : goal.returns-then-lent-book
returns-then-lent-book c =
    let a = c.args in
    ap (λ w. booted w (memory a.rows.now)) c.refused.ensures
    ∙ list_full a.book (memory a.rows.now) a.lent a.last a.bytes.now a.snapshot c.if-lent-book.true

pub validate_snapshot-requires : goal.validate_snapshot-requires
validate_snapshot-requires c = orders-within most_rows c.args.book.rules c.requires.within

pub accept-requires : goal.accept-requires
accept-requires c =
    let a = c.args in
    let none = said-none _ c.validate_snapshot.result c.validate_snapshot.ensures c.in-Ok.is in
    let room = segment-room a.book (memory a.rows.now) a.lent c.requires c.if-lent-book.false in record { room = room_for a.book (memory a.rows.now) a.lent c.requires (a.snapshot.bids + a.snapshot.asks) (few-orders a.book.product_id a.book.rules a.snapshot (snapshot_line a.snapshot a.bytes.now) none); segments_lt_largest = omega (arith, room, c.ranges) }

pub returns-in-Ok : goal.returns-in-Ok
returns-in-Ok c =
    let a = c.args in
    c.accept.ensures
    ∙ snapshot-fits a.book (memory a.rows.now) a.lent a.last a.bytes.now a.snapshot c.if-lent-book.false
    (said-none _ c.validate_snapshot.result c.validate_snapshot.ensures c.in-Ok.is)

pub returns-in-Err : goal.returns-in-Err
returns-in-Err c =
    let a = c.args in
    ap (λ w. booted w (memory a.rows.now)) c.refused-in-Err.ensures
    ∙ snapshot-refused a.book (memory a.rows.now) a.lent a.last a.bytes.now a.snapshot c.if-lent-book.false _
    (said _ c.validate_snapshot.result _ c.validate_snapshot.ensures c.in-Err.is)
