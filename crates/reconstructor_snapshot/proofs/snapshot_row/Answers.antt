use mathlib.Core.Path.{◌≡◌}
use mir.Syntax.{w64}
use mir.Val.{to_z, of_z}
use borrow.Author.Rules.{rules}
use Rattle.reconstructor_bootstrap.specs.Places.{entry_at}
use Rattle.reconstructor_snapshot.proofs.snapshot_row.Goals as goal

pub returns : goal.returns
unfolding entry_at
returns c =
    let p : to_z w64 (of_z w64 c.snapshot_order-order.result.price) ≡ c.snapshot_order-order.result.price = search rules in
    let q : to_z w64 (of_z w64 c.snapshot_order-order.result.size) ≡ c.snapshot_order-order.result.size = search rules in
    rw (c.snapshot_kind.ensures, c.side_at.ensures, c.size_of-2.ensures, c.size_of.ensures, p, q, c.snapshot_order-order.ensures)
