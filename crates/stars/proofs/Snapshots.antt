-- The snapshot examples, computed.
-- Assumes nothing.
use mathlib.Core.Path.{refl}
use Rattle.message.specs.Same.{same_id, same_product}
use Rattle.piece.specs.Bytes.{part, little, big, little_bytes, big_bytes}
use Rattle.message.specs.Values.{in_range, order_in_range, orders_in_range}
use Rattle.piece.specs.Piece.{word_at, amount_at, order_id_at, product_id_at, bids_at, asks_at, snapshot_shaped, order_from, order_at, orders_from, snapshot_of, read_snapshot}
use Rattle.book.specs.Rows.{rows_from, stored, side_of}
use Rattle.book.specs.Broken.{row_broken}
use Rattle.reconstructor_counts.specs.Counts.{saturated}
use Rattle.reconstructor_state.specs.Checks.{check, first}
use Rattle.reconstructor_checks.specs.StateChecks.{broken, state_refusal}
use Rattle.reconstructor_bootstrap.specs.Snapshot.{line_refusal, snapshot_refusal, accept_refusal, boot_refusal}
use Rattle.reconstructor_bootstrap.specs.Bootstrap.{closed, bootstrapped_to, bootstrapped}
use Rattle.stars.specs.Snapshots.{Examples}

pub examples : Examples
unfolding check first state_refusal broken row_broken side_of same_id same_product saturated rows_from stored in_range order_in_range orders_in_range part little big little_bytes big_bytes word_at amount_at order_id_at product_id_at bids_at asks_at snapshot_shaped order_from order_at orders_from snapshot_of read_snapshot line_refusal snapshot_refusal accept_refusal boot_refusal closed bootstrapped_to bootstrapped
examples = record { made = refl; again = refl; kept = refl; numbers = refl; orders = refl }
