-- The stars, computed.
-- Assumes nothing.
use mathlib.Core.Path.{refl}
use Rattle.message.specs.Values.{in_range, optional_in_range, event_in_range, order_in_range, orders_in_range}
use Rattle.message.specs.Same.{same_id, same_product}
use Rattle.message.specs.Amounts.{differs, given_differs, absent_or_differs}
use Rattle.piece.specs.Bytes.{part, little, big, little_bytes, big_bytes}
use Rattle.piece.specs.Piece.{word_at, amount_at, order_id_at, product_id_at, bids_at, asks_at, snapshot_shaped, order_from, order_at, orders_from, snapshot_of, read_snapshot}
use Rattle.book.specs.Rows.{rows_from, stored, side_of}
use Rattle.book.specs.Broken.{row_broken}
use Rattle.reconstructor_state.specs.Checks.{check, first}
use Rattle.reconstructor_counts.specs.Counts.{saturated}
use Rattle.reconstructor_checks.specs.StateChecks.{broken, state_refusal}
use Rattle.reconstructor_plan.specs.Rules.{open_refusal, done_refusal, maker_refusal, change_refusal, size_refusal, event_refusal, effect, counter_of, event_deed}
use Rattle.reconstructor.specs.Refusals.{admit_refusal, gate_refusal, turn_refusal}
use Rattle.reconstructor.specs.Applied.{refused_reply, invalidated_reply, accepted_reply, accepted, decided, after_gate, applied_to, applied}
use Rattle.reconstructor_bootstrap.specs.Snapshot.{line_refusal, snapshot_refusal, accept_refusal, boot_refusal}
use Rattle.reconstructor_bootstrap.specs.Bootstrap.{closed, bootstrapped_to, bootstrapped}
use Rattle.reconstructor_handshake.specs.Step.{step_refusal, unless_refused, stepped_to, stepped}
use Rattle.reconstructor_view.specs.ValueReads.{read_refusal, view_refusal, audited_of}
use Rattle.reconstructor_reads.specs.LevelReads.{shown, level_read}
use Rattle.queue.specs.Ahead.{entries_from}
use Rattle.queue.specs.Estimates.{estimated, own_viewed, ahead_refusal, tallied, ahead_of}
use Rattle.stars.specs.Stars.{Stars}
use Rattle.stars.proofs.Snapshots.{examples}

pub stars : Stars
unfolding applied applied_to after_gate decided accepted accepted_reply invalidated_reply refused_reply turn_refusal gate_refusal admit_refusal state_refusal broken event_deed counter_of effect event_refusal size_refusal change_refusal maker_refusal done_refusal open_refusal check first saturated rows_from stored side_of row_broken in_range optional_in_range event_in_range order_in_range orders_in_range differs given_differs absent_or_differs same_id same_product view_refusal read_refusal audited_of shown level_read estimated own_viewed ahead_refusal tallied ahead_of entries_from stepped stepped_to unless_refused step_refusal part little big little_bytes big_bytes word_at amount_at order_id_at product_id_at bids_at asks_at snapshot_shaped order_from order_at orders_from snapshot_of read_snapshot line_refusal snapshot_refusal accept_refusal boot_refusal closed bootstrapped_to bootstrapped
stars = record { numbers = refl; gap = refl; behind = refl; snapshots = examples; skipped = refl; unread = refl; steps = refl; reads = refl; c1 = refl; c2 = refl; c2-ahead = refl; c2-rows = refl; c2-list = refl; c3-rows = refl; c3-applied = refl }
