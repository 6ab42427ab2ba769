-- What the reader's definitions owe to the encoding: reading and encoding undo each other, so that number 4 is said exactly of the bytes that are
-- no value's piece, and 5 exactly of the pieces with an amount out of range. Proved in proofs/RoundTrip.antt.
use Rattle.std.specs.Prelude.{ℕ, ◌≡◌, false, true, cond, List, ◌++◌, Ok, Err}
use Rattle.piece.specs.Bytes.{AllBytes}
use Rattle.message.specs.Values.{event_in_range, orders_in_range}
use Rattle.piece.specs.Encode.{message_bytes, MessageFits, Snapshot, snapshot_bytes, SnapshotFits}
use Rattle.piece.specs.Piece.{read_message, read_snapshot, orders_from}
use Rattle.message.specs.declared.L3Message.{L3Message}
use Rattle.message.specs.declared.L3Snapshot.{L3Snapshot}
use Rattle.piece.specs.declared.PieceError.TheVariants.{NotAPiece, OutOfRange}

pub record MessageRoundTrip : Type 0 where
  -- a message, encoded and then read, is the message, or 5 where an amount is out of range
  pub encoded : (m : L3Message) → MessageFits m →
      read_message (message_bytes m) ≡ cond (event_in_range m.event) (Ok m) (Err OutOfRange)
  -- bytes that read as a message are its encoding
  pub accepted : (s : List ℕ) → AllBytes s → (m : L3Message) → read_message s ≡ Ok m →
      (message_bytes m ≡ s) × MessageFits m × (event_in_range m.event ≡ true)
  -- bytes that get 5 are the encoding of a message with an amount out of range
  pub out_of_range : (s : List ℕ) → AllBytes s → read_message s ≡ Err OutOfRange →
      (m : L3Message) × (message_bytes m ≡ s) × MessageFits m × (event_in_range m.event ≡ false)
  -- bytes that get 4 are no message's encoding
  pub not_a_piece : (s : List ℕ) → read_message s ≡ Err NotAPiece → (m : L3Message) → MessageFits m → message_bytes m ≡ s → ⊥

-- the snapshot whose header the reader found, with the orders that it reads by place
abbrev pub with_orders : List ℕ → L3Snapshot → Snapshot
with_orders s h =
    record {
      product_id = h.product_id;
      sequence = h.sequence;
      bids = orders_from s 0 h.bids;
      asks = orders_from s h.bids h.asks;
    }

pub record SnapshotRoundTrip : Type 0 where
  pub encoded : (v : Snapshot) → SnapshotFits v → orders_in_range (v.bids ++ v.asks) ≡ true →
      (h : L3Snapshot) × (read_snapshot (snapshot_bytes v) ≡ Ok h) × (with_orders (snapshot_bytes v) h ≡ v)
  pub encoded_out : (v : Snapshot) → SnapshotFits v → orders_in_range (v.bids ++ v.asks) ≡ false →
      read_snapshot (snapshot_bytes v) ≡ Err OutOfRange
  pub accepted : (s : List ℕ) → AllBytes s → (h : L3Snapshot) → read_snapshot s ≡ Ok h →
      (snapshot_bytes (with_orders s h) ≡ s) × SnapshotFits (with_orders s h)
  pub out_of_range : (s : List ℕ) → AllBytes s → read_snapshot s ≡ Err OutOfRange →
      (v : Snapshot) × (snapshot_bytes v ≡ s) × SnapshotFits v × (orders_in_range (v.bids ++ v.asks) ≡ false)
  pub not_a_piece : (s : List ℕ) → read_snapshot s ≡ Err NotAPiece → (v : Snapshot) → SnapshotFits v → snapshot_bytes v ≡ s → ⊥
