-- Reading and encoding undo each other, for messages and for snapshots.
-- Assumes nothing.
use Rattle.std.specs.Prelude.{Option, Some, None, Ok, Err}
use Prim.Native.Nat.{ℕ, ◌+◌}
use native.Mathlib.Omega.{arith}
use mathlib.Core.Path.{◌≡◌, refl, sym, ap, subst, ◌∙◌}
use mathlib.Core.Bool.{Bool, true, false, cond}
use mathlib.Core.List.{List, ◌++◌}
use Rattle.piece.specs.Bytes.{AllBytes}
use Rattle.message.specs.Values.{event_in_range, orders_in_range}
use Rattle.piece.specs.Encode.{message_bytes, MessageFits, Snapshot, snapshot_bytes, SnapshotFits}
use Rattle.piece.specs.Piece.{word_at, product_id_at, read_event, message_of, read_message, bids_at, asks_at, snapshot_shaped, orders_from, snapshot_of, read_snapshot}
use Rattle.piece.specs.RoundTrip.{MessageRoundTrip, with_orders, SnapshotRoundTrip}
use Rattle.message.specs.declared.L3Event.{L3Event}
use Rattle.message.specs.declared.L3Message.{L3Message}
use Rattle.message.specs.declared.L3Snapshot.{L3Snapshot}
use Rattle.piece.specs.declared.PieceError.TheVariants.{NotAPiece, OutOfRange}
use Rattle.piece.proofs.Encoded.{message-back, header_of, snapshot-back, bid-orders-back, ask-orders-back}
use Rattle.piece.proofs.Decoded.{message_at, message-bytes, message-fits, snapshot_at, both-sides, snapshot-bytes, snapshot-fits}

-- ---- messages

module _ (s : List ℕ) (all : AllBytes s) where
  message-accepted : (m : L3Message) → read_message s ≡ Ok m → (message_bytes m ≡ s) × MessageFits m × (event_in_range m.event ≡ true)
  unfolding read_message message_of
  message-accepted m h = go (read_event s) refl h
    where
      found : (e : L3Event) → read_event s ≡ Some e → (b : Bool) → event_in_range e ≡ b →
          cond b (Ok (message_at s all e)) (Err OutOfRange) ≡ Ok m →
          (message_bytes m ≡ s) × MessageFits m × (event_in_range m.event ≡ true)
      found e q true w h =
          let same : message_at s all e ≡ m = cc in
          subst (λ x. (message_bytes x ≡ s) × MessageFits x × (event_in_range x.event ≡ true)) same
          (message-bytes s all e q, message-fits s all e q, w)
      found e q false w h = let z : ◌≡◌ {A = ℕ} 0 1 = cc in absurd (omega arith)

      go : (r : Option L3Event) → read_event s ≡ r → message_of s r ≡ Ok m →
          (message_bytes m ≡ s) × MessageFits m × (event_in_range m.event ≡ true)
      go None q h = let z : ◌≡◌ {A = ℕ} 0 1 = cc in absurd (omega arith)
      go (Some e) q h = found e q (event_in_range e) refl h

  message-out : read_message s ≡ Err OutOfRange →
      (m : L3Message) × (message_bytes m ≡ s) × MessageFits m × (event_in_range m.event ≡ false)
  unfolding read_message message_of
  message-out h = go (read_event s) refl h
    where
      found : (e : L3Event) → read_event s ≡ Some e → (b : Bool) → event_in_range e ≡ b →
          cond b (Ok (message_at s all e)) (Err OutOfRange) ≡ Err OutOfRange →
          (m : L3Message) × (message_bytes m ≡ s) × MessageFits m × (event_in_range m.event ≡ false)
      found e q true w h = let z : ◌≡◌ {A = ℕ} 0 1 = cc in absurd (omega arith)
      found e q false w h = (message_at s all e, message-bytes s all e q, message-fits s all e q, w)

      go : (r : Option L3Event) → read_event s ≡ r → message_of s r ≡ Err OutOfRange →
          (m : L3Message) × (message_bytes m ≡ s) × MessageFits m × (event_in_range m.event ≡ false)
      go None q h = let z : ◌≡◌ {A = ℕ} 0 1 = cc in absurd (omega arith)
      go (Some e) q h = found e q (event_in_range e) refl h

message_not : (s : List ℕ) → read_message s ≡ Err NotAPiece → (m : L3Message) → MessageFits m → message_bytes m ≡ s → ⊥
message_not s h m fits e = go (event_in_range m.event) (sym (message-back m fits) ∙ ap read_message e ∙ h)
  where
    go : (b : Bool) → cond b (Ok m) (Err OutOfRange) ≡ Err NotAPiece → ⊥
    go true q = let z : ◌≡◌ {A = ℕ} 0 1 = cc in omega arith
    go false q = let z : ◌≡◌ {A = ℕ} 0 1 = cc in omega arith

pub message_round_trip : MessageRoundTrip
message_round_trip =
    record { encoded = message-back; accepted = message-accepted; out_of_range = message-out; not_a_piece = message_not }

-- ---- snapshots

module _ (v : Snapshot) (fits : SnapshotFits v) where
  snapshot_in : orders_in_range (v.bids ++ v.asks) ≡ true →
      (h : L3Snapshot) × (read_snapshot (snapshot_bytes v) ≡ Ok h) × (with_orders (snapshot_bytes v) h ≡ v)
  snapshot_in w = (header_of v fits, rw (snapshot-back v fits, w), rw (bid-orders-back v fits, ask-orders-back v fits))

  snapshot-out : orders_in_range (v.bids ++ v.asks) ≡ false → read_snapshot (snapshot_bytes v) ≡ Err OutOfRange
  snapshot-out w = rw (snapshot-back v fits, w)

module _ (s : List ℕ) (all : AllBytes s) where
  snapshot-accepted : (h : L3Snapshot) → read_snapshot s ≡ Ok h → (snapshot_bytes (with_orders s h) ≡ s) × SnapshotFits (with_orders s h)
  unfolding read_snapshot snapshot_of
  snapshot-accepted h q = go (snapshot_shaped s) refl (orders_in_range (orders_from s 0 (bids_at s + asks_at s))) q
    where
      header : L3Snapshot
      header = record { product_id = product_id_at s 1; sequence = word_at s 17; bids = bids_at s; asks = asks_at s }

      go : (t : Bool) → snapshot_shaped s ≡ t → (b : Bool) →
          cond t (cond b (Ok header) (Err OutOfRange)) (Err NotAPiece) ≡ Ok h →
          (snapshot_bytes (with_orders s h) ≡ s) × SnapshotFits (with_orders s h)
      go true w true q =
          let same : header ≡ h = cc in
          subst (λ x. (snapshot_bytes (with_orders s x) ≡ s) × SnapshotFits (with_orders s x)) same
          (snapshot-bytes s all w, snapshot-fits s all w)
      go true w false q = let z : ◌≡◌ {A = ℕ} 0 1 = cc in absurd (omega arith)
      go false w b q = let z : ◌≡◌ {A = ℕ} 0 1 = cc in absurd (omega arith)

  snapshot-refused : read_snapshot s ≡ Err OutOfRange →
      (v : Snapshot) × (snapshot_bytes v ≡ s) × SnapshotFits v × (orders_in_range (v.bids ++ v.asks) ≡ false)
  unfolding read_snapshot snapshot_of
  snapshot-refused q = go (snapshot_shaped s) refl (orders_in_range (orders_from s 0 (bids_at s + asks_at s))) refl q
    where
      header : L3Snapshot
      header = record { product_id = product_id_at s 1; sequence = word_at s 17; bids = bids_at s; asks = asks_at s }

      go : (t : Bool) → snapshot_shaped s ≡ t → (b : Bool) → orders_in_range (orders_from s 0 (bids_at s + asks_at s)) ≡ b →
          cond t (cond b (Ok header) (Err OutOfRange)) (Err NotAPiece) ≡ Err OutOfRange →
          (v : Snapshot) × (snapshot_bytes v ≡ s) × SnapshotFits v × (orders_in_range (v.bids ++ v.asks) ≡ false)
      go true w false u q =
          (snapshot_at s all, snapshot-bytes s all w, snapshot-fits s all w, ap orders_in_range (both-sides s all) ∙ u)
      go true w true u q = let z : ◌≡◌ {A = ℕ} 0 1 = cc in absurd (omega arith)
      go false w b u q = let z : ◌≡◌ {A = ℕ} 0 1 = cc in absurd (omega arith)

snapshot_not : (s : List ℕ) → read_snapshot s ≡ Err NotAPiece → (v : Snapshot) → SnapshotFits v → snapshot_bytes v ≡ s → ⊥
snapshot_not s h v fits e = go (orders_in_range (v.bids ++ v.asks)) (sym (snapshot-back v fits) ∙ ap read_snapshot e ∙ h)
  where
    go : (b : Bool) → cond b (Ok (header_of v fits)) (Err OutOfRange) ≡ Err NotAPiece → ⊥
    go true q = let z : ◌≡◌ {A = ℕ} 0 1 = cc in omega arith
    go false q = let z : ◌≡◌ {A = ℕ} 0 1 = cc in omega arith

pub snapshot_round_trip : SnapshotRoundTrip
snapshot_round_trip =
    record {
      encoded = snapshot_in;
      encoded_out = snapshot-out;
      accepted = snapshot-accepted;
      out_of_range = snapshot-refused;
      not_a_piece = snapshot_not;
    }
