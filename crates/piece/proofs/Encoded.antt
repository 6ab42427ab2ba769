-- What is encoded and then read is the value.
-- Assumes nothing.
use Rattle.std.specs.Prelude.{Option, Some, None, Ok, Err}
use Prim.Native.Nat.{ℕ, ◌+◌, ◌*◌, ◌/◌, ◌%◌, ◌≤◌}
use native.Mathlib.Omega.{arith}
use native.Mathlib.Nat.{div-div-eq-div-mul}
use mathlib.Core.Path.{◌≡◌, refl, sym, ap, ap₂, ◌∙◌}
use mathlib.Core.List.{append-nil, append_assoc, List, [], ◌∷◌, ◌++◌}
use mathlib.Core.Bool.{Bool, true, false, cond}
use borrow.Author.Tests.{eq-eqb, ne_eqb, le-leb}
use lib.Dec.{eqb, leb}
use lib.IntN.{ℤ}
use lib.ListN.{length, length-append}
use lib.Seq.{drop-append-add, drop_at}
use mir.Syntax.{w64}
use mir.Val.{to_z, of_z}
use mir.ValLaws.{of_z_fits}
use Rattle.message.specs.declared.L3Snapshot.{L3Snapshot}
use Rattle.piece.specs.Piece.{bids_at, asks_at, snapshot_shaped, order_from, order_at, orders_from, snapshot_of, read_snapshot, word_at, amount_at, order_id_at, product_id_at, side_of, done_reason_of, change_reason_of, has_bit, optional_at, zero_unless, event_if, read_received, read_open, done_shaped, read_done, read_match, change_shaped, change_fields_at, change_of, read_change, read_unsupported, read_event, message_of, read_message}
use Rattle.piece.specs.Encode.{Snapshot, orders_bytes, snapshot_bytes, OrdersFit, SnapshotFits, order_id_bytes, product_id_bytes, amount_bytes, optional_bytes, present_bit, presence, side_byte, done_reason_byte, change_reason_byte, message_bytes, Id, Amount, Optional, EventFits, MessageFits}
use Rattle.piece.specs.Bytes.{little, little_bytes, big_bytes, part}
use Rattle.message.specs.declared.L3Side.{L3Side}
use Rattle.message.specs.declared.L3Side.TheVariants.{Buy, Sell}
use Rattle.message.specs.declared.DoneReason.{DoneReason}
use Rattle.message.specs.declared.DoneReason.TheVariants.{Filled, Canceled}
use Rattle.message.specs.declared.ChangeReason.{ChangeReason}
use Rattle.message.specs.declared.ChangeReason.TheVariants.{Stp, ModifyOrder}
use Rattle.message.specs.declared.OrderId.{OrderId}
use Rattle.message.specs.declared.ProductId.{ProductId}
use Rattle.message.specs.declared.L3Event.{L3Event}
use Rattle.message.specs.declared.L3Event.TheVariants.{Received, Open, Done, Match, Change, Unsupported}
use Rattle.message.specs.declared.L3Message.{L3Message}
use Rattle.message.specs.declared.SnapshotOrder.{SnapshotOrder}
use Rattle.piece.specs.declared.PieceError.TheVariants.{OutOfRange}
use Rattle.message.specs.Values.{event_in_range, orders_in_range}
use Rattle.message.proofs.Signed.{back}
use Rattle.piece.proofs.Numbers.{little-back, big-back}

amount-back : (a : ℤ) → Amount a → to_z w64 (little (little_bytes 8 (of_z w64 a))) ≡ a
amount-back a h = rw (little-back 8 (of_z w64 a) (of_z_fits w64 a (record { sfits = h })).fits) (back a h)

side-back : (side : L3Side) → (side_of (side_byte side) ≡ side) × (leb (side_byte side) 1 ≡ true)
unfolding side_of
side-back Buy = (refl, refl)
side-back Sell = (refl, refl)

done_reason-back : (reason : DoneReason) → (done_reason_of (done_reason_byte reason) ≡ reason) × (leb (done_reason_byte reason) 1 ≡ true)
unfolding done_reason_of
done_reason-back Filled = (refl, refl)
done_reason-back Canceled = (refl, refl)

change_reason-back : (reason : ChangeReason) → (change_reason_of (change_reason_byte reason) ≡ reason) × (leb (change_reason_byte reason) 1 ≡ true)
unfolding change_reason_of
change_reason-back Stp = (refl, refl)
change_reason-back ModifyOrder = (refl, refl)

abbrev is_given : Option ℤ → Bool
is_given None = false
is_given (Some a) = true

bit-small : (a : Option ℤ) → present_bit a ≤ 1
bit-small None = omega arith
bit-small (Some a) = omega arith

bit-first : (a : Option ℤ) (n : ℕ) → has_bit (present_bit a + 2 * n) 1 ≡ is_given a
unfolding has_bit
bit-first None n = ne_eqb ((0 + 2 * n) / 1 % 2) 1 (λ e. omega arith)
bit-first (Some a) n = eq-eqb ((1 + 2 * n) / 1 % 2) 1 (omega arith)

bit-next : (a : Option ℤ) (n w : ℕ) → has_bit (present_bit a + 2 * n) (2 * w) ≡ has_bit n w
unfolding has_bit
bit-next a n w =
    let half : (present_bit a + 2 * n) / 2 ≡ n = omega (arith, bit-small a) in
    ap (λ x. eqb (x % 2) 1) (sym (div-div-eq-div-mul (present_bit a + 2 * n) 2 w) ∙ ap (λ x. x / w) half)

optional-back : (s : List ℕ) (i : ℕ) (a : Option ℤ) → part s i 8 ≡ optional_bytes a → Optional a → optional_at s (is_given a) i ≡ a
unfolding optional_at amount_at word_at
optional-back s i None e h = refl
optional-back s i (Some x) e h = ap Some (ap (λ l. to_z w64 (little l)) e ∙ amount-back x h)

zero-back : (s : List ℕ) (i : ℕ) (a : Option ℤ) → part s i 8 ≡ optional_bytes a → zero_unless s (is_given a) i ≡ true
unfolding zero_unless word_at
zero-back s i None e = eq-eqb (little (part s i 8)) 0 (ap little e ∙ little-back 8 0 (omega arith))
zero-back s i (Some x) e = refl

module _ (m : L3Message) (fits : MessageFits m) where
  product-back : product_id_at (message_bytes m) 1 ≡ m.product_id
  unfolding product_id_at part big_bytes little_bytes
  product-back = rw (big-back 8 m.product_id.high fits.product.0, big-back 8 m.product_id.low fits.product.1)

  sequence-back : word_at (message_bytes m) 17 ≡ m.sequence
  unfolding word_at part big_bytes little_bytes
  sequence-back = little-back 8 m.sequence fits.sequence

  time-back : word_at (message_bytes m) 25 ≡ m.time_us
  unfolding word_at part big_bytes little_bytes
  time-back = little-back 8 m.time_us fits.time

module _ (product : ProductId) (sequence time : ℕ) where
  -- the piece of an event
  abbrev of : L3Event → List ℕ
  of e = message_bytes (record { product_id = product; sequence = sequence; time_us = time; event = e })

  received-back : (i : OrderId) (side : L3Side) → EventFits (Received i side) → read_received (of (Received i side)) ≡ Some (Received i side)
  unfolding read_received event_if order_id_at part big_bytes little_bytes
  received-back i side h =
      rw ((side-back side).1, (side-back side).0, big-back 8 i.high h.0, big-back 8 i.low h.1)

  open-back : (i : OrderId) (side : L3Side) (price remaining : ℤ) → EventFits (Open i side price remaining) →
      read_open (of (Open i side price remaining)) ≡ Some (Open i side price remaining)
  unfolding read_open event_if order_id_at amount_at word_at part big_bytes little_bytes
  open-back i side price remaining h =
      rw (
        (side-back side).1,
        (side-back side).0,
        big-back 8 i.high h.0.0,
        big-back 8 i.low h.0.1,
        amount-back price h.1,
        amount-back remaining h.2,
      )

  match_back : (i j : OrderId) (side : L3Side) (price size : ℤ) → EventFits (Match i j side price size) →
      read_match (of (Match i j side price size)) ≡ Some (Match i j side price size)
  unfolding read_match event_if order_id_at amount_at word_at part big_bytes little_bytes
  match_back i j side price size h =
      rw (
        (side-back side).1,
        (side-back side).0,
        big-back 8 i.high h.0.0,
        big-back 8 i.low h.0.1,
        big-back 8 j.high h.1.0,
        big-back 8 j.low h.1.1,
        amount-back price h.2,
        amount-back size h.3,
      )

  done-back : (i : OrderId) (side : L3Side) (p : Option ℤ) (reason : DoneReason) (r : Option ℤ) →
      EventFits (Done i side p reason r) → read_done (of (Done i side p reason r)) ≡ Some (Done i side p reason r)
  unfolding read_done done_shaped event_if order_id_at part big_bytes little_bytes
  done-back i side p reason r h =
      let s = of (Done i side p reason r) in
      let rest = presence (r ∷ []) in
      let first = bit-first p rest in
      let second = bit-next p rest 1 ∙ bit-first r 0 in
      rw (
        first,
        second,
        zero-back s 50 p refl,
        zero-back s 60 r refl,
        optional-back s 50 p refl h.1,
        optional-back s 60 r refl h.2,
        le-leb (presence (p ∷ r ∷ [])) 3 (omega (arith, bit-small p, bit-small r)),
        (done_reason-back reason).1,
        (done_reason-back reason).0,
        (side-back side).1,
        (side-back side).0,
        big-back 8 i.high h.0.0,
        big-back 8 i.low h.0.1,
      )

  change-back : (i : OrderId) (side : L3Side) (reason : ChangeReason) (p os ns op np nf : Option ℤ) →
      EventFits (Change i side reason p os ns op np nf) →
      read_change (of (Change i side reason p os ns op np nf)) ≡ Some (Change i side reason p os ns op np nf)
  unfolding read_change change_shaped change_fields_at change_of event_if order_id_at part big_bytes little_bytes
  change-back i side reason p os ns op np nf h =
      let s = of (Change i side reason p os ns op np nf) in
      let five = presence (os ∷ ns ∷ op ∷ np ∷ nf ∷ []) in
      let four = presence (ns ∷ op ∷ np ∷ nf ∷ []) in
      let three = presence (op ∷ np ∷ nf ∷ []) in
      let two = presence (np ∷ nf ∷ []) in
      let one = presence (nf ∷ []) in
      let b4 = bit-next op two 2 ∙ bit-next np one 1 ∙ bit-first nf 0 in
      rw (
        bit-first p five,
        bit-next p five 1 ∙ bit-first os four,
        bit-next p five 2 ∙ bit-next os four 1 ∙ bit-first ns three,
        bit-next p five 4 ∙ bit-next os four 2 ∙ bit-next ns three 1 ∙ bit-first op two,
        bit-next p five 8 ∙ bit-next os four 4 ∙ bit-next ns three 2 ∙ bit-next op two 1 ∙ bit-first np one,
        bit-next p five 16 ∙ bit-next os four 8 ∙ bit-next ns three 4 ∙ b4,
        zero-back s 52 p refl,
        zero-back s 60 os refl,
        zero-back s 68 ns refl,
        zero-back s 76 op refl,
        zero-back s 84 np refl,
        zero-back s 92 nf refl,
        optional-back s 52 p refl h.1,
        optional-back s 60 os refl h.2,
        optional-back s 68 ns refl h.3,
        optional-back s 76 op refl h.4,
        optional-back s 84 np refl h.5,
        optional-back s 92 nf refl h.6,
        le-leb (presence (p ∷ os ∷ ns ∷ op ∷ np ∷ nf ∷ [])) 63
            (omega (arith, bit-small p, bit-small os, bit-small ns, bit-small op, bit-small np, bit-small nf)),
        (change_reason-back reason).1,
        (change_reason-back reason).0,
        (side-back side).1,
        (side-back side).0,
        big-back 8 i.high h.0.0,
        big-back 8 i.low h.0.1,
      )

  unsupported-back : (kind : ℕ) → EventFits (Unsupported kind) → read_unsupported (of (Unsupported kind)) ≡ Some (Unsupported kind)
  unfolding read_unsupported event_if part big_bytes little_bytes
  unsupported-back kind h = rw (little-back 4 kind h)

  event-back : (e : L3Event) → EventFits e → read_event (of e) ≡ Some e
  unfolding read_event
  event-back (Received i side) h = received-back i side h
  event-back (Open i side p r) h = open-back i side p r h
  event-back (Done i side p reason r) h = done-back i side p reason r h
  event-back (Match i j side p q) h = match_back i j side p q h
  event-back (Change i side reason p os ns op np nf) h = change-back i side reason p os ns op np nf h
  event-back (Unsupported kind) h = unsupported-back kind h

pub message-back : (m : L3Message) → MessageFits m →
    read_message (message_bytes m) ≡ cond (event_in_range m.event) (Ok m) (Err OutOfRange)
unfolding read_message message_of
message-back m fits =
    rw (
      event-back m.product_id m.sequence m.time_us m.event fits.event,
      product-back m fits,
      sequence-back m fits,
      time-back m fits,
    )

-- ---- snapshots

-- the bytes of one order
abbrev order_bytes : SnapshotOrder → List ℕ
order_bytes o = order_id_bytes o.order_id ++ (amount_bytes o.price ++ amount_bytes o.size)

length-order : (o : SnapshotOrder) → length (order_bytes o) ≡ 32
unfolding big_bytes little_bytes
length-order o = refl

orders_cons : (o : SnapshotOrder) (os : List SnapshotOrder) → orders_bytes (o ∷ os) ≡ order_bytes o ++ orders_bytes os
unfolding big_bytes little_bytes
orders_cons o os = refl

length-orders : (os : List SnapshotOrder) → length (orders_bytes os) ≡ 32 * length os
length-orders [] = refl
length-orders (o ∷ os) =
    ap length (orders_cons o os) ∙
    length-append (order_bytes o) (orders_bytes os) ∙
    omega (arith, length-order o, length-orders os)

module _ (h t : List ℕ) (n : ℕ) (o : SnapshotOrder) (e : length h ≡ n) where
  -- the order's bytes, at place n
  abbrev at : List ℕ
  at = h ++ (order_bytes o ++ t)

  past : (i k : ℕ) → part at (n + i) k ≡ part (order_bytes o ++ t) i k
  unfolding part
  past i k = rw (← e, drop-append-add h (order_bytes o ++ t) i)

  high_at : part at n 8 ≡ big_bytes 8 o.order_id.high
  unfolding part big_bytes little_bytes
  high_at = rw (drop_at h (order_bytes o ++ t) n e)

  low_at : part at (n + 8) 8 ≡ big_bytes 8 o.order_id.low
  unfolding part big_bytes little_bytes
  low_at = past 8 8

  price_at : part at (n + 16) 8 ≡ amount_bytes o.price
  unfolding part big_bytes little_bytes
  price_at = past 16 8

  size_at : part at (n + 24) 8 ≡ amount_bytes o.size
  unfolding part big_bytes little_bytes
  size_at = past 24 8

  order_from-order : Id o.order_id → Amount o.price → Amount o.size → order_from at n ≡ o
  unfolding order_from order_id_at amount_at word_at
  order_from-order i p q =
      rw (
        high_at,
        low_at,
        price_at,
        size_at,
        big-back 8 o.order_id.high i.0,
        big-back 8 o.order_id.low i.1,
        amount-back o.price p,
        amount-back o.size q,
      )

  at_long : n + 32 ≤ length at
  at_long =
      omega
      (arith, e, length-append h (order_bytes o ++ t), length-append (order_bytes o) t, length-order o)

module _ (h t : List ℕ) (o : SnapshotOrder) (os : List SnapshotOrder) where
  one_off : h ++ (orders_bytes (o ∷ os) ++ t) ≡ h ++ (order_bytes o ++ (orders_bytes os ++ t))
  one_off =
      ap (λ l. h ++ (l ++ t)) (orders_cons o os) ∙ ap (λ l. h ++ l) (append_assoc (order_bytes o) (orders_bytes os) t)

  moved : h ++ (orders_bytes (o ∷ os) ++ t) ≡ (h ++ order_bytes o) ++ (orders_bytes os ++ t)
  moved = one_off ∙ sym (append_assoc h (order_bytes o) (orders_bytes os ++ t))

order-back : (h t : List ℕ) (place : ℕ) (o : SnapshotOrder) → length h ≡ 41 + 32 * place →
    Id o.order_id → Amount o.price → Amount o.size → order_at (h ++ (order_bytes o ++ t)) place ≡ o
unfolding order_at
order-back h t place o e i p q =
    rw (le-leb (41 + 32 * (place + 1)) (length (h ++ (order_bytes o ++ t))) (omega (arith, at_long h t (41 + 32 * place) o e)))
    (order_from-order h t (41 + 32 * place) o e i p q)

-- orders that stand from a place on are read there
pub orders-back : (h t : List ℕ) (place : ℕ) (os : List SnapshotOrder) → length h ≡ 41 + 32 * place → OrdersFit os →
    orders_from (h ++ (orders_bytes os ++ t)) place (length os) ≡ os
unfolding orders_from
orders-back h t place [] e fits = refl
orders-back h t place (o ∷ os) e fits =
    ap₂ (λ x l. x ∷ l)
    (ap (λ l. order_at l place) (one_off h t o os) ∙
    order-back h (orders_bytes os ++ t) place o e fits.0 fits.1 fits.2)
    (ap (λ l. orders_from l (place + 1) (length os)) (moved h t o os) ∙
    orders-back (h ++ order_bytes o) t (place + 1) os
    (omega (arith, e, length-append h (order_bytes o), length-order o))
    fits.3)

orders_append : (a b : List SnapshotOrder) → orders_bytes (a ++ b) ≡ orders_bytes a ++ orders_bytes b
orders_append [] b = refl
orders_append (o ∷ a) b =
    orders_cons o (a ++ b) ∙
    ap (λ l. order_bytes o ++ l) (orders_append a b) ∙
    sym (append_assoc (order_bytes o) (orders_bytes a) (orders_bytes b)) ∙
    ap (λ l. l ++ orders_bytes b) (sym (orders_cons o a))

fit_both : (a b : List SnapshotOrder) → OrdersFit (a ++ b) → OrdersFit a × OrdersFit b
fit_both [] b h = (tt, h)
fit_both (o ∷ a) b h = let t = fit_both a b h.3 in ((h.0, h.1, h.2, t.0), t.1)

module _ (v : Snapshot) (fits : SnapshotFits v) where
  -- all but the orders
  abbrev head : List ℕ
  head =
      0 ∷
      product_id_bytes v.product_id ++
      (little_bytes 8 v.sequence ++
      (little_bytes 8 0 ++ (little_bytes 4 (length v.bids) ++ little_bytes 4 (length v.asks))))

  headed : snapshot_bytes v ≡ head ++ orders_bytes (v.bids ++ v.asks)
  unfolding big_bytes little_bytes
  headed = refl

  head-length : length head ≡ 41
  unfolding big_bytes little_bytes
  head-length = refl

  bids-back : bids_at (snapshot_bytes v) ≡ length v.bids
  unfolding bids_at part big_bytes little_bytes
  bids-back = little-back 4 (length v.bids) fits.bids

  asks_back : asks_at (snapshot_bytes v) ≡ length v.asks
  unfolding asks_at part big_bytes little_bytes
  asks_back = little-back 4 (length v.asks) fits.asks

  snapshot-product-back : product_id_at (snapshot_bytes v) 1 ≡ v.product_id
  unfolding product_id_at part big_bytes little_bytes
  snapshot-product-back = rw (big-back 8 v.product_id.high fits.product.0, big-back 8 v.product_id.low fits.product.1)

  snapshot-sequence-back : word_at (snapshot_bytes v) 17 ≡ v.sequence
  unfolding word_at part big_bytes little_bytes
  snapshot-sequence-back = little-back 8 v.sequence fits.sequence

  snapshot-time-back : word_at (snapshot_bytes v) 25 ≡ 0
  unfolding word_at part big_bytes little_bytes
  snapshot-time-back = little-back 8 0 (omega arith)

  snapshot-length : length (snapshot_bytes v) ≡ 41 + 32 * (length v.bids + length v.asks)
  snapshot-length =
      ap length headed ∙
      length-append head (orders_bytes (v.bids ++ v.asks)) ∙
      omega (arith, head-length, length-orders (v.bids ++ v.asks), length-append v.bids v.asks)

  shaped-back : snapshot_shaped (snapshot_bytes v) ≡ true
  unfolding snapshot_shaped
  shaped-back = rw (bids-back, asks_back, snapshot-time-back, eq-eqb _ _ snapshot-length)

  all_back : orders_from (snapshot_bytes v) 0 (length v.bids + length v.asks) ≡ v.bids ++ v.asks
  all_back =
      ap₂ (λ l n. orders_from l 0 n)
      (headed ∙ ap (λ l. head ++ l) (sym (append-nil (orders_bytes (v.bids ++ v.asks)))))
      (sym (length-append v.bids v.asks)) ∙
      orders-back head [] 0 (v.bids ++ v.asks) head-length fits.orders

  sides : snapshot_bytes v ≡ head ++ (orders_bytes v.bids ++ orders_bytes v.asks)
  sides = headed ∙ ap (λ l. head ++ l) (orders_append v.bids v.asks)

  pub bid-orders-back : orders_from (snapshot_bytes v) 0 (length v.bids) ≡ v.bids
  bid-orders-back =
      ap (λ l. orders_from l 0 (length v.bids)) sides ∙
      orders-back head (orders_bytes v.asks) 0 v.bids head-length (fit_both v.bids v.asks fits.orders).0

  pub ask-orders-back : orders_from (snapshot_bytes v) (length v.bids) (length v.asks) ≡ v.asks
  ask-orders-back =
      ap (λ l. orders_from l (length v.bids) (length v.asks))
      (sides ∙
      sym (append_assoc head (orders_bytes v.bids) (orders_bytes v.asks)) ∙
      ap (λ l. (head ++ orders_bytes v.bids) ++ l) (sym (append-nil (orders_bytes v.asks)))) ∙
      orders-back (head ++ orders_bytes v.bids) [] (length v.bids) v.asks
      (length-append head (orders_bytes v.bids) ∙ omega (arith, head-length, length-orders v.bids))
      (fit_both v.bids v.asks fits.orders).1

  -- what the reader answers of a snapshot in range
  abbrev pub header_of : L3Snapshot
  header_of =
      record {
        product_id = v.product_id;
        sequence = v.sequence;
        bids = length v.bids;
        asks = length v.asks;
      }

  pub snapshot-back : read_snapshot (snapshot_bytes v) ≡ cond (orders_in_range (v.bids ++ v.asks)) (Ok header_of) (Err OutOfRange)
  unfolding read_snapshot snapshot_of
  snapshot-back = rw (shaped-back, bids-back, asks_back, all_back, snapshot-product-back, snapshot-sequence-back)
