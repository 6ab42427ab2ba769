-- What a piece is: the bytes of a message and of a snapshot. 01, "Rows and pieces". Nothing in the code encodes; the laws of proofs/RoundTrip.antt
-- hold the reader's definitions in Piece.antt against these.
use Rattle.std.specs.Prelude.{ℕ, ◌+◌, ◌*◌, ◌<◌, ◌^◌, List, [], ◌∷◌, ◌++◌, ℤ, length, Option, Some, None}
use Rattle.std.specs.Int.Signed.{mag}
use Rattle.std.specs.Int.{w64}
use Rattle.std.proofs.Common.{of_z}
use Rattle.piece.specs.Bytes.{little_bytes, big_bytes}
use Rattle.message.specs.declared.L3Side.{L3Side}
use Rattle.message.specs.declared.L3Side.TheVariants.{Buy, Sell}
use Rattle.message.specs.declared.DoneReason.{DoneReason}
use Rattle.message.specs.declared.DoneReason.TheVariants.{Filled, Canceled}
use Rattle.message.specs.declared.ChangeReason.{ChangeReason}
use Rattle.message.specs.declared.ChangeReason.TheVariants.{Stp, ModifyOrder}
use Rattle.message.specs.declared.OrderId.{OrderId}
use Rattle.message.specs.declared.ProductId.{ProductId}
use Rattle.message.specs.declared.L3Event.{L3Event}
use Rattle.message.specs.declared.L3Event.TheVariants.{Received, Open, Done, Match, Change, Unsupported}
use Rattle.message.specs.declared.L3Message.{L3Message}
use Rattle.message.specs.declared.SnapshotOrder.{SnapshotOrder}

-- ---- Fields

-- Ids are 16 bytes in text order; a product is any 16 bytes.
abbrev pub order_id_bytes : OrderId → List ℕ
order_id_bytes i = big_bytes 8 i.high ++ big_bytes 8 i.low

abbrev pub product_id_bytes : ProductId → List ℕ
product_id_bytes i = big_bytes 8 i.high ++ big_bytes 8 i.low

-- Amounts are two's complement.
abbrev pub amount_bytes : ℤ → List ℕ
amount_bytes a = little_bytes 8 (of_z w64 a)

-- Absent amounts are eight zero bytes.
abbrev pub optional_word : Option ℤ → ℕ
optional_word None = 0
optional_word (Some a) = of_z w64 a

abbrev pub optional_bytes : Option ℤ → List ℕ
optional_bytes a = little_bytes 8 (optional_word a)

-- One presence byte, first optional field lowest bit, unused bits 0.
abbrev pub present_bit : Option ℤ → ℕ
present_bit None = 0
present_bit (Some a) = 1

abbrev pub presence : List (Option ℤ) → ℕ
presence [] = 0
presence (a ∷ later) = present_bit a + 2 * presence later

-- Side byte: 0 buy, 1 sell. Reason: 0 filled or stp, 1 canceled or modify_order.
abbrev pub side_byte : L3Side → ℕ
side_byte Buy = 0
side_byte Sell = 1

abbrev pub done_reason_byte : DoneReason → ℕ
done_reason_byte Filled = 0
done_reason_byte Canceled = 1

abbrev pub change_reason_byte : ChangeReason → ℕ
change_reason_byte Stp = 0
change_reason_byte ModifyOrder = 1

-- ---- Messages

-- Kind byte: 1 received, 2 open, 3 done, 4 match, 5 change, 6 unsupported.
abbrev pub kind_byte : L3Event → ℕ
kind_byte (Received order side) = 1
kind_byte (Open order side price remaining) = 2
kind_byte (Done order side price reason remaining) = 3
kind_byte (Match maker taker side price size) = 4
kind_byte (Change order side reason price old_size new_size old_price new_price new_funds) = 5
kind_byte (Unsupported kind) = 6

-- The Rust's fields in their order; the presence byte follows the reason.
abbrev pub field_bytes : L3Event → List ℕ
field_bytes (Received order side) = order_id_bytes order ++ (side_byte side ∷ [])
field_bytes (Open order side price remaining) =
    order_id_bytes order ++ (side_byte side ∷ amount_bytes price ++ amount_bytes remaining)
field_bytes (Done order side price reason remaining) =
    order_id_bytes order ++
    (side_byte side ∷
    optional_bytes price ++
    (done_reason_byte reason ∷ presence (price ∷ remaining ∷ []) ∷ optional_bytes remaining))
field_bytes (Match maker taker side price size) =
    order_id_bytes maker ++ (order_id_bytes taker ++ (side_byte side ∷ amount_bytes price ++ amount_bytes size))
field_bytes (Change order side reason price old_size new_size old_price new_price new_funds) =
    order_id_bytes order ++
    (side_byte side ∷
    change_reason_byte reason ∷
    presence (price ∷ old_size ∷ new_size ∷ old_price ∷ new_price ∷ new_funds ∷ []) ∷
    optional_bytes price ++
    (optional_bytes old_size ++
    (optional_bytes new_size ++ (optional_bytes old_price ++ (optional_bytes new_price ++ optional_bytes new_funds)))))
field_bytes (Unsupported kind) = little_bytes 4 kind

-- A piece: kind byte, product 16, sequence 8, time 8; then the Rust's fields.
abbrev pub message_bytes : L3Message → List ℕ
message_bytes m =
    kind_byte m.event ∷
    product_id_bytes m.product_id ++
    (little_bytes 8 m.sequence ++ (little_bytes 8 m.time_us ++ field_bytes m.event))

-- ---- Snapshots

-- the Rust's L3Snapshot
pub record Snapshot : Type 0 where
  pub product_id : ProductId
  pub sequence : ℕ
  pub bids : List SnapshotOrder
  pub asks : List SnapshotOrder

abbrev pub orders_bytes : List SnapshotOrder → List ℕ
orders_bytes [] = []
orders_bytes (o ∷ os) = order_id_bytes o.order_id ++ (amount_bytes o.price ++ (amount_bytes o.size ++ orders_bytes os))

-- Kind byte 0, time 0; counts of bids and asks (4 bytes each), then id, price, size an order.
abbrev pub snapshot_bytes : Snapshot → List ℕ
snapshot_bytes v =
    0 ∷
    product_id_bytes v.product_id ++
    (little_bytes 8 v.sequence ++
    (little_bytes 8 0 ++
    (little_bytes 4 (length v.bids) ++ (little_bytes 4 (length v.asks) ++ orders_bytes (v.bids ++ v.asks)))))

-- ---- Values in the domain: words of 64 bits, amounts of 64 bits with a sign, unsupported kinds of 32 bits

abbrev pub Word : ℕ → Type 0
Word n = n < 2 ^ 64

abbrev pub Id : OrderId → Type 0
Id i = Word i.high × Word i.low

-- mag z is z, or −(z + 1) where z is negative
abbrev pub Amount : ℤ → Type 0
Amount a = mag a < 2 ^ 63

abbrev pub Optional : Option ℤ → Type 0
Optional None = Unit {0}
Optional (Some a) = Amount a

abbrev pub EventFits : L3Event → Type 0
EventFits (Received order side) = Id order
EventFits (Open order side price remaining) = Id order × Amount price × Amount remaining
EventFits (Done order side price reason remaining) = Id order × Optional price × Optional remaining
EventFits (Match maker taker side price size) = Id maker × Id taker × Amount price × Amount size
EventFits (Change order side reason price old_size new_size old_price new_price new_funds) =
    Id order × Optional price × Optional old_size × Optional new_size × Optional old_price × Optional new_price × Optional new_funds
EventFits (Unsupported kind) = kind < 2 ^ 32

pub record MessageFits (m : L3Message) : Type 0 where
  pub product : Word m.product_id.high × Word m.product_id.low
  pub sequence : Word m.sequence
  pub time : Word m.time_us
  pub event : EventFits m.event

abbrev pub OrdersFit : List SnapshotOrder → Type 0
OrdersFit [] = Unit {0}
OrdersFit (o ∷ os) = Id o.order_id × Amount o.price × Amount o.size × OrdersFit os

pub record SnapshotFits (v : Snapshot) : Type 0 where
  pub product : Word v.product_id.high × Word v.product_id.low
  pub sequence : Word v.sequence
  pub bids : length v.bids < 2 ^ 32
  pub asks : length v.asks < 2 ^ 32
  pub orders : OrdersFit (v.bids ++ v.asks)
