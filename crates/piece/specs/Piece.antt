-- What reading a piece finds. 01, "Rows and pieces", and numbers 4 and 5 of its table.
use Rattle.std.specs.Prelude.{ℕ, zero, suc, ◌+◌, ◌*◌, ◌/◌, ◌%◌, Bool, cond, ◌&&◌, ◌||◌, List, [], ◌∷◌, eqb, leb, ℤ, pos, length, get_or, Option, Some, None, Result, Ok, Err}
use Rattle.std.specs.Int.{w64}
use Rattle.std.proofs.Common.{to_z}
use Rattle.piece.specs.Bytes.{part, little, big}
use Rattle.message.specs.Values.{event_in_range, orders_in_range}
use Rattle.message.specs.declared.L3Side.{L3Side}
use Rattle.message.specs.declared.L3Side.TheVariants.{Buy, Sell}
use Rattle.message.specs.declared.DoneReason.{DoneReason}
use Rattle.message.specs.declared.DoneReason.TheVariants.{Filled, Canceled}
use Rattle.message.specs.declared.ChangeReason.{ChangeReason}
use Rattle.message.specs.declared.ChangeReason.TheVariants.{Stp, ModifyOrder}
use Rattle.message.specs.declared.OrderId.{OrderId}
use Rattle.message.specs.declared.ProductId.{ProductId}
use Rattle.message.specs.declared.ChangeFields.{ChangeFields}
use Rattle.message.specs.declared.L3Event.{L3Event}
use Rattle.message.specs.declared.L3Event.TheVariants.{Received, Open, Done, Match, Change, Unsupported}
use Rattle.message.specs.declared.SnapshotOrder.{SnapshotOrder}
use Rattle.piece.specs.declared.PieceError.{PieceError}
use Rattle.piece.specs.declared.PieceError.TheVariants.{NotAPiece, OutOfRange}
use Rattle.message.specs.declared.L3Message.{L3Message}
use Rattle.message.specs.declared.L3Snapshot.{L3Snapshot}

-- The numbers of 01's table.
abbrev pub piece_number : PieceError → ℕ
piece_number NotAPiece = 4
piece_number OutOfRange = 5

-- ---- Fields

-- an unsigned 64-bit integer
unfoldable pub word_at : List ℕ → ℕ → ℕ
word_at s i = little (part s i 8)

-- an amount, two's complement
unfoldable pub amount_at : List ℕ → ℕ → ℤ
amount_at s i = to_z w64 (word_at s i)

unfoldable pub order_id_at : List ℕ → ℕ → OrderId
order_id_at s i = record { high = big (part s i 8); low = big (part s (i + 8) 8) }

unfoldable pub product_id_at : List ℕ → ℕ → ProductId
product_id_at s i = record { high = big (part s i 8); low = big (part s (i + 8) 8) }

-- Side byte: 0 buy, 1 sell.
unfoldable pub side_of : ℕ → L3Side
side_of b = cond (eqb b 0) Buy Sell

-- Reason: 0 filled or stp, 1 canceled or modify_order.
unfoldable pub done_reason_of : ℕ → DoneReason
done_reason_of b = cond (eqb b 0) Filled Canceled

unfoldable pub change_reason_of : ℕ → ChangeReason
change_reason_of b = cond (eqb b 0) Stp ModifyOrder

-- the presence byte's bit of that weight: first optional field lowest
unfoldable pub has_bit : ℕ → ℕ → Bool
has_bit b weight = eqb (b / weight % 2) 1

unfoldable pub optional_at : List ℕ → Bool → ℕ → Option ℤ
optional_at s present i = cond present (Some (amount_at s i)) None

-- Absent amounts are eight zero bytes.
unfoldable pub zero_unless : List ℕ → Bool → ℕ → Bool
zero_unless s present i = present || eqb (word_at s i) 0

-- ---- Messages: kind byte, product 16, sequence 8, time 8, then the Rust's fields in their order, from place 33 on

unfoldable pub event_if : Bool → L3Event → Option L3Event
event_if shaped e = cond shaped (Some e) None

unfoldable pub read_received : List ℕ → Option L3Event
read_received s = event_if (eqb (length s) 50 && leb (get_or s 49 0) 1) (Received (order_id_at s 33) (side_of (get_or s 49 0)))

unfoldable pub read_open : List ℕ → Option L3Event
read_open s =
    event_if (eqb (length s) 66 && leb (get_or s 49 0) 1)
    (Open (order_id_at s 33) (side_of (get_or s 49 0)) (amount_at s 50) (amount_at s 58))

-- The presence byte follows the reason, after the price that it governs; unused bits 0.
unfoldable pub done_shaped : List ℕ → Bool
done_shaped s =
    (((leb (get_or s 49 0) 1 && leb (get_or s 58 0) 1) && leb (get_or s 59 0) 3) &&
    zero_unless s (has_bit (get_or s 59 0) 1) 50) &&
    zero_unless s (has_bit (get_or s 59 0) 2) 60

unfoldable pub read_done : List ℕ → Option L3Event
read_done s =
    event_if (eqb (length s) 68 && done_shaped s)
    (Done (order_id_at s 33)
    (side_of (get_or s 49 0))
    (optional_at s (has_bit (get_or s 59 0) 1) 50)
    (done_reason_of (get_or s 58 0))
    (optional_at s (has_bit (get_or s 59 0) 2) 60))

unfoldable pub read_match : List ℕ → Option L3Event
read_match s =
    event_if (eqb (length s) 82 && leb (get_or s 65 0) 1)
    (Match (order_id_at s 33) (order_id_at s 49) (side_of (get_or s 65 0)) (amount_at s 66) (amount_at s 74))

unfoldable pub change_shaped : List ℕ → Bool
change_shaped s =
    (((((((leb (get_or s 49 0) 1 && leb (get_or s 50 0) 1) && leb (get_or s 51 0) 63) &&
    zero_unless s (has_bit (get_or s 51 0) 1) 52) &&
    zero_unless s (has_bit (get_or s 51 0) 2) 60) &&
    zero_unless s (has_bit (get_or s 51 0) 4) 68) &&
    zero_unless s (has_bit (get_or s 51 0) 8) 76) &&
    zero_unless s (has_bit (get_or s 51 0) 16) 84) &&
    zero_unless s (has_bit (get_or s 51 0) 32) 92

unfoldable pub change_fields_at : List ℕ → ChangeFields
change_fields_at s =
    record {
      price = optional_at s (has_bit (get_or s 51 0) 1) 52;
      old_size = optional_at s (has_bit (get_or s 51 0) 2) 60;
      new_size = optional_at s (has_bit (get_or s 51 0) 4) 68;
      old_price = optional_at s (has_bit (get_or s 51 0) 8) 76;
      new_price = optional_at s (has_bit (get_or s 51 0) 16) 84;
      new_funds = optional_at s (has_bit (get_or s 51 0) 32) 92;
    }

unfoldable pub change_of : OrderId → L3Side → ChangeReason → ChangeFields → L3Event
change_of id side reason f =
    Change id side reason f.price f.old_size f.new_size f.old_price f.new_price f.new_funds

unfoldable pub read_change : List ℕ → Option L3Event
read_change s =
    event_if (eqb (length s) 100 && change_shaped s)
    (change_of (order_id_at s 33) (side_of (get_or s 49 0)) (change_reason_of (get_or s 50 0)) (change_fields_at s))

unfoldable pub read_unsupported : List ℕ → Option L3Event
read_unsupported s = event_if (eqb (length s) 37) (Unsupported (little (part s 33 4)))

-- Kind byte: 1 received, 2 open, 3 done, 4 match, 5 change, 6 unsupported. No other number is a message's kind, 0 (snapshot) included.
unfoldable pub read_event : List ℕ → Option L3Event
read_event s =
    cond (eqb (get_or s 0 0) 1) (read_received s)
    (cond (eqb (get_or s 0 0) 2) (read_open s)
    (cond (eqb (get_or s 0 0) 3) (read_done s)
    (cond (eqb (get_or s 0 0) 4) (read_match s)
    (cond (eqb (get_or s 0 0) 5) (read_change s)
    (cond (eqb (get_or s 0 0) 6) (read_unsupported s) None)))))

-- 4 where the bytes are no piece, then 5 where a present amount is out of range.
unfoldable pub message_of : List ℕ → Option L3Event → Result L3Message PieceError
message_of s None = Err NotAPiece
message_of s (Some e) =
    cond (event_in_range e)
    (Ok
    (record { product_id = product_id_at s 1; sequence = word_at s 17; time_us = word_at s 25; event = e }))
    (Err OutOfRange)

unfoldable pub read_message : List ℕ → Result L3Message PieceError
read_message s = message_of s (read_event s)

-- ---- Snapshots: kind byte 0, product 16, sequence 8, time 8 (0 in a snapshot), counts of bids and asks (4 bytes each), then id, price, size an order

unfoldable pub bids_at : List ℕ → ℕ
bids_at s = little (part s 33 4)

unfoldable pub asks_at : List ℕ → ℕ
asks_at s = little (part s 37 4)

-- Length 41 + 32 per order.
unfoldable pub snapshot_shaped : List ℕ → Bool
snapshot_shaped s =
    (eqb (length s) (41 + 32 * (bids_at s + asks_at s)) && eqb (get_or s 0 0) 0) && eqb (word_at s 25) 0

unfoldable pub order_from : List ℕ → ℕ → SnapshotOrder
order_from s i = record { order_id = order_id_at s i; price = amount_at s (i + 16); size = amount_at s (i + 24) }

-- what stands for an order at a place that the bytes do not reach
unfoldable pub no_order : SnapshotOrder
no_order = record { order_id = record { high = 0; low = 0 }; price = pos 0; size = pos 0 }

-- the order at a place, counted from 0 through the bids and then the asks
unfoldable pub order_at : List ℕ → ℕ → SnapshotOrder
order_at s place = cond (leb (41 + 32 * (place + 1)) (length s)) (order_from s (41 + 32 * place)) no_order

-- k orders from a place on
unfoldable pub orders_from : List ℕ → ℕ → ℕ → List SnapshotOrder
orders_from s place zero = []
orders_from s place (suc k) = order_at s place ∷ orders_from s (place + 1) k

unfoldable pub snapshot_of : List ℕ → Result L3Snapshot PieceError
snapshot_of s =
    cond (orders_in_range (orders_from s 0 (bids_at s + asks_at s)))
    (Ok (record { product_id = product_id_at s 1; sequence = word_at s 17; bids = bids_at s; asks = asks_at s }))
    (Err OutOfRange)

-- For `bootstrap`, a kind that is not 0 is 4.
unfoldable pub read_snapshot : List ℕ → Result L3Snapshot PieceError
read_snapshot s = cond (snapshot_shaped s) (snapshot_of s) (Err NotAPiece)
