-- A message, a snapshot without its orders, and an order of one, as words; and what the readers answer.
use Rattle.std.specs.Prelude.{ℕ, List, [], ◌∷◌, Result, Ok, Err}
use Rattle.std.specs.Int.{w64}
use Rattle.std.proofs.Common.{of_z}
use Rattle.piece.specs.Encode.{kind_byte, side_byte, done_reason_byte, change_reason_byte, present_bit, optional_word}
use Rattle.message.specs.declared.L3Event.{L3Event}
use Rattle.message.specs.declared.L3Event.TheVariants.{Received, Open, Done, Match, Change, Unsupported}
use Rattle.message.specs.declared.L3Message.{L3Message}
use Rattle.message.specs.declared.L3Snapshot.{L3Snapshot}
use Rattle.message.specs.declared.SnapshotOrder.{SnapshotOrder}
use Rattle.message.specs.Told.{Told, told}
use Rattle.piece.specs.Piece.{piece_number}
use Rattle.piece.specs.declared.PieceError.{PieceError}

-- ---- A message: 21 words

abbrev pub message_words : ℕ
message_words = 21

-- the fields of an event in the Rust's order, sixteen words: an id as high and low, a side and a reason as their bytes, an amount as its bits, an
-- optional amount as 1 and its bits or as 0 and 0; 0 past the last field
abbrev pub event_words : L3Event → List ℕ
event_words (Received i side) = i.high ∷ i.low ∷ side_byte side ∷ 0 ∷ 0 ∷ 0 ∷ 0 ∷ 0 ∷ 0 ∷ 0 ∷ 0 ∷ 0 ∷ 0 ∷ 0 ∷ 0 ∷ 0 ∷ []
event_words (Open i side price remaining) =
    i.high ∷ i.low ∷ side_byte side ∷ of_z w64 price ∷ of_z w64 remaining ∷ 0 ∷ 0 ∷ 0 ∷ 0 ∷ 0 ∷ 0 ∷ 0 ∷ 0 ∷ 0 ∷ 0 ∷ 0 ∷ []
event_words (Done i side price reason remaining) =
    i.high ∷
    i.low ∷
    side_byte side ∷
    present_bit price ∷
    optional_word price ∷
    done_reason_byte reason ∷
    present_bit remaining ∷ optional_word remaining ∷ 0 ∷ 0 ∷ 0 ∷ 0 ∷ 0 ∷ 0 ∷ 0 ∷ 0 ∷ []
event_words (Match i j side price size) =
    i.high ∷
    i.low ∷ j.high ∷ j.low ∷ side_byte side ∷ of_z w64 price ∷ of_z w64 size ∷ 0 ∷ 0 ∷ 0 ∷ 0 ∷ 0 ∷ 0 ∷ 0 ∷ 0 ∷ 0 ∷ []
event_words (Change i side reason price old_size new_size old_price new_price new_funds) =
    i.high ∷
    i.low ∷
    side_byte side ∷
    change_reason_byte reason ∷
    present_bit price ∷
    optional_word price ∷
    present_bit old_size ∷
    optional_word old_size ∷
    present_bit new_size ∷
    optional_word new_size ∷
    present_bit old_price ∷
    optional_word old_price ∷
    present_bit new_price ∷ optional_word new_price ∷ present_bit new_funds ∷ optional_word new_funds ∷ []
event_words (Unsupported kind) = kind ∷ 0 ∷ 0 ∷ 0 ∷ 0 ∷ 0 ∷ 0 ∷ 0 ∷ 0 ∷ 0 ∷ 0 ∷ 0 ∷ 0 ∷ 0 ∷ 0 ∷ 0 ∷ []

abbrev pub message_list : L3Message → List ℕ
message_list m =
    kind_byte m.event ∷
    m.product_id.high ∷ m.product_id.low ∷ m.sequence ∷ m.time_us ∷ event_words m.event

-- ---- A snapshot without its orders: 5 words

abbrev pub snapshot_words : L3Snapshot → List ℕ
snapshot_words v = v.product_id.high ∷ v.product_id.low ∷ v.sequence ∷ v.bids ∷ v.asks ∷ []

-- ---- An order of a snapshot: 4 words

abbrev pub order_words : SnapshotOrder → List ℕ
order_words o = o.order_id.high ∷ o.order_id.low ∷ of_z w64 o.price ∷ of_z w64 o.size ∷ []

-- ---- The readers' answers: 4 or 5, or the value's words

abbrev pub read_message_told : Result L3Message PieceError → Told
read_message_told (Ok m) = told 0 (message_list m)
read_message_told (Err e) = told (piece_number e) []

abbrev pub read_snapshot_told : Result L3Snapshot PieceError → Told
read_snapshot_told (Ok v) = told 0 (snapshot_words v)
read_snapshot_told (Err e) = told (piece_number e) []
