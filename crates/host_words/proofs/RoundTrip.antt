-- Decoding undoes encoding: a state from its block, and a message from its words, whatever stands behind them.
-- Assumes nothing.
use Rattle.std.specs.Prelude.{Option, Some, None, ℤ}
use Prim.Native.Nat.{ℕ, zero, suc, ◌+◌, ◌≤◌}
use native.Mathlib.Omega.{arith}
use native.Mathlib.Numerals.{add-one}
use native.Mathlib.Nat.{mod-eq_of_lt}
use mathlib.Core.Path.{◌≡◌, refl, ap}
use mathlib.Core.Bool.{Bool, true, false}
use mathlib.Core.List.{List, [], ◌∷◌, ◌++◌}
use lib.ListN.{length, get_or, take, drop}
use lib.Seq.{drop-cons}
use Rattle.message.specs.declared.L3Side.{L3Side}
use Rattle.message.specs.declared.L3Side.TheVariants.{Buy, Sell}
use Rattle.message.specs.declared.DoneReason.{DoneReason}
use Rattle.message.specs.declared.DoneReason.TheVariants.{Filled, Canceled}
use Rattle.message.specs.declared.ChangeReason.{ChangeReason}
use Rattle.message.specs.declared.ChangeReason.TheVariants.{Stp, ModifyOrder}
use Rattle.message.specs.declared.L3Event.{L3Event}
use Rattle.message.specs.declared.L3Event.TheVariants.{Received, Open, Done, Match, Change, Unsupported}
use Rattle.message.specs.declared.L3Message.{L3Message}
use Rattle.piece.specs.Piece.{side_of, done_reason_of, change_reason_of}
use Rattle.piece.specs.Encode.{kind_byte, side_byte, done_reason_byte, change_reason_byte, present_bit, optional_word, Optional, EventFits, MessageFits}
use Rattle.reconstructor_answers.specs.declared.MalformedReason.TheVariants.{Funds, NoSize}
use Rattle.reconstructor_answers.specs.declared.Discrepancy.TheVariants.{UnknownMaker, TakerResting, MatchMismatch, MatchExceedsRemaining, DuplicateOpen, MissingMatch, RemainingMismatch, DoneMismatch, MalformedChange, ChangeMismatch, UnsupportedModification, CrossedAfterApply, InvalidValue, CapacityExceeded, UnsupportedInput}
use Rattle.reconstructor_answers.specs.declared.InvalidationKind.{InvalidationKind}
use Rattle.reconstructor_answers.specs.declared.InvalidationKind.TheVariants.{Gap, OutOfOrderOrDuplicate, SequenceOverflow, Discrepancy}
use Rattle.reconstructor_state.specs.declared.Status.{Status}
use Rattle.reconstructor_state.specs.declared.Status.TheVariants.{Empty, Valid, Invalidated}
use Rattle.reconstructor_counts.specs.declared.MessageCounts.{MessageCounts}
use Rattle.reconstructor_state.specs.declared.BookReconstructor.{BookReconstructor}
use Rattle.host_words.specs.declared.KindWords.{KindWords}
use Rattle.host_words.specs.declared.StatusWords.{StatusWords}
use Rattle.piece.specs.Words.{event_words, message_list}
use Rattle.host_words.specs.Block.{reason_of, discrepancy_of, kind_of, status_of, book_of, kind_words, status_words, restored, optional_of, received_of, open_of, done_of, match_of, change_of, event_of, message_of}
use Rattle.message.proofs.Signed.{back}

-- ---- a state

abbrev kind_from : KindWords → InvalidationKind
kind_from w = kind_of w.number w.first w.second w.detail

kind-back : (k : InvalidationKind) → kind_from (kind_words k) ≡ k
unfolding kind_of discrepancy_of reason_of
kind-back (Gap expected got) = refl
kind-back (OutOfOrderOrDuplicate last got) = refl
kind-back SequenceOverflow = refl
kind-back (Discrepancy UnknownMaker) = refl
kind-back (Discrepancy TakerResting) = refl
kind-back (Discrepancy MatchMismatch) = refl
kind-back (Discrepancy MatchExceedsRemaining) = refl
kind-back (Discrepancy DuplicateOpen) = refl
kind-back (Discrepancy MissingMatch) = refl
kind-back (Discrepancy RemainingMismatch) = refl
kind-back (Discrepancy DoneMismatch) = refl
kind-back (Discrepancy (MalformedChange Funds)) = refl
kind-back (Discrepancy (MalformedChange NoSize)) = refl
kind-back (Discrepancy ChangeMismatch) = refl
kind-back (Discrepancy UnsupportedModification) = refl
kind-back (Discrepancy CrossedAfterApply) = refl
kind-back (Discrepancy InvalidValue) = refl
kind-back (Discrepancy CapacityExceeded) = refl
kind-back (Discrepancy UnsupportedInput) = refl

abbrev status_from : StatusWords → Status
status_from w = status_of w.status w.last w.offending (kind_from w.kind)

status-back : (s : Status) → status_from (status_words s) ≡ s
unfolding status_of
status-back Empty = refl
status-back (Valid last) = refl
status-back (Invalidated i) =
    ap (λ k. Invalidated (record { last_good_seq = i.last_good_seq; first_offending_seq = i.first_offending_seq; kind = k })) (kind-back i.kind)

-- words of a list from place i on
abbrev pub each : List ℕ → ℕ → ℕ → List ℕ
each ws i zero = []
each ws i (suc k) = get_or ws i 0 ∷ each ws (i + 1) k

pub part : (ws : List ℕ) (i k : ℕ) → i + k ≤ length ws → take k (drop i ws) ≡ each ws i k
part ws i zero h = refl
part ws i (suc k) h =
    rw (drop-cons ws i 0 (omega arith), ← add-one i) (ap (λ l. get_or ws i 0 ∷ l) (part ws (i + 1) k (omega arith)))

-- the state with another status, rows, segments and counts: what a call may change
abbrev pub changed : BookReconstructor → Status → ℕ → ℕ → MessageCounts → BookReconstructor
changed b s n g k =
    record { product_id = b.product_id; rules = b.rules; number = b.number; status = s; rows = n; segments = g; counts = k }

-- what is left of a block is the state afterwards, where a status that is not set is the one there was
pub block_back : (st : List ℕ) (sets : Bool) (s : Status) (n g : ℕ) (k : MessageCounts) → 27 ≤ length st → (sets ≡ false → s ≡ (book_of st).status)
    → book_of (restored st sets (changed (book_of st) s n g k)) ≡ changed (book_of st) s n g k
unfolding book_of restored
block_back st true s n g k long h = rw (part st 0 6 (omega arith), status-back s)
block_back st false s n g k long h = rw (part st 0 6 (omega arith), part st 6 7 (omega arith), h refl)

-- ---- a message

side-back : (s : L3Side) → side_of (side_byte s) ≡ s
unfolding side_of
side-back Buy = refl
side-back Sell = refl

done_reason-back : (r : DoneReason) → done_reason_of (done_reason_byte r) ≡ r
unfolding done_reason_of
done_reason-back Filled = refl
done_reason-back Canceled = refl

change_reason-back : (r : ChangeReason) → change_reason_of (change_reason_byte r) ≡ r
unfolding change_reason_of
change_reason-back Stp = refl
change_reason-back ModifyOrder = refl

optional-back : (a : Option ℤ) → Optional a → optional_of (present_bit a) (optional_word a) ≡ a
unfolding optional_of
optional-back None h = refl
optional-back (Some z) h = ap Some (back z h)

event-back : (a b c d : ℕ) (e : L3Event) (rest : List ℕ) → EventFits e → event_of (kind_byte e ∷ a ∷ b ∷ c ∷ d ∷ (event_words e ++ rest)) ≡ e
unfolding event_of received_of open_of done_of match_of change_of
event-back a b c d (Received i side) rest h = rw (side-back side)
event-back a b c d (Open i side p r) rest h = rw (side-back side, back p h.1, back r h.2)
event-back a b c d (Done i side p reason r) rest h =
    rw (side-back side, optional-back p h.1, done_reason-back reason, optional-back r h.2)
event-back a b c d (Match i j side p q) rest h = rw (side-back side, back p h.2, back q h.3)
event-back a b c d (Change i side reason p os ns op np nf) rest h =
    rw (
      side-back side,
      change_reason-back reason,
      optional-back p h.1,
      optional-back os h.2,
      optional-back ns h.3,
      optional-back op h.4,
      optional-back np h.5,
      optional-back nf h.6,
    )
event-back a b c d (Unsupported kind) rest h = ap Unsupported (mod-eq_of_lt h)

pub message-back : (m : L3Message) (rest : List ℕ) → MessageFits m → message_of (message_list m ++ rest) ≡ m
unfolding message_of
message-back m rest fits =
    rw (event-back m.product_id.high m.product_id.low m.sequence m.time_us m.event rest fits.event)
