-- A state and a message from words, and a state as words. Any words are read as some state and some message; a kind, side, reason, presence, status or number that none has is
-- turned away before (crate `host_boundary`).
use Rattle.std.specs.Prelude.{ℕ, ◌%◌, List, [], ◌∷◌, ◌++◌, Bool, true, false, cond, eqb, get_or, set, take, drop, Option, Some, None, ℤ, Result, Ok, Err}
use Rattle.std.specs.Int.{w64}
use Rattle.std.proofs.Common.{to_z}
use Rattle.message.specs.declared.OrderId.{OrderId}
use Rattle.message.specs.declared.L3Event.{L3Event}
use Rattle.message.specs.declared.L3Event.TheVariants.{Received, Open, Done, Match, Change, Unsupported}
use Rattle.message.specs.declared.L3Message.{L3Message}
use Rattle.piece.specs.Piece.{side_of, done_reason_of, change_reason_of}
use Rattle.reconstructor_state.specs.declared.SizeDecrease.{SizeDecrease}
use Rattle.reconstructor_state.specs.declared.SizeDecrease.TheVariants.{KeepsPriority, PriorityUnknown}
use Rattle.reconstructor_state.specs.declared.VenueRules.{VenueRules}
use Rattle.reconstructor_answers.specs.declared.MalformedReason.{MalformedReason}
use Rattle.reconstructor_answers.specs.declared.MalformedReason.TheVariants.{Funds, NoSize}
use Rattle.reconstructor_answers.specs.declared.Discrepancy.{Discrepancy}
use Rattle.reconstructor_answers.specs.declared.Discrepancy.TheVariants.{UnknownMaker, TakerResting, MatchMismatch, MatchExceedsRemaining, DuplicateOpen, MissingMatch, RemainingMismatch, DoneMismatch, MalformedChange, ChangeMismatch, UnsupportedModification, CrossedAfterApply, InvalidValue, CapacityExceeded, UnsupportedInput}
use Rattle.reconstructor_answers.specs.declared.InvalidationKind.{InvalidationKind}
use Rattle.reconstructor_answers.specs.declared.InvalidationKind.TheVariants as kinds
use Rattle.reconstructor_state.specs.declared.Status.{Status}
use Rattle.reconstructor_state.specs.declared.Status.TheVariants.{Empty, Valid, Invalidated}
use Rattle.reconstructor_counts.specs.declared.MessageCounts.{MessageCounts}
use Rattle.reconstructor_counts.specs.Counts.{saturated}
use Rattle.reconstructor_state.specs.declared.BookReconstructor.{BookReconstructor}
use Rattle.reconstructor_answers.specs.declared.Applied.{Applied}
use Rattle.reconstructor_answers.specs.declared.ApplyError.{ApplyError}
use Rattle.reconstructor_answers.specs.declared.ApplyError.TheVariants as refusals
use Rattle.reconstructor_answers.specs.Numbers.{kind_number, kind_first, kind_second, kind_detail}
use Rattle.host_words.specs.declared.KindWords.{KindWords}
use Rattle.host_words.specs.declared.StatusWords.{StatusWords}

-- ---- The state: 27 words
--   0, 1      product, high and low
--   2         size_decrease: 0 KeepsPriority, 1 PriorityUnknown
--   3, 4      max_orders, max_levels
--   5         the reconstructor's number
--   6         status: 0 no snapshot yet, 1 valid, 2 invalid
--   7         the last sequence of a valid book, last_good_seq of an invalid one, else 0
--   8         first_offending_seq of an invalid book, else 0
--   9         of an invalid book the number of its reason, 20 to 22 or 30 to 44, else 0
--   10, 11    of 20 the expected sequence and the one that came, of 21 the last one and the one that came, else 0
--   12        of 38 the reason: 1 funds, 0 no size; of any other 0
--   13, 14    rows and segment records in use
--   15 to 26  the counts: received, open, done, matched, stp_decrease, off_book_done, off_book_change, noop_change, handshake_dropped,
--             skipped_while_invalid, wrong_product, rejected_snapshots

abbrev pub state_words : ℕ
state_words = 27

unfoldable pub size_decrease_of : ℕ → SizeDecrease
size_decrease_of w = cond (eqb w 0) KeepsPriority PriorityUnknown

unfoldable pub reason_of : ℕ → MalformedReason
reason_of w = cond (eqb w 0) NoSize Funds

unfoldable pub discrepancy_of : ℕ → ℕ → Discrepancy
discrepancy_of k detail =
    cond (eqb k 30) UnknownMaker
    (cond (eqb k 31) TakerResting
    (cond (eqb k 32) MatchMismatch
    (cond (eqb k 33) MatchExceedsRemaining
    (cond (eqb k 34) DuplicateOpen
    (cond (eqb k 35) MissingMatch
    (cond (eqb k 36) RemainingMismatch
    (cond (eqb k 37) DoneMismatch
    (cond (eqb k 38) (MalformedChange (reason_of detail))
    (cond (eqb k 39) ChangeMismatch
    (cond (eqb k 40) UnsupportedModification
    (cond (eqb k 41) CrossedAfterApply
    (cond (eqb k 42) InvalidValue (cond (eqb k 43) CapacityExceeded UnsupportedInput)))))))))))))

unfoldable pub kind_of : ℕ → ℕ → ℕ → ℕ → InvalidationKind
kind_of k first second detail =
    cond (eqb k 20) (kinds.Gap first second)
    (cond (eqb k 21) (kinds.OutOfOrderOrDuplicate first second)
    (cond (eqb k 22) kinds.SequenceOverflow (kinds.Discrepancy (discrepancy_of k detail))))

unfoldable pub status_of : ℕ → ℕ → ℕ → InvalidationKind → Status
status_of w last seq kind =
    cond (eqb w 0) Empty
    (cond (eqb w 1) (Valid last) (Invalidated (record { last_good_seq = last; first_offending_seq = seq; kind = kind })))

abbrev pub rules_of : List ℕ → VenueRules
rules_of ws = record { size_decrease = size_decrease_of (get_or ws 2 0); max_orders = get_or ws 3 0; max_levels = get_or ws 4 0 }

abbrev pub counts_of : List ℕ → MessageCounts
counts_of ws =
    record {
      received = get_or ws 15 0;
      «open» = get_or ws 16 0;
      done = get_or ws 17 0;
      matched = get_or ws 18 0;
      stp_decrease = get_or ws 19 0;
      off_book_done = get_or ws 20 0;
      off_book_change = get_or ws 21 0;
      noop_change = get_or ws 22 0;
      handshake_dropped = get_or ws 23 0;
      skipped_while_invalid = get_or ws 24 0;
      wrong_product = get_or ws 25 0;
      rejected_snapshots = get_or ws 26 0;
    }

-- the state that the words are
unfoldable pub book_of : List ℕ → BookReconstructor
book_of ws =
    record {
      product_id = record { high = get_or ws 0 0; low = get_or ws 1 0 };
      rules = rules_of ws;
      number = get_or ws 5 0;
      status =
          status_of (get_or ws 6 0) (get_or ws 7 0) (get_or ws 8 0) (kind_of (get_or ws 9 0) (get_or ws 10 0) (get_or ws 11 0) (get_or ws 12 0));
      rows = get_or ws 13 0;
      segments = get_or ws 14 0;
      counts = counts_of ws;
    }

-- the words of a reason and of a status
abbrev pub kind_words : InvalidationKind → KindWords
kind_words k = record { number = kind_number k; first = kind_first k; second = kind_second k; detail = kind_detail k }

abbrev pub no_kind : KindWords
no_kind = record { number = 0; first = 0; second = 0; detail = 0 }

abbrev pub status_words : Status → StatusWords
status_words Empty = record { status = 0; last = 0; offending = 0; kind = no_kind }
status_words (Valid last) = record { status = 1; last = last; offending = 0; kind = no_kind }
status_words (Invalidated i) =
    record { status = 2; last = i.last_good_seq; offending = i.first_offending_seq; kind = kind_words i.kind }

-- words 6 to 12
abbrev pub status_list : Status → List ℕ
status_list s =
    (status_words s).status ∷
    (status_words s).last ∷
    (status_words s).offending ∷
    (status_words s).kind.number ∷ (status_words s).kind.first ∷ (status_words s).kind.second ∷ (status_words s).kind.detail ∷ []

-- what a call leaves of them, `sets` saying whether it sets the status: a refusal leaves them as they are
abbrev pub status_after : List ℕ → Bool → Status → List ℕ
status_after st sets s = cond sets (status_list s) (take 7 (drop 6 st))

-- words 13 to 26
abbrev pub rest_list : BookReconstructor → List ℕ
rest_list b =
    b.rows ∷
    b.segments ∷
    b.counts.received ∷
    b.counts.«open» ∷
    b.counts.done ∷
    b.counts.matched ∷
    b.counts.stp_decrease ∷
    b.counts.off_book_done ∷
    b.counts.off_book_change ∷
    b.counts.noop_change ∷
    b.counts.handshake_dropped ∷
    b.counts.skipped_while_invalid ∷ b.counts.wrong_product ∷ b.counts.rejected_snapshots ∷ []

-- what a call leaves of a block: words 0 to 5 and those past 26 stay; 13 to 26 are those of the state afterwards
unfoldable pub restored : List ℕ → Bool → BookReconstructor → List ℕ
restored st sets b = take 6 st ++ status_after st sets b.status ++ rest_list b ++ drop state_words st

-- ---- A message: 21 words, as `message_list` of crate `piece` gives them
--   0         kind: 1 received, 2 open, 3 done, 4 match, 5 change, 6 unsupported
--   1, 2      product, high and low
--   3, 4      sequence, time_us
-- and from 5 on, an id being two words (high and low), an optional amount two (1 and its bits, or 0 and a word that does not matter), a side and a
-- reason one (0 or 1):
--   received     id 5, side 7
--   open         id 5, side 7, price 8, remaining 9
--   done         id 5, side 7, optional price 8, reason 10, optional remaining 11
--   match        maker id 5, taker id 7, side 9, price 10, size 11
--   change       id 5, side 7, reason 8, optional price 9, old_size 11, new_size 13, old_price 15, new_price 17, new_funds 19
--   unsupported  its number 5, of 32 bits
-- Amounts are two's complement; words that no field names do not matter.

unfoldable pub optional_of : ℕ → ℕ → Option ℤ
optional_of present word = cond (eqb present 0) None (Some (to_z w64 word))

abbrev pub id_of : ℕ → ℕ → OrderId
id_of high low = record { high = high; low = low }

unfoldable pub received_of : List ℕ → L3Event
received_of ws = Received (id_of (get_or ws 5 0) (get_or ws 6 0)) (side_of (get_or ws 7 0))

unfoldable pub open_of : List ℕ → L3Event
open_of ws = Open (id_of (get_or ws 5 0) (get_or ws 6 0)) (side_of (get_or ws 7 0)) (to_z w64 (get_or ws 8 0)) (to_z w64 (get_or ws 9 0))

unfoldable pub done_of : List ℕ → L3Event
done_of ws =
    Done (id_of (get_or ws 5 0) (get_or ws 6 0)) (side_of (get_or ws 7 0)) (optional_of (get_or ws 8 0) (get_or ws 9 0)) (done_reason_of (get_or ws 10 0))
    (optional_of (get_or ws 11 0) (get_or ws 12 0))

unfoldable pub match_of : List ℕ → L3Event
match_of ws =
    Match (id_of (get_or ws 5 0) (get_or ws 6 0)) (id_of (get_or ws 7 0) (get_or ws 8 0)) (side_of (get_or ws 9 0)) (to_z w64 (get_or ws 10 0))
    (to_z w64 (get_or ws 11 0))

unfoldable pub change_of : List ℕ → L3Event
change_of ws =
    Change (id_of (get_or ws 5 0) (get_or ws 6 0)) (side_of (get_or ws 7 0)) (change_reason_of (get_or ws 8 0))
    (optional_of (get_or ws 9 0) (get_or ws 10 0))
    (optional_of (get_or ws 11 0) (get_or ws 12 0))
    (optional_of (get_or ws 13 0) (get_or ws 14 0))
    (optional_of (get_or ws 15 0) (get_or ws 16 0))
    (optional_of (get_or ws 17 0) (get_or ws 18 0))
    (optional_of (get_or ws 19 0) (get_or ws 20 0))

unfoldable pub event_of : List ℕ → L3Event
event_of ws =
    cond (eqb (get_or ws 0 0) 1) (received_of ws)
    (cond (eqb (get_or ws 0 0) 2) (open_of ws)
    (cond (eqb (get_or ws 0 0) 3) (done_of ws)
    (cond (eqb (get_or ws 0 0) 4) (match_of ws)
    (cond (eqb (get_or ws 0 0) 5) (change_of ws) (Unsupported (get_or ws 5 0 % 4294967296))))))

unfoldable pub message_of : List ℕ → L3Message
message_of ws =
    record {
      product_id = record { high = get_or ws 1 0; low = get_or ws 2 0 };
      sequence = get_or ws 3 0;
      time_us = get_or ws 4 0;
      event = event_of ws;
    }

-- a block with the count in word i raised
abbrev pub raised : List ℕ → ℕ → List ℕ
raised st i = set st i (saturated (get_or st i 0))

-- ---- An answer

-- 01: "Acceptance sets last sequence", "Results 20 to 44 invalidate"; any other answer leaves the status
abbrev pub sets_status : Result Applied ApplyError → Bool
sets_status (Ok a) = true
sets_status (Err (refusals.Unusable e)) = false
sets_status (Err refusals.AmountOutOfRange) = false
sets_status (Err refusals.WrongProduct) = false
sets_status (Err refusals.NotBootstrapped) = false
sets_status (Err (refusals.Invalidated i)) = true
sets_status (Err (refusals.AwaitingSnapshot i)) = false
