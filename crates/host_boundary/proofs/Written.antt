-- A block that a call leaves is again one that a book has.
-- Assumes nothing.
use Prim.Native.Nat.{ℕ, ◌≤◌}
use mathlib.Core.Path.{◌≡◌, refl}
use mathlib.Core.Bool.{Bool, true, false, ◌||◌, ◌&&◌}
use mathlib.Core.List.{List}
use native.Mathlib.Omega.{arith}
use lib.Dec.{eqb, ltb}
use lib.ListN.{length, get_or}
use Rattle.laws.proofs.Bools.{or_no}
use Rattle.reconstructor_answers.specs.declared.MalformedReason.TheVariants.{Funds, NoSize}
use Rattle.reconstructor_answers.specs.declared.Discrepancy.TheVariants.{UnknownMaker, TakerResting, MatchMismatch, MatchExceedsRemaining, DuplicateOpen, MissingMatch, RemainingMismatch, DoneMismatch, MalformedChange, ChangeMismatch, UnsupportedModification, CrossedAfterApply, InvalidValue, CapacityExceeded, UnsupportedInput}
use Rattle.reconstructor_answers.specs.declared.InvalidationKind.{InvalidationKind}
use Rattle.reconstructor_answers.specs.declared.InvalidationKind.TheVariants.{Gap, OutOfOrderOrDuplicate, SequenceOverflow, Discrepancy}
use Rattle.reconstructor_answers.specs.Numbers.{kind_number, kind_detail}
use Rattle.reconstructor_state.specs.declared.Status.{Status}
use Rattle.reconstructor_state.specs.declared.Status.TheVariants.{Empty, Valid, Invalidated}
use Rattle.reconstructor_state.specs.declared.BookReconstructor.{BookReconstructor}
use Rattle.host_words.specs.Block.{state_words, status_words, restored}
use Rattle.host_words.proofs.RoundTrip.{part}
use Rattle.host_word_tests.specs.WordTests.{no_bit, no_reason, no_book}

reason-written : (k : InvalidationKind) → no_reason (kind_number k) (kind_detail k) ≡ false
reason-written (Gap expected got) = refl
reason-written (OutOfOrderOrDuplicate last got) = refl
reason-written SequenceOverflow = refl
reason-written (Discrepancy UnknownMaker) = refl
reason-written (Discrepancy TakerResting) = refl
reason-written (Discrepancy MatchMismatch) = refl
reason-written (Discrepancy MatchExceedsRemaining) = refl
reason-written (Discrepancy DuplicateOpen) = refl
reason-written (Discrepancy MissingMatch) = refl
reason-written (Discrepancy RemainingMismatch) = refl
reason-written (Discrepancy DoneMismatch) = refl
reason-written (Discrepancy (MalformedChange Funds)) = refl
reason-written (Discrepancy (MalformedChange NoSize)) = refl
reason-written (Discrepancy ChangeMismatch) = refl
reason-written (Discrepancy UnsupportedModification) = refl
reason-written (Discrepancy CrossedAfterApply) = refl
reason-written (Discrepancy InvalidValue) = refl
reason-written (Discrepancy CapacityExceeded) = refl
reason-written (Discrepancy UnsupportedInput) = refl

-- the words of a status, behind any that go before it
abbrev no_status : ℕ → Status → Bool
no_status w s =
    no_bit w ||
    (ltb 2 (status_words s).status || (eqb (status_words s).status 2 && no_reason (status_words s).kind.number (status_words s).kind.detail))

status-written : (w : ℕ) (s : Status) → no_bit w ≡ false → no_status w s ≡ false
status-written w Empty h = rw h
status-written w (Valid last) h = rw h
status-written w (Invalidated i) h = rw (h, reason-written i.kind)

pub book-kept : (st : List ℕ) (sets : Bool) (b : BookReconstructor) → state_words ≤ length st → no_book st ≡ false → no_book (restored st sets b) ≡ false
unfolding no_book restored
book-kept st true b long h =
    rw (part st 0 6 (omega arith)) (status-written (get_or st 2 0) b.status (or_no (no_bit (get_or st 2 0)) _ h).0)
book-kept st false b long h = rw (part st 0 6 (omega arith), part st 6 7 (omega arith)) h
