-- The numbers of 01's table that the cases of each answer stand for, and the values that they carry.
use Rattle.std.specs.Prelude.{ℕ, List, [], ◌∷◌, Result, Ok, Err}
use Rattle.message.specs.Told.{Told, told, changed}
use Rattle.reconstructor_answers.specs.declared.MalformedReason.{MalformedReason}
use Rattle.reconstructor_answers.specs.declared.MalformedReason.TheVariants.{Funds, NoSize}
use Rattle.reconstructor_answers.specs.declared.Discrepancy.{Discrepancy}
use Rattle.reconstructor_answers.specs.declared.Discrepancy.TheVariants.{UnknownMaker, TakerResting, MatchMismatch, MatchExceedsRemaining, DuplicateOpen, MissingMatch, RemainingMismatch, DoneMismatch, MalformedChange, ChangeMismatch, UnsupportedModification, CrossedAfterApply, InvalidValue, CapacityExceeded, UnsupportedInput}
use Rattle.reconstructor_answers.specs.declared.Invalidation.{Invalidation}
use Rattle.reconstructor_answers.specs.declared.InvalidationKind.{InvalidationKind}
use Rattle.reconstructor_answers.specs.declared.InvalidationKind.TheVariants as kinds
use Rattle.reconstructor_answers.specs.declared.StateError.{StateError}
use Rattle.reconstructor_answers.specs.declared.StateError.TheVariants.{LimitAboveCeiling, LentTooShort, MalformedBook}
use Rattle.reconstructor_answers.specs.declared.Applied.{Applied}
use Rattle.reconstructor_answers.specs.declared.Applied.TheVariants.{BookChanged, NoBookEffect}
use Rattle.reconstructor_answers.specs.declared.ApplyError.{ApplyError}
use Rattle.reconstructor_answers.specs.declared.ApplyError.TheVariants as refusals

-- 30 to 44
abbrev pub discrepancy_number : Discrepancy → ℕ
discrepancy_number UnknownMaker = 30
discrepancy_number TakerResting = 31
discrepancy_number MatchMismatch = 32
discrepancy_number MatchExceedsRemaining = 33
discrepancy_number DuplicateOpen = 34
discrepancy_number MissingMatch = 35
discrepancy_number RemainingMismatch = 36
discrepancy_number DoneMismatch = 37
discrepancy_number (MalformedChange r) = 38
discrepancy_number ChangeMismatch = 39
discrepancy_number UnsupportedModification = 40
discrepancy_number CrossedAfterApply = 41
discrepancy_number InvalidValue = 42
discrepancy_number CapacityExceeded = 43
discrepancy_number UnsupportedInput = 44

-- 20 to 22, or a discrepancy's
abbrev pub kind_number : InvalidationKind → ℕ
kind_number (kinds.Gap expected got) = 20
kind_number (kinds.OutOfOrderOrDuplicate last got) = 21
kind_number kinds.SequenceOverflow = 22
kind_number (kinds.Discrepancy d) = discrepancy_number d

-- 01, Change: "38 without new size (reason "funds" if new_funds is given, else "no size")"
abbrev pub reason_detail : MalformedReason → ℕ
reason_detail Funds = 1
reason_detail NoSize = 0

abbrev pub discrepancy_detail : Discrepancy → ℕ
discrepancy_detail UnknownMaker = 0
discrepancy_detail TakerResting = 0
discrepancy_detail MatchMismatch = 0
discrepancy_detail MatchExceedsRemaining = 0
discrepancy_detail DuplicateOpen = 0
discrepancy_detail MissingMatch = 0
discrepancy_detail RemainingMismatch = 0
discrepancy_detail DoneMismatch = 0
discrepancy_detail (MalformedChange r) = reason_detail r
discrepancy_detail ChangeMismatch = 0
discrepancy_detail UnsupportedModification = 0
discrepancy_detail CrossedAfterApply = 0
discrepancy_detail InvalidValue = 0
discrepancy_detail CapacityExceeded = 0
discrepancy_detail UnsupportedInput = 0

abbrev pub kind_detail : InvalidationKind → ℕ
kind_detail (kinds.Gap expected got) = 0
kind_detail (kinds.OutOfOrderOrDuplicate last got) = 0
kind_detail kinds.SequenceOverflow = 0
kind_detail (kinds.Discrepancy d) = discrepancy_detail d

abbrev pub state_error_number : StateError → ℕ
state_error_number LimitAboveCeiling = 1
state_error_number LentTooShort = 2
state_error_number MalformedBook = 3

-- of 20 the expected sequence and the one that came, of 21 the last one and the one that came
abbrev pub kind_first : InvalidationKind → ℕ
kind_first (kinds.Gap expected got) = expected
kind_first (kinds.OutOfOrderOrDuplicate last got) = last
kind_first kinds.SequenceOverflow = 0
kind_first (kinds.Discrepancy d) = 0

abbrev pub kind_second : InvalidationKind → ℕ
kind_second (kinds.Gap expected got) = got
kind_second (kinds.OutOfOrderOrDuplicate last got) = got
kind_second kinds.SequenceOverflow = 0
kind_second (kinds.Discrepancy d) = 0

-- 01, apply: "the answer is 16 with the last good sequence, the offending one and the reason"
abbrev pub invalidation_values : Invalidation → List ℕ
invalidation_values i =
    i.last_good_seq ∷ i.first_offending_seq ∷ kind_number i.kind ∷ kind_first i.kind ∷ kind_second i.kind ∷ kind_detail i.kind ∷ []

-- no refusal: whether the book changed
abbrev pub applied_number : Applied → ℕ
applied_number BookChanged = changed
applied_number NoBookEffect = 0

-- why `apply` does not apply a message; 16 and 17 carry the invalidation
abbrev pub apply_error_told : ApplyError → Told
apply_error_told (refusals.Unusable e) = told (state_error_number e) []
apply_error_told refusals.AmountOutOfRange = told 5 []
apply_error_told refusals.WrongProduct = told 10 []
apply_error_told refusals.NotBootstrapped = told 15 []
apply_error_told (refusals.Invalidated i) = told 16 (invalidation_values i)
apply_error_told (refusals.AwaitingSnapshot i) = told 17 (invalidation_values i)

abbrev pub apply_error_number : ApplyError → ℕ
apply_error_number e = (apply_error_told e).number

-- the answer of `apply`
abbrev pub answer_told : Result Applied ApplyError → Told
answer_told (Ok a) = told (applied_number a) []
answer_told (Err e) = apply_error_told e

abbrev pub answer_number : Result Applied ApplyError → ℕ
answer_number a = (answer_told a).number
