-- What the cases of each answer stand for: 01's number, and the values.
use Rattle.std.specs.Prelude.{ℕ, Bool, true, false, List, [], ◌∷◌, Result, Ok, Err}
use Rattle.std.specs.Int.{w64}
use Rattle.std.proofs.Common.{of_z}
use Rattle.message.specs.Told.{Told, told}
use Rattle.piece.specs.Encode.{side_byte}
use Rattle.reconstructor_view.specs.Numbers.{view_error_told}
use Rattle.queue.specs.declared.Assumption.{Assumption}
use Rattle.queue.specs.declared.Assumption.TheVariants as hypotheses
use Rattle.queue.specs.declared.Anchor.{Anchor}
use Rattle.queue.specs.declared.Anchor.TheVariants.{Hypothetical, Own}
use Rattle.queue.specs.declared.QueueEstimate.{QueueEstimate}
use Rattle.queue.specs.declared.QueueAhead.{QueueAhead}
use Rattle.queue.specs.declared.QueueError.{QueueError}
use Rattle.queue.specs.declared.QueueError.TheVariants as errors

-- why a call is turned away
abbrev pub queue_error_told : QueueError → Told
queue_error_told (errors.View e) = view_error_told e
queue_error_told errors.OutputTooSmall = told 7 []
queue_error_told errors.AheadListShort = told 8 []
queue_error_told errors.StaleEstimate = told 50 []
queue_error_told errors.PriorityUnknown = told 51 []
queue_error_told errors.NotResting = told 52 []

abbrev pub queue_error_number : QueueError → ℕ
queue_error_number e = (queue_error_told e).number

-- ---- an estimate: eight values
--   0     side: 0 buy, 1 sell
--   1     price, an amount's 64 bits
--   2, 3  its segment's name: the reconstructor's number, and the place in the list
--   4     anchor: 0 hypothetical, 1 own
--   5..7  of a hypothetical order the number of orders in the ahead-list, created_at, and 0; of an own order its id, high and low, and entered_at

abbrev pub anchor_values : Anchor → List ℕ
anchor_values (Hypothetical orders created) = 0 ∷ orders ∷ created ∷ 0 ∷ []
anchor_values (Own d entered) = 1 ∷ d.high ∷ d.low ∷ entered ∷ []

abbrev pub estimate_values : QueueEstimate → List ℕ
estimate_values q = side_byte q.side ∷ of_z w64 q.price ∷ q.segment.number ∷ q.segment.place ∷ anchor_values q.anchor

abbrev pub estimate_told : Result QueueEstimate QueueError → Told
estimate_told (Ok q) = told 0 (estimate_values q)
estimate_told (Err e) = queue_error_told e

-- ---- a volume ahead: seven values: at_seq, volume, from_snapshot, observed, orders, the first assumption (0 BackOfVisibleQueueAtCreation, 1
-- EntrySequenceIsPriority), and 1 where SizeDecreaseKeepsPriority is a second, else 0

abbrev pub assumption_word : Assumption → ℕ
assumption_word hypotheses.BackOfVisibleQueueAtCreation = 0
assumption_word hypotheses.EntrySequenceIsPriority = 1
assumption_word hypotheses.SizeDecreaseKeepsPriority = 2

abbrev pub flag_word : Bool → ℕ
flag_word true = 1
flag_word false = 0

abbrev pub ahead_values : QueueAhead → List ℕ
ahead_values a =
    a.at_seq ∷ a.volume ∷ a.from_snapshot ∷ a.observed ∷ a.orders ∷ assumption_word a.first_assumption ∷ flag_word a.keeps_priority ∷ []

abbrev pub ahead_told : Result QueueAhead QueueError → Told
ahead_told (Ok a) = told 0 (ahead_values a)
ahead_told (Err e) = queue_error_told e
