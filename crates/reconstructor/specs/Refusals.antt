-- Why a message is turned away, over a view: the port's own checks 1, 2, 3, 5, then 10, 15, 17, then the sequence 22, 21, 20, then the event.
use Rattle.std.specs.Prelude.{ℕ, ◌+◌, Bool, not, List, leb, ltb, eqb, Option, Some, None}
use Rattle.message.specs.declared.ProductId.{ProductId}
use Rattle.message.specs.declared.L3Message.{L3Message}
use Rattle.message.specs.Values.{event_in_range}
use Rattle.message.specs.Same.{same_product}
use Rattle.book.specs.Line.{Entry}
use Rattle.reconstructor_state.specs.declared.VenueRules.{VenueRules}
use Rattle.reconstructor_state.specs.declared.Status.{Status}
use Rattle.reconstructor_state.specs.declared.Status.TheVariants.{Empty, Valid, Invalidated}
use Rattle.reconstructor_answers.specs.declared.InvalidationKind.{InvalidationKind}
use Rattle.reconstructor_answers.specs.declared.InvalidationKind.TheVariants.{Gap, OutOfOrderOrDuplicate, SequenceOverflow, Discrepancy}
use Rattle.reconstructor_answers.specs.declared.ApplyError.{ApplyError}
use Rattle.reconstructor_answers.specs.declared.ApplyError.TheVariants.{Unusable, AmountOutOfRange, WrongProduct, NotBootstrapped, AwaitingSnapshot}
use Rattle.reconstructor_state.specs.Checks.{check, first}
use Rattle.reconstructor_counts.specs.Counts.{largest}
use Rattle.reconstructor_state.specs.State.{View, Lengths}
use Rattle.reconstructor_checks.specs.StateChecks.{state_refusal}
use Rattle.reconstructor_plan.specs.Rules.{event_refusal}

-- "no snapshot yet is 15; an invalid book is 17", which carries the invalidation in force
abbrev pub status_refusal : Status → Option ApplyError
status_refusal Empty = Some NotBootstrapped
status_refusal (Valid last) = None
status_refusal (Invalidated i) = Some (AwaitingSnapshot i)

-- "After the port's own checks .. 5: another product is 10; no snapshot yet is 15; an invalid book is 17". 5: "a present amount out of range"
unfoldable pub admit_refusal : ProductId → Status → L3Message → Option ApplyError
admit_refusal p s m =
    check (not (event_in_range m.event)) AmountOutOfRange
    (check (not (same_product m.product_id p)) WrongProduct (status_refusal s))

-- 1, 2, 3, and then those; `three` says whether number 3 arises
unfoldable pub gate_refusal : ℕ → ProductId → VenueRules → Lengths → Bool → View → L3Message → Option ApplyError
gate_refusal top p v lent three w m = first (state_refusal top v lent three w.segments) Unusable (admit_refusal p w.status m)

-- "Then sequence: last applied 2^64−1 is 22; last + 1 goes on to the event; at or below last is 21; else 20"
unfoldable pub turn_refusal : VenueRules → List Entry → ℕ → L3Message → Option InvalidationKind
turn_refusal v l last m =
    check (eqb last largest) SequenceOverflow
    (check (leb m.sequence last) (OutOfOrderOrDuplicate last m.sequence)
    (check (ltb (last + 1) m.sequence) (Gap (last + 1) m.sequence) (first (event_refusal v l m.event) Discrepancy None)))
