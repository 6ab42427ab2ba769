-- Queue estimates, and the volume ahead, for every input. 01, Reads: "1, 2, 3, then 15 or 18, then 8, 50 and the Rust's checks in its own order, 7 last".
use Rattle.std.specs.Prelude.{ℕ, ◌*◌, Bool, true, false, not, ◌||◌, ◌&&◌, cond, List, eqb, ltb, ℤ, pos, length, Option, Some, None, Result, Ok, Err}
use Rattle.message.specs.declared.L3Side.{L3Side}
use Rattle.message.specs.declared.OrderId.{OrderId}
use Rattle.message.specs.Amounts.{nat_of}
use Rattle.book.specs.declared.Resting.{Resting}
use Rattle.book.specs.Rows.{side_of}
use Rattle.book.specs.Memory.{Memory, orders_of}
use Rattle.book_levels.specs.Levels.{written}
use Rattle.book_queue.specs.declared.EntryForm.TheVariants.{Ahead}
use Rattle.book_queue.specs.Queue.{rows_at, entries_words}
use Rattle.reconstructor_state.specs.declared.SizeDecrease.{SizeDecrease}
use Rattle.reconstructor_state.specs.declared.SizeDecrease.TheVariants.{KeepsPriority, PriorityUnknown}
use Rattle.reconstructor_state.specs.declared.BookReconstructor.{BookReconstructor}
use Rattle.reconstructor_state.specs.Checks.{check, first}
use Rattle.reconstructor_segments.specs.Segments.{same_segment}
use Rattle.reconstructor_state.specs.State.{last_of, segment_of}
use Rattle.reconstructor_view.specs.declared.ViewError.{ViewError}
use Rattle.reconstructor_view.specs.ValueReads.{view_refusal_of}
use Rattle.queue.specs.declared.Assumption.{Assumption}
use Rattle.queue.specs.declared.Assumption.TheVariants as hypotheses
use Rattle.queue.specs.declared.Anchor.{Anchor}
use Rattle.queue.specs.declared.Anchor.TheVariants.{Hypothetical, Own}
use Rattle.queue.specs.declared.QueueEstimate.{QueueEstimate}
use Rattle.queue.specs.declared.QueueAhead.{QueueAhead}
use Rattle.queue.specs.declared.QueueError.{QueueError}
use Rattle.queue.specs.declared.QueueError.TheVariants as errors
use Rattle.queue.specs.declared.Tally.{Tally}
use Rattle.queue.specs.Ahead.{row_with, entered_at, ahead_entry_words, entries_from, still_ahead, before, tally_of}

-- ---- parts

-- the rule under which a decrease loses an order its place
abbrev pub loses_place : SizeDecrease → Bool
loses_place KeepsPriority = false
loses_place PriorityUnknown = true

-- 51: "own order from a snapshot; under PriorityUnknown also an own order marked decreased"
abbrev pub place_unknown : SizeDecrease → Resting → Bool
place_unknown rule o = ltb o.kind 2 || (not (eqb o.decreased 0) && loses_place rule)

-- ---- queue_estimate

-- the answer, and the ahead-list afterwards
pub record EstimateParts : Type 0 where
  pub answer : Result QueueEstimate QueueError
  pub ahead : List ℕ

abbrev pub estimate_leaves : Result QueueEstimate QueueError → List ℕ → EstimateParts
estimate_leaves a l = record { answer = a; ahead = l }

-- a hypothetical order created now, behind the orders that rest there
abbrev pub hypothetical : BookReconstructor → L3Side → ℤ → List Resting → QueueEstimate
hypothetical b s z os =
    record {
      side = s;
      price = z;
      segment = segment_of b;
      anchor = Hypothetical (length (rows_at s (nat_of z) os)) (last_of b.status);
    }

-- 7: "output too small, the list `queue_estimate` writes included"
abbrev pub listed : QueueEstimate → List ℕ → List ℕ → EstimateParts
listed e words l =
    cond (ltb (length l) (length words)) (estimate_leaves (Err errors.OutputTooSmall) l)
    (estimate_leaves (Ok e) (written words l))

unfoldable pub estimated : Option ViewError → EstimateParts → List ℕ → EstimateParts
estimated (Some e) p l = estimate_leaves (Err (errors.View e)) l
estimated None p l = p

-- a price that is not above zero is worked as 0, which no row has
abbrev pub queue_estimate : ℕ → BookReconstructor → Memory → L3Side → ℤ → List ℕ → EstimateParts
queue_estimate top b mem s z l =
    estimated (view_refusal_of top b mem false)
    (listed (hypothetical b s z (orders_of mem b.rows)) (entries_words Ahead (rows_at s (nat_of z) (orders_of mem b.rows))) l)
    l

-- ---- queue_estimate_own

abbrev pub own_estimate : BookReconstructor → OrderId → Resting → QueueEstimate
own_estimate b d o =
    record { side = side_of o.kind; price = pos o.price; segment = segment_of b; anchor = Own d o.entered_at }

-- 52: "own id not resting"; then 51
abbrev pub own_estimated : BookReconstructor → OrderId → Option Resting → Result QueueEstimate QueueError
own_estimated b d None = Err errors.NotResting
own_estimated b d (Some o) =
    cond (place_unknown b.rules.size_decrease o) (Err errors.PriorityUnknown) (Ok (own_estimate b d o))

unfoldable pub own_viewed : Option ViewError → Result QueueEstimate QueueError → Result QueueEstimate QueueError
own_viewed (Some e) a = Err (errors.View e)
own_viewed None a = a

abbrev pub queue_estimate_own : ℕ → BookReconstructor → Memory → OrderId → Result QueueEstimate QueueError
queue_estimate_own top b mem d = own_viewed (view_refusal_of top b mem false) (own_estimated b d (row_with d (orders_of mem b.rows)))

-- ---- volume_ahead

-- 8: "of an estimate that isn't of an own order: ahead-list above 4,096 orders, or under 3 words an order". The bound is the list's own, whatever a call's
-- ceiling is
abbrev pub list_bound : ℕ
list_bound = 4096

abbrev pub list_short : Anchor → ℕ → Bool
list_short (Hypothetical k t) len = ltb list_bound k || ltb len (ahead_entry_words * k)
list_short (Own d t) len = false

unfoldable pub ahead_refusal : ℕ → BookReconstructor → Memory → QueueEstimate → List ℕ → Option QueueError
ahead_refusal top b mem q l =
    first (view_refusal_of top b mem false) errors.View
    (check (list_short q.anchor (length l)) errors.AheadListShort
    (check (not (same_segment q.segment (segment_of b))) errors.StaleEstimate None))

-- "the first by the estimate's kind, then SizeDecreaseKeepsPriority at most once": the second is told by a flag
abbrev pub queue_ahead : ℕ → Assumption → Bool → Tally → QueueAhead
queue_ahead at a own t =
    record {
      at_seq = at;
      volume = t.volume;
      from_snapshot = t.from_snapshot;
      observed = t.observed;
      orders = t.orders;
      first_assumption = a;
      keeps_priority = own || t.decreased;
    }

-- 51: "under PriorityUnknown .. a counted order ahead decreased after the estimate's sequence"
unfoldable pub tallied : SizeDecrease → ℕ → Assumption → Bool → Tally → Result QueueAhead QueueError
tallied rule at a own t =
    cond (t.decreased && loses_place rule) (Err errors.PriorityUnknown) (Ok (queue_ahead at a own t))

unfoldable pub ahead_of : Option QueueError → Result QueueAhead QueueError → Result QueueAhead QueueError
ahead_of (Some e) a = Err e
ahead_of None a = a

-- ahead of a hypothetical order: the orders of the list that still rest
abbrev pub list_ahead : SizeDecrease → ℕ → ℕ → ℕ → List ℕ → List Resting → Result QueueAhead QueueError
list_ahead rule at k t l os = tallied rule at hypotheses.BackOfVisibleQueueAtCreation false (tally_of t (still_ahead os (entries_from l 0 k)))

-- ahead of an own order, if it rests: 52, then 51
abbrev pub own_tallied : SizeDecrease → ℕ → Option Resting → Tally → Result QueueAhead QueueError
own_tallied rule at None t = Err errors.NotResting
own_tallied rule at (Some o) t =
    cond (place_unknown rule o) (Err errors.PriorityUnknown)
    (tallied rule at hypotheses.EntrySequenceIsPriority (not (eqb o.decreased 0)) t)

-- 52, also of one "resting with another entered_at"; the orders that rest before it at the estimate's side and price. "The estimate's sequence" is "an own
-- order's entry"
abbrev pub own_ahead : SizeDecrease → ℕ → L3Side → ℕ → OrderId → ℕ → List Resting → Result QueueAhead QueueError
own_ahead rule at s p d t os = own_tallied rule at (entered_at t (row_with d os)) (tally_of t (before d (rows_at s p os)))

abbrev pub anchor_ahead : SizeDecrease → ℕ → QueueEstimate → Anchor → List ℕ → List Resting → Result QueueAhead QueueError
anchor_ahead rule at q (Hypothetical k t) l os = list_ahead rule at k t l os
anchor_ahead rule at q (Own d t) l os = own_ahead rule at q.side (nat_of q.price) d t os

abbrev pub volume_ahead : ℕ → BookReconstructor → Memory → QueueEstimate → List ℕ → Result QueueAhead QueueError
volume_ahead top b mem q l =
    ahead_of (ahead_refusal top b mem q l)
    (anchor_ahead b.rules.size_decrease (last_of b.status) q q.anchor l (orders_of mem b.rows))
