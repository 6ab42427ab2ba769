-- What a plan comes to, and what planning promises: a refusal that is the rules', or a plan that does what the rules say.
use Rattle.std.specs.Prelude.{ℕ, ◌+◌, ◌*◌, ◌≤◌, ◌<◌, ◌≡◌, cond, List, [], ◌∷◌, ◌++◌, eqb, length, set, Option, Some, None, Result, Ok, Err}
use Rattle.message.specs.declared.L3Event.{L3Event}
use Rattle.book.specs.declared.Resting.{Resting}
use Rattle.book.specs.Rows.{row_words, most_rows, row_at, rows_of, line_of, remove_at, reduced}
use Rattle.book.specs.Memory.{orders_by}
use Rattle.reconstructor_state.specs.declared.VenueRules.{VenueRules}
use Rattle.reconstructor_counts.specs.declared.Counter.{Counter}
use Rattle.reconstructor_counts.specs.declared.Counter.TheVariants as counters
use Rattle.reconstructor_answers.specs.declared.Applied.{Applied}
use Rattle.reconstructor_answers.specs.declared.Applied.TheVariants.{BookChanged, NoBookEffect}
use Rattle.reconstructor_answers.specs.declared.Discrepancy.{Discrepancy}
use Rattle.reconstructor_plan.specs.declared.Plan.{Plan}
use Rattle.reconstructor_plan.specs.declared.Plan.TheVariants.{NoEffect, Insert, Reduce, Remove}
use Rattle.reconstructor_plan.specs.Rules.{Deed, answer_by, event_refusal, event_deed}

-- n rows in use, and words for as many orders as the limit permits
pub record Ready (ws : List ℕ) (n limit : ℕ) : Type 0 where
  pub few : n ≤ limit
  pub room : row_words * limit ≤ length ws
  pub small : limit ≤ most_rows

-- the orders afterwards, the counter and the answer
pub record PlanOutcome : Type 0 where
  pub orders : List Resting
  pub counter : Counter
  pub answer : Applied

-- what a deed of the rules comes to
abbrev pub deed_outcome : Deed → List Resting → PlanOutcome
deed_outcome d os = record { orders = orders_by d.effect os; counter = d.counter; answer = answer_by d.effect }

-- what committing a plan does to n rows
abbrev pub plan_outcome : List ℕ → ℕ → Plan → PlanOutcome
plan_outcome ws n (NoEffect k) = record { orders = rows_of ws n; counter = k; answer = NoBookEffect }
plan_outcome ws n (Insert o) = record { orders = rows_of ws n ++ (o ∷ []); counter = counters.Open; answer = BookChanged }
plan_outcome ws n (Reduce at r mark k) = record { orders = set (rows_of ws n) at (reduced (row_at ws at) r mark); counter = k; answer = BookChanged }
plan_outcome ws n (Remove at k) = record { orders = remove_at (rows_of ws n) at; counter = k; answer = BookChanged }

-- the plan that leaves so much of the order at a row. 01, Match: "leaves at zero"; Change: "zero removes"
abbrev pub cut_plan : ℕ → ℕ → Option ℕ → Counter → Plan
cut_plan at r mark k = cond (eqb r 0) (Remove at k) (Reduce at r mark k)

-- a plan names a row in use, or there is room for one more
abbrev pub PlanFits : List ℕ → ℕ → Plan → Type 0
PlanFits ws n (NoEffect k) = Unit {0}
PlanFits ws n (Insert o) = (row_words * n + row_words ≤ length ws) × (n < most_rows)
PlanFits ws n (Reduce at r mark k) = at < n
PlanFits ws n (Remove at k) = at < n

-- the answer of planning, where the rules refuse so, and where they do so
abbrev pub PlansFor : Option Discrepancy → Deed → List ℕ → ℕ → Result Plan Discrepancy → Type 0
PlansFor refusal deed ws n (Err d) = refusal ≡ Some d
PlansFor refusal deed ws n (Ok p) = (refusal ≡ None) × (plan_outcome ws n p ≡ deed_outcome deed (rows_of ws n)) × PlanFits ws n p

-- an event on n rows, under these rules and at this sequence
abbrev pub Plans : VenueRules → List ℕ → ℕ → ℕ → L3Event → Result Plan Discrepancy → Type 0
Plans v ws n seq e r = PlansFor (event_refusal v (line_of (rows_of ws n)) e) (event_deed v (line_of (rows_of ws n)) seq e) ws n r

-- under any rules; and under any rules and at any sequence, which the event does not ask for
abbrev pub PlansAt : List ℕ → ℕ → ℕ → L3Event → Result Plan Discrepancy → Type 0
PlansAt ws n seq e r = (v : VenueRules) → Plans v ws n seq e r

abbrev pub PlansAnywhere : List ℕ → ℕ → L3Event → Result Plan Discrepancy → Type 0
PlansAnywhere ws n e r = (v : VenueRules) (seq : ℕ) → Plans v ws n seq e r
