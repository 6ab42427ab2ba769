-- How a tally grows, and what the inner functions promise. Nothing here is for a reader to believe: the promises are those of Estimates.antt.
use Rattle.std.specs.Prelude.{ℕ, suc, ◌+◌, ◌*◌, ◌≤◌, ◌≡◌, false, ◌||◌, cond, ltb, Option, Some, None}
use Rattle.message.specs.Values.{amount_limit}
use Rattle.book.specs.declared.Resting.{Resting}
use Rattle.book.specs.Rows.{most_rows}
use Rattle.queue.specs.declared.Tally.{Tally}
use Rattle.queue.specs.Ahead.{decreased_after}

abbrev pub no_tally : Tally
no_tally = record { volume = 0; from_snapshot = 0; observed = 0; orders = 0; decreased = false }

-- one order more
abbrev pub tally_with : ℕ → Resting → Tally → Tally
tally_with since o t =
    record {
      volume = o.remaining + t.volume;
      from_snapshot = cond (ltb o.kind 2) o.remaining 0 + t.from_snapshot;
      observed = cond (ltb o.kind 2) 0 o.remaining + t.observed;
      orders = suc t.orders;
      decreased = decreased_after since o || t.decreased;
    }

abbrev pub tally_joined : ℕ → Option Resting → Tally → Tally
tally_joined since None t = t
tally_joined since (Some o) t = tally_with since o t

-- its sums fit a word with one order more
pub record Small (t : Tally) : Type 0 where
  pub volume : t.volume ≤ most_rows * amount_limit
  pub from_snapshot : t.from_snapshot ≤ most_rows * amount_limit
  pub observed : t.observed ≤ most_rows * amount_limit
  pub orders : t.orders ≤ most_rows
