-- Amounts and their range. 01, "Values in the domain": an amount is a signed 64-bit whole number of units of 10^-8, from −10^15 to 10^15.
use Rattle.std.specs.Prelude.{ℕ, Bool, true, ◌&&◌, List, [], ◌∷◌, leb, ℤ, nat_abs, Option, Some, None}
use Rattle.message.specs.declared.L3Event.{L3Event}
use Rattle.message.specs.declared.L3Event.TheVariants.{Received, Open, Done, Match, Change, Unsupported}
use Rattle.message.specs.declared.SnapshotOrder.{SnapshotOrder}

-- the largest amount, and how far below zero an amount may be
abbrev pub amount_limit : ℕ
amount_limit = 1000000000000000

unfoldable pub in_range : ℤ → Bool
in_range a = leb (nat_abs a) amount_limit

-- Number 5 speaks of present amounts only.
unfoldable pub optional_in_range : Option ℤ → Bool
optional_in_range None = true
optional_in_range (Some a) = in_range a

-- Every present amount of an event is in range.
unfoldable pub event_in_range : L3Event → Bool
event_in_range (Received order side) = true
event_in_range (Open order side price remaining) = in_range price && in_range remaining
event_in_range (Done order side price reason remaining) = optional_in_range price && optional_in_range remaining
event_in_range (Match maker taker side price size) = in_range price && in_range size
event_in_range (Change order side reason price old_size new_size old_price new_price new_funds) =
    ((((optional_in_range price && optional_in_range old_size) && optional_in_range new_size) && optional_in_range old_price) &&
    optional_in_range new_price) &&
    optional_in_range new_funds
event_in_range (Unsupported kind) = true

unfoldable pub order_in_range : SnapshotOrder → Bool
order_in_range o = in_range o.price && in_range o.size

unfoldable pub orders_in_range : List SnapshotOrder → Bool
orders_in_range [] = true
orders_in_range (o ∷ os) = order_in_range o && orders_in_range os
