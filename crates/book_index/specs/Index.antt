-- An index beside the rows, which a run of messages keeps: where to look first for an id, and prices that an open does not cross. Nothing here is for
-- a reader to believe: the promises of this crate are `find_row` and `would_cross` of the crate book.
use Rattle.std.specs.Prelude.{ℕ, ◌+◌, ◌<◌, ◌≤◌, ◌≡◌, Bool, true, false, ◌||◌, ◌&&◌, cond, List, [], ◌∷◌, eqb, leb, ltb, length, get_or, set, Option, Some, None}
use Rattle.message.specs.declared.L3Side.{L3Side}
use Rattle.message.specs.declared.L3Side.TheVariants.{Buy, Sell}
use Rattle.message.specs.declared.OrderId.{OrderId}
use Rattle.message.specs.declared.L3Event.{L3Event}
use Rattle.message.specs.declared.L3Event.TheVariants.{Received, Open, Done, Match, Change, Unsupported}
use Rattle.message.specs.Amounts.{nat_of}
use Rattle.message.specs.Same.{same_id}
use Rattle.book.specs.declared.Resting.{Resting}
use Rattle.book.specs.Rows.{row_at, id_of, side_of, line_of}
use Rattle.book.specs.Broken.{id_twice}
use Rattle.book_row_keys.specs.declared.Key.{Key}
use Rattle.book_buckets.specs.Buckets.{bucket_of}
use Rattle.book_index.specs.declared.Bounds.{Bounds}

-- ---- what an index says of an order

abbrev pub key_for : OrderId → Key
key_for d = record { high = d.high; low = d.low }

-- its bucket has a place to look at, 0 being none; a list of no places says nothing
unfoldable pub marked : List ℕ → OrderId → Bool
marked places d = eqb (length places) 0 || ltb 0 (get_or places (bucket_of (key_for d) (length places)) 0)

-- a buy is at or below the one bound, a sell at or above the other; without bounds nothing is said
unfoldable pub bounded : Option Bounds → L3Side → ℕ → Bool
bounded None s p = true
bounded (Some b) Buy p = leb p b.high_bid
bounded (Some b) Sell p = leb b.low_ask p

abbrev pub row_marked : List ℕ → Resting → Bool
row_marked places o = marked places (id_of o)

abbrev pub row_bounded : Option Bounds → Resting → Bool
row_bounded b o = bounded b (side_of o.kind) o.price

abbrev pub all : (Resting → Bool) → List Resting → Bool
all f [] = true
all f (o ∷ os) = f o && all f os

-- an index of these orders, whose ids are distinct
pub record Indexed (places : List ℕ) (b : Option Bounds) (os : List Resting) : Type 0 where
  pub few : length places ≤ 65536
  pub marks : all (row_marked places) os ≡ true
  pub within : all (row_bounded b) os ≡ true
  pub single : id_twice (line_of os) ≡ false

-- the bounds are wide enough for an event's new order
abbrev pub Foreseen : Option Bounds → L3Event → Type 0
Foreseen b (Received d s) = Unit {0}
Foreseen b (Open d s p q) = bounded b s (nat_of p) ≡ true
Foreseen b (Done d s p why r) = Unit {0}
Foreseen b (Match m t s p q) = Unit {0}
Foreseen b (Change d s why p old_size new_size old_price new_price funds) = Unit {0}
Foreseen b (Unsupported k) = Unit {0}

-- ---- how it is kept

unfoldable pub marked_at : List ℕ → ℕ → OrderId → List ℕ
marked_at places k d = set places (bucket_of (key_for d) (length places)) (k + 1)

-- an event's new order marked behind n rows
abbrev pub noted : List ℕ → ℕ → L3Event → List ℕ
noted places n (Received d s) = places
noted places n (Open d s p q) = marked_at places n d
noted places n (Done d s p why r) = places
noted places n (Match m t s p q) = places
noted places n (Change d s why p old_size new_size old_price new_price funds) = places
noted places n (Unsupported k) = places

-- wide enough for one order more
unfoldable pub widened : Bounds → L3Side → ℕ → Bounds
widened b Buy p = record { high_bid = cond (ltb b.high_bid p) p b.high_bid; low_ask = b.low_ask }
widened b Sell p = record { high_bid = b.high_bid; low_ask = cond (ltb p b.low_ask) p b.low_ask }

-- they tell that an open does not cross
unfoldable pub clear_of : Bounds → L3Side → ℕ → Bool
clear_of b Buy p = ltb p b.low_ask
clear_of b Sell p = ltb b.high_bid p

-- they are known, and tell so
unfoldable pub clears : Option Bounds → L3Side → ℕ → Bool
clears None s p = false
clears (Some b) s p = clear_of b s p

-- a row before row k that has the id, or no word on it
abbrev pub Near : List ℕ → ℕ → OrderId → Option ℕ → Type 0
Near ws k d (Some i) = (i < k) × (same_id (id_of (row_at ws i)) d ≡ true)
Near ws k d None = Unit {0}
