-- The line of orders, oldest first: what the rules go by. 01, The ledger: "line of orders (id, side, price, remaining)".
use Rattle.std.specs.Prelude.{ℕ, suc, ◌+◌, Bool, true, false, ◌||◌, ◌&&◌, cond, List, [], ◌∷◌, leb, ltb, eqb, Option, Some, None}
use Rattle.message.specs.declared.L3Side.{L3Side}
use Rattle.message.specs.declared.L3Side.TheVariants.{Buy, Sell}
use Rattle.message.specs.declared.OrderId.{OrderId}
use Rattle.message.specs.Same.{same_side, same_id}

pub record Entry : Type 0 where
  pub id : OrderId
  pub side : L3Side
  pub price : ℕ
  pub remaining : ℕ

-- ---- by id

-- the order of that id (the first, were there two)
abbrev pub find : OrderId → List Entry → Option Entry
find d [] = None
find d (e ∷ l) = cond (same_id e.id d) (Some e) (find d l)

abbrev pub present : Option Entry → Bool
present None = false
present (Some e) = true

-- whether the id rests
abbrev pub rests : OrderId → List Entry → Bool
rests d l = present (find d l)

abbrev pub left : Entry → ℕ → Entry
left e r = record { id = e.id; side = e.side; price = e.price; remaining = r }

-- the order of that id has r left, and leaves at zero. 01, Match: "the maker loses the size and leaves at zero"; Change: "zero removes;
-- smaller reduces"; Done: "else removed"
abbrev pub cut : OrderId → ℕ → List Entry → List Entry
cut d r [] = []
cut d r (e ∷ l) = cond (same_id e.id d) (cond (eqb r 0) l (left e r ∷ l)) (e ∷ cut d r l)

-- ---- at a side and price

abbrev pub same_level : L3Side → ℕ → L3Side → ℕ → Bool
same_level s p t q = same_side s t && eqb p q

-- 01, The ledger: "At each side and price, volume is the sum of the remaining of the rows there"
abbrev pub volume : L3Side → ℕ → List Entry → ℕ
volume s p [] = 0
volume s p (e ∷ l) = cond (same_level e.side e.price s p) (e.remaining + volume s p l) (volume s p l)

-- "queue order their ids and remaining in order of arrival"
abbrev pub queue : L3Side → ℕ → List Entry → List (OrderId × ℕ)
queue s p [] = []
queue s p (e ∷ l) = cond (same_level e.side e.price s p) ((e.id, e.remaining) ∷ queue s p l) (queue s p l)

-- how many orders rest there
abbrev pub orders_at : L3Side → ℕ → List Entry → ℕ
orders_at s p [] = 0
orders_at s p (e ∷ l) = cond (same_level e.side e.price s p) (suc (orders_at s p l)) (orders_at s p l)

-- whether a level is there: some order rests at that side and price
abbrev pub has_level : L3Side → ℕ → List Entry → Bool
has_level s p [] = false
has_level s p (e ∷ l) = same_level e.side e.price s p || has_level s p l

-- the number of levels, a level being a side and a price
abbrev pub levels : List Entry → ℕ
levels [] = 0
levels (e ∷ l) = cond (has_level e.side e.price l) (levels l) (suc (levels l))

-- the number of levels of a side
abbrev pub side_levels : L3Side → List Entry → ℕ
side_levels s [] = 0
side_levels s (e ∷ l) =
    cond (same_side e.side s) (cond (has_level s e.price l) (side_levels s l) (suc (side_levels s l))) (side_levels s l)

-- ---- best prices

-- 01, Reads: "Buys run from the highest price, sells from the lowest"
abbrev pub ahead : L3Side → ℕ → ℕ → Bool
ahead Buy p q = ltb q p
ahead Sell p q = ltb p q

abbrev pub better : L3Side → ℕ → Option ℕ → Option ℕ
better s p None = Some p
better s p (Some q) = Some (cond (ahead s p q) p q)

-- the best price of a side
abbrev pub best : L3Side → List Entry → Option ℕ
best s [] = None
best s (e ∷ l) = cond (same_side e.side s) (better s e.price (best s l)) (best s l)

-- a best buy at or above a best sell
abbrev pub meet : Option ℕ → Option ℕ → Bool
meet None a = false
meet (Some b) None = false
meet (Some b) (Some a) = leb a b

-- 01, number 3: "best buy ≥ best sell"
abbrev pub crossed : List Entry → Bool
crossed l = meet (best Buy l) (best Sell l)

-- 01, number 41: "open would cross"
abbrev pub would_cross : L3Side → ℕ → List Entry → Bool
would_cross Buy p l = meet (Some p) (best Sell l)
would_cross Sell p l = meet (best Buy l) (Some p)
