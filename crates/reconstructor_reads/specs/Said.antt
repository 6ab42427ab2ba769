-- What the words of a level read say: the orders, or the prices and volumes, that a host reads off them.
use Rattle.std.specs.Prelude.{ℕ, List, [], ◌∷◌, map}
use Rattle.message.specs.declared.L3Side.{L3Side}
use Rattle.message.specs.declared.OrderId.{OrderId}
use Rattle.book.specs.declared.Resting.{Resting}
use Rattle.book.specs.Line.{volume}
use Rattle.book.specs.Rows.{line_of}

-- `level_queue`, five words an entry: id and remaining
abbrev pub queue_said : List ℕ → List (OrderId × ℕ)
queue_said (high ∷ low ∷ remaining ∷ observed ∷ entered ∷ ws) = (record { high = high; low = low }, remaining) ∷ queue_said ws
queue_said [] = []
queue_said (high ∷ []) = []
queue_said (high ∷ low ∷ []) = []
queue_said (high ∷ low ∷ remaining ∷ []) = []
queue_said (high ∷ low ∷ remaining ∷ observed ∷ []) = []

-- `l2` and `stale_l2`, two words, and `priority_profile`, three: price and total
abbrev pub l2_said : List ℕ → List (ℕ × ℕ)
l2_said (price ∷ total ∷ ws) = (price, total) ∷ l2_said ws
l2_said [] = []
l2_said (price ∷ []) = []

abbrev pub profile_said : List ℕ → List (ℕ × ℕ)
profile_said (price ∷ total ∷ unknown ∷ ws) = (price, total) ∷ profile_said ws
profile_said [] = []
profile_said (price ∷ []) = []
profile_said (price ∷ total ∷ []) = []

-- the volumes of a line at some prices
abbrev pub volumes_at : L3Side → List Resting → List ℕ → List (ℕ × ℕ)
volumes_at s os ps = map (λ (p : ℕ). (p, volume s p (line_of os))) ps
