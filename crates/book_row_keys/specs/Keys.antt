-- What two rows are compared by, and how many distinct ones there are. Nothing here is for a reader to believe: what is promised above is `id_twice` and
-- `levels` of the crate book.
use Rattle.std.specs.Prelude.{ℕ, suc, ◌%◌, Bool, false, ◌||◌, ◌&&◌, cond, List, [], ◌∷◌, eqb}
use Rattle.message.specs.Same.{same_side}
use Rattle.book.specs.declared.Resting.{Resting}
use Rattle.book.specs.Rows.{side_of}
use Rattle.book_row_keys.specs.declared.Key.{Key}
use Rattle.book_row_keys.specs.declared.KeyKind.{KeyKind}
use Rattle.book_row_keys.specs.declared.KeyKind.TheVariants.{Id, Level, LevelOf}

-- an order's id; its side and price; its price if it is of a side, and one key for all others
abbrev pub key_of : KeyKind → Resting → Key
key_of Id o = record { high = o.high; low = o.low }
key_of Level o = record { high = o.kind % 2; low = o.price }
key_of (LevelOf s) o = cond (same_side (side_of o.kind) s) (record { high = 1; low = o.price }) (record { high = 0; low = 0 })

abbrev pub same_key : Key → Key → Bool
same_key a b = eqb a.high b.high && eqb a.low b.low

abbrev pub has_key : (Resting → Key) → Key → List Resting → Bool
has_key f k [] = false
has_key f k (o ∷ os) = same_key (f o) k || has_key f k os

-- how many distinct keys: the orders whose key no later order has
abbrev pub count_keys : (Resting → Key) → List Resting → ℕ
count_keys f [] = 0
count_keys f (o ∷ os) = cond (has_key f (f o) os) (count_keys f os) (suc (count_keys f os))
