-- How distinct keys are counted: chained buckets. Nothing here is for a reader to believe: what is promised above is `id_twice` and `levels` of the
-- crate book.
use Rattle.std.specs.Prelude.{ℕ, suc, ◌+◌, ◌*◌, ◌-◌, ◌/◌, ◌%◌, ◌<◌, ◌≡◌, cond, List, [], ◌∷◌, length, get_or, eqb}
use Rattle.book.specs.declared.Resting.{Resting}
use Rattle.book.specs.Rows.{row_at, rows_from}
use Rattle.book_row_keys.specs.declared.Key.{Key}
use Rattle.book_row_keys.specs.declared.KeyKind.{KeyKind}
use Rattle.book_row_keys.specs.Keys.{key_of}

-- the last k of n rows
abbrev pub rest_of : List ℕ → ℕ → ℕ → List Resting
rest_of ws n k = rows_from ws (n - k) k

-- a number below 2^32 whose top bits depend on all of the key
unfoldable pub spread_of : Key → ℕ
spread_of k =
    (((k.high / 4294967296 + k.high % 4294967296 + (k.low / 4294967296 + k.low % 4294967296)) % 4294967296) * 2654435769) % 4294967296

unfoldable pub bucket_of : Key → ℕ → ℕ
bucket_of k m = (spread_of k * m) / 4294967296

-- the orders from the first on that falls into bucket b
abbrev pub skip_to : KeyKind → ℕ → ℕ → List Resting → List Resting
skip_to kind m b [] = []
skip_to kind m b (o ∷ os) = cond (eqb (bucket_of (key_of kind o) m) b) (o ∷ os) (skip_to kind m b os)

-- a link to them: how many orders that is
abbrev pub link_of : KeyKind → ℕ → ℕ → List Resting → ℕ
link_of kind m b os = length (skip_to kind m b os)

-- no order, or the first is in bucket b
abbrev pub Headed : KeyKind → ℕ → ℕ → List Resting → Type 0
Headed kind m b [] = Unit {0}
Headed kind m b (o ∷ os) = bucket_of (key_of kind o) m ≡ b

-- each of the last k rows has its link to the later rows of its bucket
abbrev pub Chained : List ℕ → ℕ → KeyKind → ℕ → List ℕ → ℕ → Type 0
Chained ws n kind m next k =
    (v : ℕ) → v < k → get_or next v 0 ≡ link_of kind m (bucket_of (key_of kind (row_at ws (n - suc v))) m) (rest_of ws n v)

abbrev pub Empty : List ℕ → Type 0
Empty heads = (b : ℕ) → b < length heads → get_or heads b 0 ≡ 0
