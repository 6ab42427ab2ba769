-- Rows of eight words, the orders that they stand for, and what a change of the orders leaves in the words.
-- 01, Rows and pieces: "Row memory is 64-bit words, eight a row, in order of arrival: id high, id low, price, remaining, kind (0 buy snapshot,
-- 1 sell snapshot, 2 buy observed, 3 sell observed), entered_at, decreased flag (0 or 1), decreased_at (0 without flag)."
use Rattle.std.specs.Prelude.{ℕ, zero, suc, ◌+◌, ◌*◌, ◌-◌, ◌%◌, ◌≤◌, max, cond, List, [], ◌∷◌, ◌++◌, map, length, get_or, take, drop, replicate, eqb, Option, Some, None}
use Rattle.message.specs.declared.L3Side.{L3Side}
use Rattle.message.specs.declared.L3Side.TheVariants.{Buy, Sell}
use Rattle.message.specs.declared.OrderId.{OrderId}
use Rattle.message.specs.Same.{same_id}
use Rattle.book.specs.declared.Resting.{Resting}
use Rattle.book.specs.Line.{Entry}

-- "eight a row"
abbrev pub row_words : ℕ
row_words = 8

-- the most rows that the code works with: no call's ceiling is above it, and a sum of so many amounts fits a word
abbrev pub most_rows : ℕ
most_rows = 4096

-- ---- words to rows

-- row i
abbrev pub row_at : List ℕ → ℕ → Resting
row_at ws i =
    record {
      high = get_or ws (row_words * i) 0;
      low = get_or ws (row_words * i + 1) 0;
      price = get_or ws (row_words * i + 2) 0;
      remaining = get_or ws (row_words * i + 3) 0;
      kind = get_or ws (row_words * i + 4) 0;
      entered_at = get_or ws (row_words * i + 5) 0;
      decreased = get_or ws (row_words * i + 6) 0;
      decreased_at = get_or ws (row_words * i + 7) 0;
    }

-- k rows from row i on
unfoldable pub rows_from : List ℕ → ℕ → ℕ → List Resting
rows_from ws i zero = []
rows_from ws i (suc k) = row_at ws i ∷ rows_from ws (i + 1) k

-- the first n rows
abbrev pub rows_of : List ℕ → ℕ → List Resting
rows_of ws n = rows_from ws 0 n

-- the words hold n rows, and n is within `most_rows`
pub record Lent (ws : List ℕ) (n : ℕ) : Type 0 where
  pub room : row_words * n ≤ length ws
  pub few : n ≤ most_rows

-- ---- rows to words

-- an order's eight words
abbrev pub words_of : Resting → List ℕ
words_of o =
    o.high ∷ o.low ∷ o.price ∷ o.remaining ∷ o.kind ∷ o.entered_at ∷ o.decreased ∷ o.decreased_at ∷ []

abbrev pub encode_all : List Resting → List ℕ
encode_all [] = []
encode_all (o ∷ os) = words_of o ++ encode_all os

abbrev pub empty_row : Resting
empty_row =
    record { high = 0; low = 0; price = 0; remaining = 0; kind = 0; entered_at = 0; decreased = 0; decreased_at = 0 }

-- row i replaced
unfoldable pub set_row : List ℕ → ℕ → Resting → List ℕ
set_row ws i o = take (row_words * i) ws ++ words_of o ++ drop (row_words * i + row_words) ws

-- the words once n rows have given way to the orders `os`. 01, Rows and pieces: "A removal moves later rows down and zeroes the freed one;
-- an accepted snapshot writes bids then asks from the first row and zeroes former rows beyond them; other words past the last row are untouched"
unfoldable pub stored : List ℕ → ℕ → List Resting → List ℕ
stored ws n os = encode_all os ++ (replicate (row_words * (n - length os)) 0 ++ drop (row_words * max n (length os)) ws)

-- ---- what a row says

-- "kind (0 buy snapshot, 1 sell snapshot, 2 buy observed, 3 sell observed)"
unfoldable pub side_of : ℕ → L3Side
side_of k = cond (eqb (k % 2) 0) Buy Sell

abbrev pub id_of : Resting → OrderId
id_of o = record { high = o.high; low = o.low }

-- what the rules see of an order
abbrev pub entry_of : Resting → Entry
entry_of o = record { id = id_of o; side = side_of o.kind; price = o.price; remaining = o.remaining }

-- the line that rows stand for
abbrev pub line_of : List Resting → List Entry
line_of os = map entry_of os

-- ---- search and change

-- the place of the first order of that id, counted from i
abbrev pub find_row : List Resting → OrderId → ℕ → Option ℕ
find_row [] d i = None
find_row (o ∷ os) d i = cond (same_id (id_of o) d) (Some i) (find_row os d (i + 1))

-- the list without element i
abbrev pub remove_at : List Resting → ℕ → List Resting
remove_at [] i = []
remove_at (o ∷ os) zero = os
remove_at (o ∷ os) (suc i) = o ∷ remove_at os i

-- an order with r left. 01, Match: "A match never marks a decrease"; Change: "smaller reduces and sets decreased_at"
abbrev pub reduced : Resting → ℕ → Option ℕ → Resting
reduced o r None =
    record {
      high = o.high;
      low = o.low;
      price = o.price;
      remaining = r;
      kind = o.kind;
      entered_at = o.entered_at;
      decreased = o.decreased;
      decreased_at = o.decreased_at;
    }
reduced o r (Some t) =
    record {
      high = o.high;
      low = o.low;
      price = o.price;
      remaining = r;
      kind = o.kind;
      entered_at = o.entered_at;
      decreased = 1;
      decreased_at = t;
    }

-- the order of that id has r left, and leaves at zero: `cut` of specs/Line.antt on rows
abbrev pub cut_rows : OrderId → ℕ → Option ℕ → List Resting → List Resting
cut_rows d r mark [] = []
cut_rows d r mark (o ∷ os) =
    cond (same_id (id_of o) d) (cond (eqb r 0) os (reduced o r mark ∷ os)) (o ∷ cut_rows d r mark os)

-- 01, bootstrap: "gives rows unknown priority with entered_at = the snapshot's sequence"
abbrev pub snapshot_kind : L3Side → ℕ
snapshot_kind Buy = 0
snapshot_kind Sell = 1

-- 01, Open: "Joins the back, observed, entered_at = its sequence"
abbrev pub observed_kind : L3Side → ℕ
observed_kind Buy = 2
observed_kind Sell = 3

-- a new row of that kind, entered at t
abbrev pub new_row : ℕ → ℕ → Entry → Resting
new_row k t e =
    record {
      high = e.id.high;
      low = e.id.low;
      price = e.price;
      remaining = e.remaining;
      kind = k;
      entered_at = t;
      decreased = 0;
      decreased_at = 0;
    }

abbrev pub snapshot_row : ℕ → Entry → Resting
snapshot_row t e = new_row (snapshot_kind e.side) t e

abbrev pub observed_row : ℕ → Entry → Resting
observed_row t e = new_row (observed_kind e.side) t e
