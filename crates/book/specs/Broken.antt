-- Number 3, the rows' part. 01, number 3: "kind above 3; price or remaining 0 or above 10^15; a flag rule broken; an id twice; levels above the
-- limit; best buy ≥ best sell".
use Rattle.std.specs.Prelude.{ℕ, ◌*◌, ◌≤◌, ◌≡◌, Bool, false, not, ◌||◌, ◌&&◌, List, [], ◌∷◌, eqb, ltb, length}
use Rattle.message.specs.Values.{amount_limit}
use Rattle.book.specs.declared.Resting.{Resting}
use Rattle.book.specs.Line.{Entry, rests, levels, crossed}
use Rattle.book.specs.Rows.{row_words, most_rows, rows_of, line_of}

-- "0 or above 10^15"
abbrev pub out_of_range : ℕ → Bool
out_of_range x = eqb x 0 || ltb amount_limit x

-- "a flag rule broken". 01, Rows and pieces: "decreased flag (0 or 1), decreased_at (0 without flag)"
abbrev pub flag_broken : Resting → Bool
flag_broken o = ltb 1 o.decreased || (eqb o.decreased 0 && not (eqb o.decreased_at 0))

-- "kind above 3; price or remaining 0 or above 10^15; a flag rule broken"
unfoldable pub row_broken : Resting → Bool
row_broken o = ltb 3 o.kind || (out_of_range o.price || (out_of_range o.remaining || flag_broken o))

abbrev pub some_row_broken : List Resting → Bool
some_row_broken [] = false
some_row_broken (o ∷ os) = row_broken o || some_row_broken os

-- "an id twice"
abbrev pub id_twice : List Entry → Bool
id_twice [] = false
id_twice (e ∷ l) = rests e.id l || id_twice l

-- the whole
abbrev pub rows_broken : ℕ → List Resting → Bool
rows_broken max_levels os =
    some_row_broken os || (id_twice (line_of os) || (ltb max_levels (levels (line_of os)) || crossed (line_of os)))

-- the same of n rows in lent words. More rows than `most_rows`, or than the words hold, are no book either: a caller has said 2, and
-- "rows above max_orders", before
abbrev pub words_broken : ℕ → List ℕ → ℕ → Bool
words_broken max_levels ws n = ltb most_rows n || (ltb (length ws) (row_words * n) || rows_broken max_levels (rows_of ws n))

-- rows that number 3 does not name, within the limits: what `level-bound` (proofs/Kept) is said of
pub record WellFormed (max_orders max_levels : ℕ) (os : List Resting) : Type 0 where
  pub few : length os ≤ max_orders
  pub sound : some_row_broken os ≡ false
  pub single : id_twice (line_of os) ≡ false
  pub flat : levels (line_of os) ≤ max_levels
  pub apart : crossed (line_of os) ≡ false
