-- The memory that a book is laid out in, what an accepted call does to the orders, and what that leaves in the memory.
use Rattle.std.specs.Prelude.{ℕ, ◌≤◌, List, [], ◌∷◌, ◌++◌, map, length, take, drop, Option}
use Rattle.message.specs.declared.OrderId.{OrderId}
use Rattle.book.specs.declared.Resting.{Resting}
use Rattle.book.specs.Line.{Entry, cut}
use Rattle.book.specs.Rows.{rows_of, line_of, stored, cut_rows, snapshot_row, observed_row}

-- ---- the memory

-- what a book is lent beside its state: the words of its rows
pub record Memory : Type 0 where
  pub rows : List ℕ

abbrev pub memory : List ℕ → Memory
memory ws = record { rows = ws }

-- how much of it a call is lent: words of rows
pub record Extent : Type 0 where
  pub rows : ℕ

abbrev pub extent : ℕ → Extent
extent n = record { rows = n }

abbrev pub extent_of : Memory → Extent
extent_of m = extent (length m.rows)

-- a call is lent the front of it; afterwards what the call left stands before what is behind
abbrev pub front : Extent → Memory → Memory
front n mem = record { rows = take n.rows mem.rows }

abbrev pub behind : Extent → Memory → Memory → Memory
behind n mem left = record { rows = left.rows ++ drop n.rows mem.rows }

-- no more than there is
abbrev pub Within : Extent → Extent → Type 0
Within n most = n.rows ≤ most.rows

-- the orders of the first n rows, in order of arrival, and the line that they stand for
abbrev pub orders_of : Memory → ℕ → List Resting
orders_of m n = rows_of m.rows n

abbrev pub line_in : Memory → ℕ → List Entry
line_in m n = line_of (orders_of m n)

-- ---- what an accepted call does

-- nothing; an order joins the back, observed, entered at that sequence; the order of that id has so much left, perhaps marked as decreased, and leaves at zero;
-- or a snapshot's orders take the place of all, entered at that sequence
pub data Effect : Type 0 where
  keep : Effect
  join : ℕ → Entry → Effect
  cut_to : OrderId → ℕ → Option ℕ → Effect
  snapshot : ℕ → List Entry → Effect

-- to the line
abbrev pub line_by : Effect → List Entry → List Entry
line_by keep l = l
line_by (join seq e) l = l ++ (e ∷ [])
line_by (cut_to d r mark) l = cut d r l
line_by (snapshot seq es) l = es

-- to the orders
abbrev pub orders_by : Effect → List Resting → List Resting
orders_by keep os = os
orders_by (join seq e) os = os ++ (observed_row seq e ∷ [])
orders_by (cut_to d r mark) os = cut_rows d r mark os
orders_by (snapshot seq es) os = map (snapshot_row seq) es

-- to the memory of a book with n rows in use
abbrev pub memory_by : Memory → ℕ → Effect → Memory
memory_by m n f = record { rows = stored m.rows n (orders_by f (orders_of m n)) }
