-- The orders ahead of an order, and what they come to. 01, Reads: "The ahead-list is lent by the caller, three words an order (id, entered_at). An entry
-- counts only while its id rests with that entered_at."
use Rattle.std.specs.Prelude.{ℕ, zero, suc, ◌+◌, ◌*◌, Bool, false, not, ◌||◌, ◌&&◌, cond, List, [], ◌∷◌, eqb, ltb, length, get_or, Option, Some, None}
use Rattle.message.specs.declared.OrderId.{OrderId}
use Rattle.message.specs.Same.{same_id}
use Rattle.book.specs.declared.Resting.{Resting}
use Rattle.book.specs.Rows.{id_of}
use Rattle.book_queue.specs.declared.EntryForm.TheVariants.{Ahead}
use Rattle.book_queue.specs.Queue.{entry_width}
use Rattle.queue.specs.declared.Tally.{Tally}

-- ---- which orders count

-- the order of that id
abbrev pub row_with : OrderId → List Resting → Option Resting
row_with d [] = None
row_with d (o ∷ os) = cond (same_id (id_of o) d) (Some o) (row_with d os)

-- if it entered at t: an id that is used again names another order
abbrev pub entered_at : ℕ → Option Resting → Option Resting
entered_at t None = None
entered_at t (Some o) = cond (eqb o.entered_at t) (Some o) None

-- "three words an order (id, entered_at)"
abbrev pub ahead_entry_words : ℕ
ahead_entry_words = entry_width Ahead

-- entry i of an ahead-list
pub record AheadEntry : Type 0 where
  pub id : OrderId
  pub entered : ℕ

abbrev pub entry_at : List ℕ → ℕ → AheadEntry
entry_at ws i =
    record {
      id = record { high = get_or ws (ahead_entry_words * i) 0; low = get_or ws (ahead_entry_words * i + 1) 0 };
      entered = get_or ws (ahead_entry_words * i + 2) 0;
    }

-- k entries from entry i on
unfoldable pub entries_from : List ℕ → ℕ → ℕ → List AheadEntry
entries_from ws i zero = []
entries_from ws i (suc k) = entry_at ws i ∷ entries_from ws (i + 1) k

abbrev pub joined : Option Resting → List Resting → List Resting
joined None l = l
joined (Some o) l = o ∷ l

-- the orders that the entries of an ahead-list stand for now; a doubled entry counts twice
abbrev pub still_ahead : List Resting → List AheadEntry → List Resting
still_ahead os [] = []
still_ahead os (e ∷ l) = joined (entered_at e.entered (row_with e.id os)) (still_ahead os l)

-- the orders before the one of that id
abbrev pub before : OrderId → List Resting → List Resting
before d [] = []
before d (o ∷ os) = cond (same_id (id_of o) d) [] (o ∷ before d os)

-- ---- what they come to

abbrev pub sizes : List Resting → ℕ
sizes [] = 0
sizes (o ∷ os) = o.remaining + sizes os

-- of those from a snapshot: kinds 0 and 1
abbrev pub snapshot_sizes : List Resting → ℕ
snapshot_sizes [] = 0
snapshot_sizes (o ∷ os) = cond (ltb o.kind 2) o.remaining 0 + snapshot_sizes os

-- of those whose open was observed
abbrev pub observed_sizes : List Resting → ℕ
observed_sizes [] = 0
observed_sizes (o ∷ os) = cond (ltb o.kind 2) 0 o.remaining + observed_sizes os

-- 51: "a counted order ahead decreased after the estimate's sequence"
abbrev pub decreased_after : ℕ → Resting → Bool
decreased_after t o = not (eqb o.decreased 0) && ltb t o.decreased_at

abbrev pub some_decreased : ℕ → List Resting → Bool
some_decreased t [] = false
some_decreased t (o ∷ os) = decreased_after t o || some_decreased t os

abbrev pub tally_of : ℕ → List Resting → Tally
tally_of t os =
    record {
      volume = sizes os;
      from_snapshot = snapshot_sizes os;
      observed = observed_sizes os;
      orders = length os;
      decreased = some_decreased t os;
    }
