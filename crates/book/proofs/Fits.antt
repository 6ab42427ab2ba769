-- The tests of an open and of a snapshot as records: what a caller knows once they are passed.
-- Assumes nothing.
use Prim.Native.Nat.{ℕ, ◌≤◌, ◌<◌}
use mathlib.Core.Path.{◌≡◌}
use mathlib.Core.Bool.{Bool, false, ◌||◌}
use mathlib.Core.List.{List, [], ◌∷◌}
use lib.ListN.{length}
use Rattle.book.specs.declared.Resting.{Resting}
use Rattle.book.specs.Line.{Entry, rests, has_level, levels, crossed, would_cross}
use Rattle.book.specs.Rows.{id_of, side_of, line_of}
use Rattle.book.specs.Broken.{out_of_range, row_broken, id_twice}

-- an open that planning accepts (34, 42, 41, 43): the id is new, the row sound, no crossing, room for an order and, "only if the price has no
-- level", for a level
pub record OpenFits (max_orders max_levels : ℕ) (os : List Resting) (o : Resting) : Type 0 where
  pub new : rests (id_of o) (line_of os) ≡ false
  pub sound : row_broken o ≡ false
  pub apart : would_cross (side_of o.kind) o.price (line_of os) ≡ false
  pub few : length os < max_orders
  pub flat : has_level (side_of o.kind) o.price (line_of os) ≡ false → levels (line_of os) < max_levels

abbrev pub some_out_of_range : List Entry → Bool
some_out_of_range [] = false
some_out_of_range (e ∷ l) = (out_of_range e.price || out_of_range e.remaining) || some_out_of_range l

-- the line of an accepted snapshot (5, 11 to 14)
pub record SnapshotFits (max_orders max_levels : ℕ) (l : List Entry) : Type 0 where
  pub few : length l ≤ max_orders
  pub sound : some_out_of_range l ≡ false
  pub single : id_twice l ≡ false
  pub flat : levels l ≤ max_levels
  pub apart : crossed l ≡ false
