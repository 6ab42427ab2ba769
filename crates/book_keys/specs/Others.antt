-- Rows of the other side. Nothing here is for a reader to believe: what is promised is `side_levels` of the crate book.
use Rattle.std.specs.Prelude.{Bool, false, not, ◌||◌, List, [], ◌∷◌}
use Rattle.message.specs.declared.L3Side.{L3Side}
use Rattle.message.specs.Same.{same_side}
use Rattle.book.specs.declared.Resting.{Resting}
use Rattle.book.specs.Rows.{side_of}

-- some order is not of a side
abbrev pub some_other : L3Side → List Resting → Bool
some_other s [] = false
some_other s (o ∷ os) = not (same_side (side_of o.kind) s) || some_other s os
