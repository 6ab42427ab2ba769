-- The exported reads of all levels of a side, of a valid book: what each answers and writes; the number of entries goes to `count`. Rows, state and what is lent to be read stay as
-- they are; a refusal, 7 included, writes nothing.
use Rattle.std.specs.Prelude.{ℕ, List, length}
use Rattle.piece.specs.Piece.{side_of}
use Rattle.reconstructor_state.specs.State.{ceiling}
use Rattle.book.specs.Memory.{memory}
use Rattle.host_words.specs.Block.{book_of}
use Rattle.reconstructor_reads.specs.LevelReads.{priority_profile, l2}
use Rattle.host_boundary.specs.Boundary.{unless_turned}
use Rattle.host_level_stops.specs.Stops.{LevelCall, level_called, after_level, level_boundary}

unfoldable pub profile_call : List ℕ → List ℕ → List ℕ → ℕ → List ℕ → List ℕ → LevelCall
profile_call st ws sc side out count =
    unless_turned (level_boundary st ws (length sc) side) (λ (k : ℕ). level_called k sc out count)
    (after_level sc out count (priority_profile ceiling (book_of st) (memory ws) sc (side_of side) out))

unfoldable pub l2_call : List ℕ → List ℕ → List ℕ → ℕ → List ℕ → List ℕ → LevelCall
l2_call st ws sc side out count =
    unless_turned (level_boundary st ws (length sc) side) (λ (k : ℕ). level_called k sc out count)
    (after_level sc out count (l2 ceiling (book_of st) (memory ws) sc (side_of side) out))
