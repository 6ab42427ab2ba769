-- The exported read of the orders at one level: what it answers and writes, as every level read does (Stops.antt of `host_level_stops`).
use Rattle.std.specs.Prelude.{ℕ, List, length}
use Rattle.std.specs.Int.{w64}
use Rattle.std.proofs.Common.{to_z}
use Rattle.piece.specs.Piece.{side_of}
use Rattle.reconstructor_state.specs.State.{ceiling}
use Rattle.book.specs.Memory.{memory}
use Rattle.host_words.specs.Block.{book_of}
use Rattle.reconstructor_reads.specs.LevelReads.{level_queue}
use Rattle.host_boundary.specs.Boundary.{unless_turned}
use Rattle.host_level_stops.specs.Stops.{LevelCall, level_called, after_level, level_boundary}

unfoldable pub queue_call : List ℕ → List ℕ → List ℕ → ℕ → ℕ → List ℕ → List ℕ → LevelCall
queue_call st ws sc side price out count =
    unless_turned (level_boundary st ws (length sc) side) (λ (k : ℕ). level_called k sc out count)
    (after_level sc out count (level_queue ceiling (book_of st) (memory ws) sc (side_of side) (to_z w64 price) out))
