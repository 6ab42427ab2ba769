-- The exported level read of an invalid book: what it answers and writes, as the other level reads do (Stops.antt of `host_level_stops`).
use Rattle.std.specs.Prelude.{ℕ, List, [], ltb, length, Err}
use Rattle.piece.specs.Piece.{side_of}
use Rattle.reconstructor_state.specs.State.{ceiling}
use Rattle.book.specs.Memory.{memory}
use Rattle.host_words.specs.Block.{book_of}
use Rattle.reconstructor_view.specs.ValueReads.{read_refusal_of}
use Rattle.reconstructor_reads.specs.Numbers.{stale_told}
use Rattle.reconstructor_reads.specs.LevelReads.{too_small, StaleRead, shows, stale_read, stale_l2}
use Rattle.host_boundary.specs.Boundary.{unless_turned}
use Rattle.host_level_stops.specs.Stops.{LevelCall, level_called, counted, level_boundary, stop_of}

abbrev pub after_stale : List ℕ → List ℕ → List ℕ → StaleRead → LevelCall
after_stale sc out count r = counted (stale_told r.answer) r.scratch r.out sc out count

unfoldable pub stale_call : List ℕ → List ℕ → List ℕ → ℕ → List ℕ → List ℕ → LevelCall
stale_call st ws sc side out count =
    unless_turned (level_boundary st ws (length sc) side) (λ (k : ℕ). level_called k sc out count)
    (after_stale sc out count (stale_l2 ceiling (book_of st) (memory ws) sc (side_of side) out))

-- what stands in the way of it, with so many words of scratch and for the number of entries: an inner function's promise, not for a reader to believe
abbrev pub stale_stop : List ℕ → List ℕ → ℕ → ℕ → ℕ → ℕ
stale_stop st ws scratch side count =
    stop_of (level_boundary st ws scratch side) count
    (stale_told
    (stale_read (read_refusal_of ceiling (book_of st) (memory ws) (ltb scratch (book_of st).rules.max_orders)) (book_of st).status (shows (Err too_small) [] []) [] []).answer
    ).number
