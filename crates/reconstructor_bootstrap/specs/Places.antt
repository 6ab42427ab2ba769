-- How the code meets a snapshot's line, by place, bids first, and what it does once 1 to 5 are passed. Nothing here is for a reader to believe: the promise
-- speaks of `snapshot_line` and `bootstrapped_to`.
use Rattle.std.specs.Prelude.{ℕ, zero, suc, ◌+◌, ◌*◌, ◌≤◌, cond, List, [], ◌∷◌, map, ltb, length}
use Rattle.message.specs.declared.L3Side.{L3Side}
use Rattle.message.specs.declared.L3Side.TheVariants.{Buy, Sell}
use Rattle.piece.specs.Piece.{order_at}
use Rattle.book.specs.declared.Resting.{Resting}
use Rattle.book.specs.Line.{Entry}
use Rattle.book.specs.Rows.{row_words, most_rows, snapshot_row}
use Rattle.book.specs.Memory.{Memory}
use Rattle.message.specs.declared.L3Snapshot.{L3Snapshot}
use Rattle.reconstructor_segments.specs.declared.Segment.{Segment}
use Rattle.reconstructor_state.specs.declared.BookReconstructor.{BookReconstructor}
use Rattle.reconstructor_state.specs.State.{view_with, lengths_with}
use Rattle.reconstructor_bootstrap.specs.declared.Work.{Work}
use Rattle.reconstructor_bootstrap.specs.declared.Reply.{Reply}
use Rattle.reconstructor_bootstrap.specs.Snapshot.{listed, snapshot_line, accept_refusal}
use Rattle.reconstructor_bootstrap.specs.Bootstrap.{Booted, accepted, unless_refused}

-- the side of a place
unfoldable pub side_at : ℕ → ℕ → L3Side
side_at bids place = cond (ltb place bids) Buy Sell

unfoldable pub entry_at : ℕ → List ℕ → ℕ → Entry
entry_at bids bytes place = listed (side_at bids place) (order_at bytes place)

-- k entries from a place on
unfoldable pub entries_from : ℕ → List ℕ → ℕ → ℕ → List Entry
entries_from bids bytes place zero = []
entries_from bids bytes place (suc k) = entry_at bids bytes place ∷ entries_from bids bytes (place + 1) k

-- the rows of the first n places
abbrev pub rows_at : ℕ → List ℕ → ℕ → ℕ → List Resting
rows_at bids bytes n sequence = map (snapshot_row sequence) (entries_from bids bytes 0 n)

-- words that hold n rows, where former rows are cleared
pub record Room (ws : List ℕ) (former n : ℕ) : Type 0 where
  pub before : row_words * former ≤ length ws
  pub room : row_words * n ≤ length ws
  pub few_before : former ≤ most_rows
  pub few : n ≤ most_rows

-- in a state that passes 1, 2 and 3, of a snapshot that was read
abbrev pub usable_to : BookReconstructor → Memory → ℕ → Segment → List ℕ → L3Snapshot → Booted
usable_to b mem lent g bytes s =
    unless_refused
    (accept_refusal b.product_id b.rules (lengths_with mem lent) (view_with b mem g) s (snapshot_line s bytes)) b mem lent g
    (accepted b mem g s.sequence (snapshot_line s bytes))

abbrev pub reply_of : Work → Reply
reply_of w = record { book = w.book; answer = w.answer }
