-- A piece as the code meets it: with the last segment's record by value, in a state that passes 1, 2 and 3, beside an index of its rows. Nothing here is for a
-- reader to believe: the promise of a day speaks of `played`.
use Rattle.std.specs.Prelude.{ℕ, ◌≡◌, true, cond, List, Result, Ok, Err, Option}
use Rattle.piece.specs.Piece.{piece_number, read_message}
use Rattle.book.specs.declared.Resting.{Resting}
use Rattle.book.specs.Memory.{Memory, memory, orders_of}
use Rattle.book_index.specs.declared.Bounds.{Bounds}
use Rattle.book_index.specs.Index.{row_marked, row_bounded, all, Indexed}
use Rattle.reconstructor_answers.specs.Numbers.{answer_number}
use Rattle.reconstructor_segments.specs.declared.Segment.{Segment}
use Rattle.reconstructor_segments.specs.Segments.{no_segment}
use Rattle.reconstructor_state.specs.declared.BookReconstructor.{BookReconstructor}
use Rattle.reconstructor_state.specs.State.{ceiling}
use Rattle.reconstructor_checks.specs.StateChecks.{Usable}
use Rattle.reconstructor.specs.Applied.{Worked, applied_to}
use Rattle.reconstructor_bootstrap.specs.Numbers.{snapshot_number}
use Rattle.reconstructor_bootstrap.specs.Bootstrap.{Booted, bootstrapped_to}
use Rattle.daybook_pieces.specs.declared.Answer.{Answer}
use Rattle.daybook_pieces.specs.declared.Turn.{Turn}
use Rattle.daybook_pieces.specs.Answers.{piece_answer_number}
use Rattle.daybook_segments.specs.DaySegments.{day_segments}
use Rattle.daybook_pieces.specs.Played.{is_snapshot}
use Rattle.message.specs.declared.L3Message.{L3Message}
use Rattle.piece.specs.declared.PieceError.{PieceError}

-- what a piece leaves beside the list: as of a snapshot, the last record, and the record that is started with its place, past the list's end where none is
pub record PlayedTo : Type 0 where
  pub number : ℕ
  pub book : BookReconstructor
  pub memory : Memory
  pub segment : Segment
  pub at : ℕ
  pub started : Segment

abbrev pub unstarted_turn : Answer → Segment → Turn
unstarted_turn a g = record { answer = a; segment = g; at = day_segments; started = no_segment }

abbrev pub turned : Turn → BookReconstructor → Memory → PlayedTo
turned t b mem = record { number = piece_answer_number t.answer; book = b; memory = mem; segment = t.segment; at = t.at; started = t.started }

abbrev pub unstarted : ℕ → BookReconstructor → Memory → Segment → PlayedTo
unstarted k b mem g = record { number = k; book = b; memory = mem; segment = g; at = day_segments; started = no_segment }

abbrev pub by_apply_to : Worked → PlayedTo
by_apply_to w = unstarted (answer_number w.answer) w.book w.memory w.segment

abbrev pub by_bootstrap_to : Booted → PlayedTo
by_bootstrap_to w =
    record { number = snapshot_number w.answer; book = w.book; memory = w.memory; segment = w.segment; at = w.at; started = w.started }

abbrev pub play_message_to : Result L3Message PieceError → BookReconstructor → Memory → Segment → PlayedTo
play_message_to (Err e) b mem g = unstarted (piece_number e) b mem g
play_message_to (Ok m) b mem g = by_apply_to (applied_to ceiling b mem day_segments g m)

unfoldable pub played_to : BookReconstructor → Memory → Segment → List ℕ → PlayedTo
played_to b mem g bytes = cond (is_snapshot bytes) (by_bootstrap_to (bootstrapped_to ceiling b mem day_segments g bytes)) (play_message_to (read_message bytes) b mem g)

-- what of an index is about its places and bounds
abbrev pub Marks : List ℕ → Option Bounds → List Resting → Type 0
Marks places bounds os = (all (row_marked places) os ≡ true) × (all (row_bounded bounds) os ≡ true)

-- a state that passes 1, 2 and 3, and an index of its rows
pub record Plays (b : BookReconstructor) (ws places : List ℕ) (bounds : Option Bounds) : Type 0 where
  pub usable : Usable ceiling b (memory ws) day_segments
  pub index : Indexed places bounds (orders_of (memory ws) b.rows)
