-- What a piece of a day file does to the book, and by which number it is answered.
use Rattle.std.specs.Prelude.{ℕ, Bool, false, cond, List, [], ◌∷◌, eqb, Result, Ok, Err}
use Rattle.piece.specs.Piece.{piece_number, read_message}
use Rattle.book.specs.Memory.{Memory}
use Rattle.reconstructor_answers.specs.Numbers.{answer_number}
use Rattle.reconstructor_segments.specs.declared.Segment.{Segment}
use Rattle.reconstructor_state.specs.declared.BookReconstructor.{BookReconstructor}
use Rattle.reconstructor_state.specs.State.{ceiling}
use Rattle.reconstructor.specs.Applied as apply
use Rattle.reconstructor_bootstrap.specs.Numbers.{snapshot_number}
use Rattle.reconstructor_bootstrap.specs.Bootstrap as bootstrap
use Rattle.message.specs.declared.L3Message.{L3Message}
use Rattle.piece.specs.declared.PieceError.{PieceError}

-- a day's book: its state, its memory and its segment list
pub record DayBook : Type 0 where
  pub book : BookReconstructor
  pub memory : Memory
  pub segments : List Segment

-- the number that a piece is answered with, and what stands after it
pub record Played : Type 0 where
  pub number : ℕ
  pub after : DayBook

abbrev pub by_bootstrap : bootstrap.Parts → Played
by_bootstrap p = record { number = snapshot_number p.answer; after = record { book = p.book; memory = p.memory; segments = p.segments } }

abbrev pub by_apply : apply.Parts → Played
by_apply p = record { number = answer_number p.answer; after = record { book = p.book; memory = p.memory; segments = p.segments } }

-- a message goes through the reader: 4 or 5, or `apply` decides
abbrev pub play_message : Result L3Message PieceError → DayBook → Played
play_message (Err e) s = record { number = piece_number e; after = s }
play_message (Ok m) s = by_apply (apply.applied ceiling s.book s.memory s.segments m)

-- 01, Rows and pieces: "kind byte (0 snapshot"; a piece of no bytes has none
abbrev pub is_snapshot : List ℕ → Bool
is_snapshot [] = false
is_snapshot (kind ∷ bytes) = eqb kind 0

unfoldable pub played : DayBook → List ℕ → Played
played s bytes =
    cond (is_snapshot bytes) (by_bootstrap (bootstrap.bootstrapped ceiling s.book s.memory s.segments bytes)) (play_message (read_message bytes) s)
