-- The number that a piece's answer has in 01's table.
use Rattle.std.specs.Prelude.{ℕ}
use Rattle.piece.specs.Piece.{piece_number}
use Rattle.reconstructor_answers.specs.Numbers.{answer_number}
use Rattle.reconstructor_bootstrap.specs.Numbers.{snapshot_number}
use Rattle.daybook_pieces.specs.declared.Answer.{Answer}
use Rattle.daybook_pieces.specs.declared.Answer.TheVariants.{Unread, Snapshot, Message}

abbrev pub piece_answer_number : Answer → ℕ
piece_answer_number (Unread e) = piece_number e
piece_answer_number (Snapshot a) = snapshot_number a
piece_answer_number (Message a) = answer_number a
