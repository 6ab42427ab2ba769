-- What the exported readers answer and write: 4 or 5 as the reader of pieces says, last 7 where fewer words are lent than the value has, else 0. Only a success writes.
use Rattle.std.specs.Prelude.{ℕ, List, ◌++◌, cond, ltb, length, drop, Result}
use Rattle.message.specs.declared.SnapshotOrder.{SnapshotOrder}
use Rattle.piece.specs.Words.{order_words, read_message_told, read_snapshot_told}
use Rattle.host_answers.specs.Answers.{told_in}
use Rattle.message.specs.declared.L3Message.{L3Message}
use Rattle.message.specs.declared.L3Snapshot.{L3Snapshot}
use Rattle.piece.specs.declared.PieceError.{PieceError}

abbrev pub message_number : List ℕ → Result L3Message PieceError → ℕ
message_number out r = (told_in (read_message_told r) out).number

abbrev pub message_out : List ℕ → Result L3Message PieceError → List ℕ
message_out out r = (told_in (read_message_told r) out).out

abbrev pub snapshot_number : List ℕ → Result L3Snapshot PieceError → ℕ
snapshot_number out r = (told_in (read_snapshot_told r) out).number

abbrev pub snapshot_out : List ℕ → Result L3Snapshot PieceError → List ℕ
snapshot_out out r = (told_in (read_snapshot_told r) out).out

abbrev pub order_number : List ℕ → ℕ
order_number out = cond (ltb (length out) 4) 7 0

abbrev pub order_out : List ℕ → SnapshotOrder → List ℕ
order_out out o = cond (ltb (length out) 4) out (order_words o ++ drop 4 out)
