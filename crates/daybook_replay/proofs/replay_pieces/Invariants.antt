-- The loop keeps that what the file comes to is the replay of the pieces left, from piece `i` on, on the book as it is now, its last record apart from the list
-- (`Loops`). A turn plays one piece (`after`) and files the record that it starts (`Keeps`); it stops the day (`loop-stops`) or goes on (`loop-next`).
use Rattle.daybook_replay.proofs.Replays.{Loops}
use Rattle.daybook_replay.proofs.replay_pieces.Given as goal

abbrev pub invariant-loop-i : goal.invariant-loop-i
invariant-loop-i l = Loops l.file.bytes.now l.standing.rows.now l.standing.book l.last l.segments l.i
