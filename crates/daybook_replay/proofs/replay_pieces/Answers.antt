-- The loop keeps that what the file comes to is the replay of the pieces left, from piece `i` on, on the book as it is now, its last record apart from the list
-- (`Loops`). A turn plays one piece (`after`) and files the record that it starts (`Keeps`); it stops the day (`loop-stops`) or goes on (`loop-next`).
use mathlib.Core.Path.{sym, ◌∙◌}
use Rattle.daybook_file.specs.DayFile.{piece_at}
use Rattle.daybook_replay.proofs.Replays.{fresh-plays, Keeps, filed, apart, after, loop-start, loop-ends, loop-stops, loop-next}
use Rattle.daybook_replay.proofs.replay_pieces.Goals as goal
use Rattle.daybook_replay.proofs.replay_pieces.Goals.{then-turn-lt-DAY_SEGMENTS, else-turn-lt-DAY_SEGMENTS}

pub invariant_of-standing : goal.invariant_of-standing
invariant_of-standing c =
    rw (c.requires.0, c.fresh_book-book.ensures) record { plays = fresh-plays _ c.args.places.now _ c.requires.1 }

pub loop-i-init : goal.loop-i-init
loop-i-init c =
    rw (c.requires.0, c.no_segments-segments.ensures, c.none-last.ensures) (loop-start c.args.file.bytes.now c.fresh_book-book.result c.fresh_book-book.ensures)

pub returns-then-not-goes_on-clause-replays : goal.returns-then-not-goes_on-clause-replays
returns-then-not-goes_on-clause-replays c =
    let f = c.args.file.bytes.now in
    let l = c.loop-i in
    let s = l.standing in
    let t = c.play-turn in
    let v = t.new.standing in
    let j = c.if-turn-lt-DAY_SEGMENTS in
    let h = rw c.piece_count-i-end.ensures at c.loop-i-test.true in
    let e = rw c.piece.ensures at t.ensures.played in
    let k : Keeps l.segments s.book.segments t.result j.segments j.last = elim j.branch [ then-turn-lt-DAY_SEGMENTS w ↦ filed w.if-turn-lt-DAY_SEGMENTS.true (w.segments-is ∙ w.filed-kept.ensures) w.last-is | else-turn-lt-DAY_SEGMENTS w ↦ apart w.if-turn-lt-DAY_SEGMENTS.false w.segments-is w.last-is ] in
    let a = after s.book s.rows.now v.rows.now s.places.now (piece_at f l.i) s.bounds l.segments j.segments l.last j.last t.result v.book s.plays l.invariant.full l.invariant.none e k in
    c.ended.ensures ∙ rw c.number-number.ensures (loop-stops f s.rows.now s.book l.last l.segments l.i l.invariant v.rows.now t.result v.book j.segments j.last h a (rw c.number-number.ensures at (sym c.goes_on.ensures ∙ c.if-not-goes_on.true)))

pub loop-i-preserved : goal.loop-i-preserved
loop-i-preserved c =
    let f = c.args.file.bytes.now in
    let l = c.loop-i in
    let s = l.standing in
    let t = c.play-turn in
    let v = t.new.standing in
    let j = c.if-turn-lt-DAY_SEGMENTS in
    let h = rw c.piece_count-i-end.ensures at c.loop-i-test.true in
    let e = rw c.piece.ensures at t.ensures.played in
    let k : Keeps l.segments s.book.segments t.result j.segments j.last = elim j.branch [ then-turn-lt-DAY_SEGMENTS w ↦ filed w.if-turn-lt-DAY_SEGMENTS.true (w.segments-is ∙ w.filed-kept.ensures) w.last-is | else-turn-lt-DAY_SEGMENTS w ↦ apart w.if-turn-lt-DAY_SEGMENTS.false w.segments-is w.last-is ] in
    let a = after s.book s.rows.now v.rows.now s.places.now (piece_at f l.i) s.bounds l.segments j.segments l.last j.last t.result v.book s.plays l.invariant.full l.invariant.none e k in
    loop-next f s.rows.now s.book l.last l.segments l.i l.invariant v.rows.now t.result v.book j.segments j.last h a (rw c.number-number.ensures at (sym c.goes_on.ensures ∙ c.if-not-goes_on.false))

pub returns-clause-replays : goal.returns-clause-replays
returns-clause-replays c =
    let l = c.loop-i in
    c.ended-2.ensures ∙ loop-ends c.args.file.bytes.now l.standing.rows.now l.standing.book l.last l.segments l.i l.invariant (rw c.piece_count-i-end.ensures at c.loop-i-test.false)
