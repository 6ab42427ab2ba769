-- Where `valid_book` answers a sequence, 1, 2 and 3 are passed: the rows are lent and sound, and the scratch is long enough for `show_levels`.
use Rattle.std.proofs.lemmas.Result.{err_from_is_err_and}
use mathlib.Core.Path.{ap}
use borrow.Author.Tests.{ltb-false}
use Rattle.book.specs.Memory.{memory}
use Rattle.reconstructor_checks.proofs.StateChecks.{sound, rows-ready}
use Rattle.reconstructor_view.proofs.Readable.{refused-for, found-valid}
use Rattle.reconstructor_reads.specs.LevelReads.{Shows, level_read, level_shown, leaves, scratch_short}
use Rattle.reconstructor_reads_side.proofs.level_read.Goals as goal

pub invariant_of-lent : goal.invariant_of-lent
invariant_of-lent c =
    let a = c.args in
    let m = memory a.rows.now in
    let v = found-valid a.top.limit a.book m (scratch_short a.book a.scratch.now) _ c.valid_book.ensures _ c.in_ok-valid_book.was in
    record { lent = rows-ready a.top.limit a.book m a.top.workable v.2.trusted }

pub invariant_of-sound : goal.invariant_of-sound
invariant_of-sound c =
    let a = c.args in
    let m = memory a.rows.now in
    let v = found-valid a.top.limit a.book m (scratch_short a.book a.scratch.now) _ c.valid_book.ensures _ c.in_ok-valid_book.was in
    record { sound = (sound a.book m v.2.trusted.sound).formed.sound }

pub returns-in_err-valid_book : goal.returns-in_err-valid_book
unfolding level_read
returns-in_err-valid_book c =
    let a = c.args in
    let p = err_from_is_err_and c.from_residual.result c.from_residual.ensures.1 in
    rw (p.1, p.2, refused-for a.top.limit a.book (memory a.rows.now) (scratch_short a.book a.scratch.now) _ c.valid_book.ensures _ c.in_err-valid_book.was)

pub show_levels-requires : goal.show_levels-requires
show_levels-requires c =
    let a = c.args in
    let m = memory a.rows.now in
    let v = found-valid a.top.limit a.book m (scratch_short a.book a.scratch.now) _ c.valid_book.ensures _ c.in_ok-valid_book.was in
    let s = sound a.book m v.2.trusted.sound in
    record {
      n_le_max_orders = (s.few, ltb-false _ _ v.2.room);
      l2words_le_width = c.requires;
    }

pub returns-in_err-count : goal.returns-in_err-count
unfolding level_read
returns-in_err-count c =
    let a = c.args in
    let v = found-valid a.top.limit a.book (memory a.rows.now) (scratch_short a.book a.scratch.now) _ c.valid_book.ensures _ c.in_ok-valid_book.was in
    let p = err_from_is_err_and c.from_residual-in_err-count.result c.from_residual-in_err-count.ensures.1 in
    rw (v.0, p.1, p.2) (ap (λ (w : Shows). leaves (level_shown w.answer) w.scratch w.out) c.in_err-count.ensures)

pub returns : goal.returns
unfolding level_read
returns c =
    let a = c.args in
    let v = found-valid a.top.limit a.book (memory a.rows.now) (scratch_short a.book a.scratch.now) _ c.valid_book.ensures _ c.in_ok-valid_book.was in
    rw v.0 (ap (λ (w : Shows). leaves (level_shown w.answer) w.scratch w.out) c.in_ok-count.ensures)
