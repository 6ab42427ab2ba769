-- Where `read_checks` passes, the rows are lent and sound, and the scratch is long enough for `show_levels`; the rest goes by the status.
use mathlib.Core.Path.{ap}
use native.Mathlib.Omega.{arith}
use borrow.Author.Tests.{ltb-false}
use Rattle.std.proofs.lemmas.Result.{err_from_is_err_and}
use Rattle.book.specs.Memory.{memory}
use Rattle.reconstructor_checks.proofs.StateChecks.{said, said-none, sound, rows-ready}
use Rattle.reconstructor_view.specs.ValueReads.{read_refusal_of}
use Rattle.reconstructor_view.proofs.Readable.{readable}
use Rattle.reconstructor_reads.specs.LevelReads.{Shows, stale_shown, stale_read, leaves_stale, scratch_short}
use Rattle.reconstructor_reads_stale.proofs.stale_l2_under.Goals as goal

pub invariant_of-lent : goal.invariant_of-lent
invariant_of-lent c =
    let a = c.args in
    let m = memory a.rows.now in
    let v = said-none (read_refusal_of a.top.limit a.book m (scratch_short a.book a.scratch.now)) _ c.read_checks.ensures c.in_ok-read_checks.was in
    let r = readable a.top.limit a.book m (scratch_short a.book a.scratch.now) v in
    record { lent = rows-ready a.top.limit a.book m a.top.workable r.trusted }

pub invariant_of-sound : goal.invariant_of-sound
invariant_of-sound c =
    let a = c.args in
    let m = memory a.rows.now in
    let v = said-none (read_refusal_of a.top.limit a.book m (scratch_short a.book a.scratch.now)) _ c.read_checks.ensures c.in_ok-read_checks.was in
    let r = readable a.top.limit a.book m (scratch_short a.book a.scratch.now) v in
    record { sound = (sound a.book m r.trusted.sound).formed.sound }

pub returns-in_err-read_checks : goal.returns-in_err-read_checks
unfolding stale_read
returns-in_err-read_checks c =
    let a = c.args in
    let p = err_from_is_err_and c.from_residual.result c.from_residual.ensures.1 in
    rw (p.1, p.2, said (read_refusal_of a.top.limit a.book (memory a.rows.now) (scratch_short a.book a.scratch.now)) _ _ c.read_checks.ensures c.in_err-read_checks.was)

pub show_levels-requires : goal.show_levels-requires
show_levels-requires c =
    let a = c.args in
    let m = memory a.rows.now in
    let v = said-none (read_refusal_of a.top.limit a.book m (scratch_short a.book a.scratch.now)) _ c.read_checks.ensures c.in_ok-read_checks.was in
    let r = readable a.top.limit a.book m (scratch_short a.book a.scratch.now) v in
    let s = sound a.book m r.trusted.sound in
    record {
      n_le_max_orders = (s.few, ltb-false _ _ r.room);
      l2words_le_width = (omega arith, omega arith);
    }

pub returns-in-Empty : goal.returns-in-Empty
unfolding stale_read
returns-in-Empty c =
    let a = c.args in
    let v = said-none (read_refusal_of a.top.limit a.book (memory a.rows.now) (scratch_short a.book a.scratch.now)) _ c.read_checks.ensures c.in_ok-read_checks.was in
    rw (v, c.in-Empty.is)

pub returns-in-Valid : goal.returns-in-Valid
unfolding stale_read
returns-in-Valid c =
    let a = c.args in
    let v = said-none (read_refusal_of a.top.limit a.book (memory a.rows.now) (scratch_short a.book a.scratch.now)) _ c.read_checks.ensures c.in_ok-read_checks.was in
    rw (v, c.in-Valid.is)

pub returns-in_err-count-in-Invalidated : goal.returns-in_err-count-in-Invalidated
unfolding stale_read
returns-in_err-count-in-Invalidated c =
    let a = c.args in
    let v = said-none (read_refusal_of a.top.limit a.book (memory a.rows.now) (scratch_short a.book a.scratch.now)) _ c.read_checks.ensures c.in_ok-read_checks.was in
    let p = err_from_is_err_and c.from_residual-in_err-count-in-Invalidated.result c.from_residual-in_err-count-in-Invalidated.ensures.1 in
    rw (v, c.in-Invalidated.is, p.1, p.2) (ap (λ (w : Shows). leaves_stale (stale_shown w.answer) w.scratch w.out) c.in_err-count-in-Invalidated.ensures)

pub returns-in_ok-count-in-Invalidated : goal.returns-in_ok-count-in-Invalidated
unfolding stale_read
returns-in_ok-count-in-Invalidated c =
    let a = c.args in
    let v = said-none (read_refusal_of a.top.limit a.book (memory a.rows.now) (scratch_short a.book a.scratch.now)) _ c.read_checks.ensures c.in_ok-read_checks.was in
    rw (v, c.in-Invalidated.is) (ap (λ (w : Shows). leaves_stale (stale_shown w.answer) w.scratch w.out) c.in_ok-count-in-Invalidated.ensures)
