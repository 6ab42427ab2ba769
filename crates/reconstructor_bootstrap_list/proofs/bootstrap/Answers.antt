-- What the work leaves, put back into the segment list: the last record rewritten and the started one at its place.
use mathlib.Core.Path.{◌≡◌, ap}
use Rattle.book.specs.Memory.{memory}
use Rattle.reconstructor_state.specs.State.{ceiling}
use Rattle.reconstructor_bootstrap.specs.Numbers.{snapshot_told}
use Rattle.reconstructor_bootstrap.specs.Bootstrap.{Booted, Parts, leaves, bootstrapped, put_back}
use Rattle.reconstructor_bootstrap_list.proofs.bootstrap.Goals as goal

pub returns : goal.returns
unfolding bootstrapped
returns c =
    let a = c.args in
    let e = rw (c.last_segment-last.ensures, c.segment_count-count.ensures) at c.bootstrap_by_value-work.ensures in
    let x : leaves c.reply_of.result (memory c.bootstrap_by_value-work.new.rows) c.append_segment.new.segments ≡ bootstrapped ceiling a.book (memory a.rows.now) a.segments.now a.bytes.now =
    rw (c.append_segment.ensures, c.rewrite_last.ensures, c.reply_of.ensures, c.segment_of-segment.ensures, c.at_of-at.ensures, c.started_of-started.ensures, c.segment_count-count.ensures) (ap (λ (y : Booted). put_back a.segments.now a.book.segments y) e) in
    (x, ap (λ (p : Parts). snapshot_told p.answer) x)
