-- By the answer of `take_turn`: where it plans, the rules do not refuse, and the plan fits and has the outcome of their deed, so committing it is their
-- acceptance. Where it breaks, the rules refuse for that reason, and the rows stay.
use mathlib.Core.Path.{◌∙◌, ap}
use Rattle.reconstructor.specs.declared.Reply.{Reply}
use Rattle.reconstructor.specs.Applied.{accepted, decided, core}
use Rattle.reconstructor.specs.Inner.{committed}
use Rattle.book.specs.Memory.{memory}
use Rattle.reconstructor_turn.proofs.apply_valid.Goals as goal

pub returns-in-Ok : goal.returns-in-Ok
unfolding decided accepted committed
returns-in-Ok c =
    let a = c.args in
    let h = rw c.in-Ok.is at c.take_turn.ensures in
    rw h.0 (c.commit.ensures ∙ ap (committed a.book a.rows.now a.message.sequence) h.1)

pub returns-in-Err : goal.returns-in-Err
unfolding decided
returns-in-Err c =
    let a = c.args in
    let h = rw c.in-Err.is at c.take_turn.ensures in
    rw h (ap (λ (r : Reply). core r (memory a.rows.now)) c.invalidated.ensures)
