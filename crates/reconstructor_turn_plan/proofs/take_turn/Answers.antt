-- The tests of the sequence are those of `turn_refusal`, in its order, and 22 passed lets `last + 1` fit a word. Past them `plan_event` answers the event's
-- refusal, which ends the chain, or a plan for its deed.
use mathlib.Core.Path.{refl}
use borrow.Author.Tests.{eq-eqb, ne_eqb, le-leb, lt-leb, lt-ltb, le-ltb}
use Rattle.reconstructor.specs.Refusals.{turn_refusal}
use Rattle.reconstructor_state.proofs.Checks.{fails, goes_on, first_on, first-fails}
use Rattle.reconstructor_turn_plan.proofs.take_turn.Goals as goal

pub returns-then-last_seq-eq18446744073709551615 : goal.returns-then-last_seq-eq18446744073709551615
unfolding turn_refusal
returns-then-last_seq-eq18446744073709551615 c = fails _ _ _ (eq-eqb _ _ c.if-last_seq-eq18446744073709551615.true)

pub returns-then-seq-last_seq : goal.returns-then-seq-last_seq
unfolding turn_refusal
returns-then-seq-last_seq c = goes_on _ _ _ _ (ne_eqb _ _ c.if-last_seq-eq18446744073709551615.false) (fails _ _ _ (le-leb _ _ c.if-seq-last_seq.true))

pub returns-then-seq-expected : goal.returns-then-seq-expected
unfolding turn_refusal
returns-then-seq-expected c = goes_on _ _ _ _ (ne_eqb _ _ c.if-last_seq-eq18446744073709551615.false) (goes_on _ _ _ _ (lt-leb _ _ c.if-seq-last_seq.false) (fails _ _ _ (lt-ltb _ _ c.if-seq-expected.true)))

pub returns-in-Ok : goal.returns-in-Ok
unfolding turn_refusal
returns-in-Ok c =
    let h = rw c.in-Ok.is at c.plan_event.ensures in
    (goes_on _ _ _ _ (ne_eqb _ _ c.if-last_seq-eq18446744073709551615.false) (goes_on _ _ _ _ (lt-leb _ _ c.if-seq-last_seq.false) (goes_on _ _ _ _ (le-ltb _ _ c.if-seq-expected.false) (first_on _ _ _ _ h.0 refl))), h.1, h.2)

pub returns-in-Err : goal.returns-in-Err
unfolding turn_refusal
returns-in-Err c =
    let h = rw c.in-Err.is at c.plan_event.ensures in
    goes_on _ _ _ _ (ne_eqb _ _ c.if-last_seq-eq18446744073709551615.false) (goes_on _ _ _ _ (lt-leb _ _ c.if-seq-last_seq.false) (goes_on _ _ _ _ (le-ltb _ _ c.if-seq-expected.false) (first-fails _ _ _ _ h)))
