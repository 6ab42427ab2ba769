-- 1, 2 and 3 are tested as the definition does, 2 of the rows and of the list in one. 1 passed bounds the limit, so that 2 can be worked out; 2 passed says
-- that the rows are lent, which 3 asks for.
use mathlib.Core.Path.{refl}
use Rattle.reconstructor_checks.specs.StateChecks.{state_refusal}
use Rattle.reconstructor_checks.proofs.StateChecks.{says, says_none}
use Rattle.reconstructor_state.proofs.Checks.{fails, goes_on, told-true, told-false}
use Rattle.reconstructor_checks.proofs.own_checks.Goals as goal

pub returns-then-over_ceiling : goal.returns-then-over_ceiling
unfolding state_refusal
returns-then-over_ceiling c = says (fails _ _ _ (told-true c.over_ceiling.ensures c.if-over_ceiling.true))

pub returns-then-memory_short-lent : goal.returns-then-memory_short-lent
unfolding state_refusal
returns-then-memory_short-lent c =
    let s = rw c.memory_short.ensures at c.if-memory_short-lent.true in
    says (goes_on _ _ _ _ (told-false c.over_ceiling.ensures c.if-over_ceiling.false) (fails _ _ _ s))

pub returns-then-broken : goal.returns-then-broken
unfolding state_refusal
returns-then-broken c =
    let s = rw c.memory_short.ensures at c.if-memory_short-lent.false in
    says (goes_on _ _ _ _ (told-false c.over_ceiling.ensures c.if-over_ceiling.false) (goes_on _ _ _ _ s (fails _ _ _ (told-true c.broken.ensures c.if-broken.true))))

pub returns : goal.returns
unfolding state_refusal
returns c =
    let s = rw c.memory_short.ensures at c.if-memory_short-lent.false in
    says_none (goes_on _ _ _ _ (told-false c.over_ceiling.ensures c.if-over_ceiling.false) (goes_on _ _ _ _ s (goes_on _ _ _ _ (told-false c.broken.ensures c.if-broken.false) refl)))
