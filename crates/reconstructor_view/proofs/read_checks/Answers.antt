-- Each test of the code is one of the definition, in its order; 1 passed bounds the limits, 2 passed lends the rows that 3 looks at.
use mathlib.Core.Path.{refl}
use Rattle.reconstructor_state.proofs.Checks.{fails, goes_on, told-true, told-false}
use Rattle.reconstructor_checks.specs.StateChecks.{memory_short}
use Rattle.reconstructor_checks.proofs.StateChecks.{says, says_none}
use Rattle.reconstructor_view.specs.ValueReads.{read_refusal}
use Rattle.reconstructor_view.proofs.read_checks.Goals as goal

pub returns-then-over_ceiling : goal.returns-then-over_ceiling
unfolding read_refusal
returns-then-over_ceiling c = says (fails _ _ _ (told-true c.over_ceiling.ensures c.if-over_ceiling.true))

pub returns-then-memory_short-short : goal.returns-then-memory_short-short
unfolding read_refusal
returns-then-memory_short-short c =
    let s = rw c.memory_short.ensures at c.if-memory_short-short.true in
    says (goes_on _ _ _ _ (told-false c.over_ceiling.ensures c.if-over_ceiling.false) (fails _ _ _ s))

pub returns-then-broken : goal.returns-then-broken
unfolding read_refusal
returns-then-broken c =
    let s = rw c.memory_short.ensures at c.if-memory_short-short.false in
    says (goes_on _ _ _ _ (told-false c.over_ceiling.ensures c.if-over_ceiling.false) (goes_on _ _ _ _ s (fails _ _ _ (told-true c.broken.ensures c.if-broken.true))))

pub returns : goal.returns
unfolding read_refusal
returns c =
    let s = rw c.memory_short.ensures at c.if-memory_short-short.false in
    says_none (goes_on _ _ _ _ (told-false c.over_ceiling.ensures c.if-over_ceiling.false) (goes_on _ _ _ _ s (goes_on _ _ _ _ (told-false c.broken.ensures c.if-broken.false) refl)))
