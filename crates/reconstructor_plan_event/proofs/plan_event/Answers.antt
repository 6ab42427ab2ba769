-- By the kind of event: the contract of each kind's plan is this one at that kind, for any rules and sequence where it looks at none. A received event is
-- only counted, and an unsupported one is refused.
use mathlib.Core.Path.{◌≡◌, refl}
use mir.Syntax.{w64}
use mir.Val.{to_z, of_z}
use borrow.Author.Rules.{rules}
use Rattle.reconstructor_plan.specs.Rules.{event_refusal, event_deed, effect, counter_of}
use Rattle.reconstructor_plan_event.proofs.plan_event.Goals as goal

pub returns-in-Received : goal.returns-in-Received
unfolding event_refusal event_deed effect counter_of
returns-in-Received c = rw c.in-Received.is (refl, refl, tt)

pub returns-in-Open : goal.returns-in-Open
returns-in-Open c =
    let p : to_z w64 (of_z w64 c.in-Open.price) ≡ c.in-Open.price = search rules in
    let q : to_z w64 (of_z w64 c.in-Open.remaining) ≡ c.in-Open.remaining = search rules in
    rw c.in-Open.is (rw (p, q) at c.plan_open.ensures)

pub returns-in-Done : goal.returns-in-Done
returns-in-Done c = rw c.in-Done.is (c.plan_done.ensures c.args.rules c.args.seq)

pub returns-in-Match : goal.returns-in-Match
returns-in-Match c =
    let p : to_z w64 (of_z w64 c.in-Match.price) ≡ c.in-Match.price = search rules in
    let q : to_z w64 (of_z w64 c.in-Match.size) ≡ c.in-Match.size = search rules in
    rw c.in-Match.is (rw (p, q) at (c.plan_match.ensures c.args.rules c.args.seq))

pub returns-in-Change : goal.returns-in-Change
returns-in-Change c = rw c.in-Change.is (c.plan_change.ensures c.args.rules)

pub returns-in-Unsupported : goal.returns-in-Unsupported
unfolding event_refusal
returns-in-Unsupported c = rw c.in-Unsupported.is refl
