use mathlib.Core.Path.{sym, ◌∙◌}
use Rattle.queue_ahead.proofs.ahead_of_own.Goals as goal

pub returns-in_default : goal.returns-in_default
returns-in_default c = let w = sym c.resting_since.ensures ∙ c.in_default.is in rw w

pub returns-then-place_unknown : goal.returns-then-place_unknown
returns-then-place_unknown c = let w = sym c.resting_since.ensures ∙ c.in-Some.is in rw (w, ← c.place_unknown.ensures, c.if-place_unknown.true)

pub returns : goal.returns
returns c = let w = sym c.resting_since.ensures ∙ c.in-Some.is in rw (w, ← c.place_unknown.ensures, c.if-place_unknown.false, ← c.tally_before-t.ensures) c.tallied.ensures
