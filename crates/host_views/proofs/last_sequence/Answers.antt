use Rattle.std.proofs.Common.{rules}
use Prim.Native.Nat.{ℕ}
use Rattle.host_boundary.proofs.Passed.{either_way}
use Rattle.host_answers.specs.Answers.{answered}
use Rattle.host_views.specs.Views.{last_call}
use Rattle.host_views.proofs.last_sequence.Goals as goal

pub returns : goal.returns
unfolding last_call
returns c = either_way _ (λ (n : ℕ). answered n c.args.out.now) _ _ c.read_and_store.ensures.turned (λ z. let r = c.read_and_store.ensures.stored z in let stored = r.2 in search rules)
