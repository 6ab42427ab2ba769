-- What an estimate comes to, where it has words, and where it has too few.
-- Assumes nothing.
use Rattle.std.specs.Prelude.{Option, Some, None, Result, Ok, Err}
use Prim.Native.Nat.{ℕ, ◌≤◌, ◌<◌}
use mathlib.Core.Path.{◌≡◌, refl, ap, ◌∙◌}
use mathlib.Core.Bool.{Bool, true, false, cond}
use mathlib.Core.List.{List}
use borrow.Author.Tests.{lt-ltb, le-ltb}
use lib.Dec.{ltb}
use lib.ListN.{length}
use lib.IntN.{ℤ}
use Rattle.message.specs.declared.L3Side.{L3Side}
use Rattle.message.specs.Amounts.{nat_of}
use Rattle.book.specs.Memory.{Memory, orders_of}
use Rattle.book_levels.specs.Levels.{written}
use Rattle.book_queue.specs.declared.EntryForm.TheVariants.{Ahead}
use Rattle.book_queue.specs.Queue.{rows_at, entries_words}
use Rattle.reconstructor_state.specs.declared.BookReconstructor.{BookReconstructor}
use Rattle.reconstructor_state.specs.State.{ceiling, last_of}
use Rattle.reconstructor_view.specs.declared.ViewError.{ViewError}
use Rattle.reconstructor_view.specs.Numbers.{sequence_told}
use Rattle.reconstructor_view.specs.ValueReads.{sequence_of, view_refusal_of}
use Rattle.queue.specs.declared.QueueEstimate.{QueueEstimate}
use Rattle.queue.specs.declared.QueueError.TheVariants.{OutputTooSmall}
use Rattle.queue.specs.Numbers.{estimate_told}
use Rattle.queue.specs.Estimates.{EstimateParts, estimate_leaves, hypothetical, listed, estimated, queue_estimate}
use Rattle.host_answers.specs.Answers.{Answered, answered, told_in, lastly}
use Rattle.host_estimates.specs.Estimates.{estimate_called, after_estimate}
use Rattle.queue.specs.declared.QueueError.{QueueError}

pub estimate-stored : (k : ℕ) (l e l₀ e₀ : List ℕ) → 8 ≤ length e₀ → (a : Result QueueEstimate QueueError) (r : EstimateParts) → answered k e ≡ told_in (estimate_told a) e₀ → estimate_leaves a l ≡ r
    → estimate_called k l e ≡ after_estimate l₀ e₀ r
estimate-stored k l e l₀ e₀ h a r p q =
    let z : estimate_called (told_in (estimate_told a) e₀).number l (told_in (estimate_told a) e₀).out ≡ after_estimate l₀ e₀ (estimate_leaves a l) =
    rw (le-ltb (length e₀) 8 h) in
    ap (λ (x : Answered). estimate_called x.number l x.out) p ∙ z ∙ ap (after_estimate l₀ e₀) q

module _ (l : List ℕ) (q : QueueEstimate) (words : List ℕ) where
  -- a list that has room and one that has none are both 7 where the estimate has no words
  listed-lastly : (b : Bool) → 7 ≡ lastly (estimate_told (cond b (estimate_leaves (Err OutputTooSmall) l) (estimate_leaves (Ok q) (written words l))).answer).number
  listed-lastly true = refl
  listed-lastly false = refl

  estimate-lastly : (o : Option ViewError) (last : ℕ) → lastly (sequence_told (sequence_of o last)).number ≡ lastly (estimate_told (estimated o (listed q words l) l).answer).number
  unfolding sequence_of estimated
  estimate-lastly (Some x) last = refl
  estimate-lastly None last = listed-lastly (ltb (length l) (length words))

-- without words for the estimate
pub estimate-unwritten : (k : ℕ) (l e : List ℕ) (b : BookReconstructor) (mem : Memory) (s : L3Side) (z : ℤ) → length e < 8
    → k ≡ lastly (sequence_told (sequence_of (view_refusal_of ceiling b mem false) (last_of b.status))).number → estimate_called k l e ≡ after_estimate l e (queue_estimate ceiling b mem s z l)
estimate-unwritten k l e b mem s z h q =
    rw (lt-ltb (length e) 8 h, q)
    (ap (λ (n : ℕ). estimate_called n l e)
    (estimate-lastly l (hypothetical b s z (orders_of mem b.rows)) (entries_words Ahead (rows_at s (nat_of z) (orders_of mem b.rows))) (view_refusal_of ceiling b mem false) (last_of b.status)))
