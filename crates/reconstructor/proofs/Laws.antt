-- Laws that committing and the entry share.
-- Assumes nothing.
use Rattle.std.specs.Prelude.{Some, None}
use Prim.Native.Nat.{ℕ}
use mathlib.Core.Path.{◌≡◌, refl, ap, ap₂, ◌∙◌}
use mathlib.Core.List.{List}
use native.Mathlib.Omega.{arith}
use lib.ListN.{length}
use Rattle.message.specs.declared.ProductId.{ProductId}
use Rattle.message.specs.declared.L3Message.{L3Message}
use Rattle.book.specs.Rows.{most_rows, stored}
use Rattle.book.specs.Memory.{Memory, memory}
use Rattle.reconstructor_answers.specs.declared.ApplyError.TheVariants.{Unusable}
use Rattle.reconstructor_answers.specs.declared.StateError.{StateError}
use Rattle.reconstructor_state.specs.declared.Status.{Status}
use Rattle.reconstructor_state.specs.declared.Status.TheVariants.{Empty, Valid, Invalidated}
use Rattle.reconstructor_state.specs.declared.BookReconstructor.{BookReconstructor}
use Rattle.reconstructor_state.specs.State.{last_of}
use Rattle.reconstructor_segments.specs.declared.Segment.{Segment}
use Rattle.reconstructor_checks.specs.StateChecks.{book_refusal, Usable, Trusted}
use Rattle.reconstructor_plan.specs.Plans.{Ready, PlanOutcome}
use Rattle.reconstructor.specs.declared.Reply.{Reply}
use Rattle.reconstructor.specs.Refusals.{status_refusal, admit_refusal, gate_refusal}
use Rattle.reconstructor.specs.Applied.{core, accepted_reply, book_gate}
use Rattle.reconstructor.specs.Inner.{committed}
use Rattle.reconstructor_state.proofs.Checks.{passed, first-fails, first_on}
use Rattle.reconstructor_checks.proofs.StateChecks.{sound, orders-within, memory-room, usable-none}

-- ---- a plan committed

pub commits : (b : BookReconstructor) (ws : List ℕ) (seq : ℕ) (o : PlanOutcome) (r : Reply) (vs : List ℕ) (n : ℕ)
    → r ≡ accepted_reply b seq n o.counter o.answer → n ≡ length o.orders → vs ≡ stored ws b.rows o.orders
    → core r (memory vs) ≡ committed b ws seq o
unfolding committed
commits b ws seq o r vs n e l w =
    ap₂ (λ (x : Reply) (us : List ℕ). core x (memory us)) (e ∙ ap (λ (k : ℕ). accepted_reply b seq k o.counter o.answer) l) w

-- ---- the gate

pub gate-stops : (top : ℕ) (b : BookReconstructor) (mem : Memory) (lent : ℕ) (g : Segment) (m : L3Message) (e : StateError) → book_refusal top b mem lent ≡ Some e
    → book_gate top b mem lent g m ≡ Some (Unusable e)
unfolding gate_refusal
gate-stops top b mem lent g m e h = first-fails _ _ _ e h

-- what is left of the gate once 1, 2 and 3 are passed
pub gate-trusted : (top : ℕ) (b : BookReconstructor) (mem : Memory) (lent : ℕ) (g : Segment) (m : L3Message) → Usable top b mem lent
    → book_gate top b mem lent g m ≡ admit_refusal b.product_id b.status m
unfolding gate_refusal
gate-trusted top b mem lent g m u = first_on _ _ _ _ (usable-none top b mem lent u) refl

pub trusted-ready : (b : BookReconstructor) (mem : Memory) → Trusted most_rows b mem → Ready mem.rows b.rows b.rules.max_orders
trusted-ready b mem t =
    record { few = (sound b mem t.sound).few; room = memory-room b.rules mem t.room; small = orders-within most_rows b.rules t.within }

-- a status that is let through is valid
pub valid : (s : Status) → status_refusal s ≡ None → s ≡ Valid (last_of s)
valid Empty h = let z : ◌≡◌ {A = ℕ} 0 1 = cc in absurd (omega arith)
valid (Valid l) h = refl
valid (Invalidated i) h = let z : ◌≡◌ {A = ℕ} 0 1 = cc in absurd (omega arith)

pub admitted-valid : (p : ProductId) (s : Status) (m : L3Message) → admit_refusal p s m ≡ None → s ≡ Valid (last_of s)
unfolding admit_refusal
admitted-valid p s m h = valid s (passed _ _ _ (passed _ _ _ h).1).1
