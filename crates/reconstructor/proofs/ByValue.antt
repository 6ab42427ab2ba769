-- What the work of a message comes to, by cases: what its core leaves, with what that makes of the last segment's record.
-- Assumes nothing.
use Prim.Native.Nat.{ℕ}
use mathlib.Core.Path.{◌≡◌, ap}
use mathlib.Core.List.{List}
use lib.ListN.{length}
use Rattle.message.specs.declared.L3Message.{L3Message}
use Rattle.book.specs.Memory.{Memory}
use Rattle.reconstructor_segments.specs.declared.Segment.{Segment}
use Rattle.reconstructor_segments.specs.Segments.{last_segment}
use Rattle.reconstructor_state.specs.declared.BookReconstructor.{BookReconstructor}
use Rattle.reconstructor_checks.specs.StateChecks.{Usable}
use Rattle.reconstructor.specs.declared.Reply.{Reply}
use Rattle.reconstructor.specs.Applied.{Core, core, with_record, next_segment, after_gate, applied_to, applied, put_back}
use Rattle.reconstructor.specs.Inner.{trusted_to}
use Rattle.reconstructor.proofs.Laws.{gate-trusted}

-- what the core leaves, with what it makes of the record
pub joins : (g h : Segment) (m : L3Message) (r : Reply) (mem : Memory) (t : Core) → core r mem ≡ t → h ≡ next_segment g r.answer m.sequence m.time_us
    → with_record (core r mem) h ≡ with_record t (next_segment g t.answer m.sequence m.time_us)
joins g h m r mem t e q = rw q (ap (λ (x : Core). with_record x (next_segment g x.answer m.sequence m.time_us)) e)

-- in a state that passes 1, 2 and 3
pub applied-trusted_to : (top : ℕ) (b : BookReconstructor) (mem : Memory) (lent : ℕ) (g : Segment) (m : L3Message) → Usable top b mem lent
    → applied_to top b mem lent g m ≡ trusted_to b mem g m
unfolding applied_to
applied-trusted_to top b mem lent g m u = ap (after_gate b mem g m) (gate-trusted top b mem lent g m u)

module _ (b : BookReconstructor) (mem : Memory) (sg : List Segment) (m : L3Message) (top : ℕ) where
  pub applied-trusted : Usable top b mem (length sg) → applied top b mem sg m ≡ put_back sg b.segments (trusted_to b mem (last_segment sg b.segments) m)
  unfolding applied
  applied-trusted u = ap (put_back sg b.segments) (applied-trusted_to top b mem (length sg) (last_segment sg b.segments) m u)
