-- One message applied to a book: the answer, the state, the lent memory and the last segment's record afterwards, for every input.
use Rattle.std.specs.Prelude.{ℕ, List, length, Option, Some, None, Result, Ok, Err}
use Rattle.message.specs.declared.L3Message.{L3Message}
use Rattle.book.specs.Memory.{Memory, orders_of, line_in, orders_by, memory_by}
use Rattle.reconstructor_answers.specs.declared.Applied.{Applied}
use Rattle.reconstructor_counts.specs.declared.Counter.{Counter}
use Rattle.reconstructor_counts.specs.declared.Counter.TheVariants.{WrongProduct, SkippedWhileInvalid}
use Rattle.reconstructor_segments.specs.declared.Segment.{Segment}
use Rattle.reconstructor_answers.specs.declared.Invalidation.{Invalidation}
use Rattle.reconstructor_answers.specs.declared.InvalidationKind.{InvalidationKind}
use Rattle.reconstructor_state.specs.declared.Status.TheVariants.{Valid, Invalidated}
use Rattle.reconstructor_answers.specs.declared.ApplyError.{ApplyError}
use Rattle.reconstructor_answers.specs.declared.ApplyError.TheVariants as refusals
use Rattle.reconstructor_state.specs.declared.BookReconstructor.{BookReconstructor}
use Rattle.reconstructor_counts.specs.Counts.{counted}
use Rattle.reconstructor_segments.specs.Segments.{last_segment, relast, extended, ended}
use Rattle.reconstructor_state.specs.State.{with, with_counts, with_status, last_of, view_with, lengths_with}
use Rattle.reconstructor_checks.specs.StateChecks.{broken}
use Rattle.reconstructor_plan.specs.Rules.{Deed, answer_by, event_deed}
use Rattle.reconstructor.specs.declared.Reply.{Reply}
use Rattle.reconstructor.specs.declared.Work.{Work}
use Rattle.reconstructor.specs.Refusals.{gate_refusal, turn_refusal}

-- ---- what a call leaves

-- of the state and the memory
pub record Core : Type 0 where
  pub answer : Result Applied ApplyError
  pub book : BookReconstructor
  pub memory : Memory

abbrev pub core : Reply → Memory → Core
core r mem = record { answer = r.answer; book = r.book; memory = mem }

-- and of the last segment's record
pub record Worked : Type 0 where
  pub answer : Result Applied ApplyError
  pub book : BookReconstructor
  pub memory : Memory
  pub segment : Segment

abbrev pub worked : Work → Memory → Worked
worked w mem = record { answer = w.answer; book = w.book; memory = mem; segment = w.segment }

abbrev pub with_record : Core → Segment → Worked
with_record c g = record { answer = c.answer; book = c.book; memory = c.memory; segment = g }

-- and of the segment list
pub record Parts : Type 0 where
  pub answer : Result Applied ApplyError
  pub book : BookReconstructor
  pub memory : Memory
  pub segments : List Segment

abbrev pub leaves : Reply → Memory → List Segment → Parts
leaves r mem sg = record { answer = r.answer; book = r.book; memory = mem; segments = sg }

-- the record put back as the last of a list's first n; put back as it was, it leaves the list as it was
abbrev pub put_back : List Segment → ℕ → Worked → Parts
put_back sg n w = record { answer = w.answer; book = w.book; memory = w.memory; segments = relast sg n w.segment }

-- ---- the state

-- "another product is 10 (counts wrong_product) .. an invalid book is 17 (counts skipped_while_invalid)". "Save for the counts named above .. a refusal changes no
-- state and no buffer"
abbrev pub refused_book : BookReconstructor → Result Applied ApplyError → BookReconstructor
refused_book b (Ok a) = b
refused_book b (Err (refusals.Unusable e)) = b
refused_book b (Err refusals.AmountOutOfRange) = b
refused_book b (Err refusals.WrongProduct) = with_counts b (counted b.counts WrongProduct)
refused_book b (Err refusals.NotBootstrapped) = b
refused_book b (Err (refusals.Invalidated i)) = b
refused_book b (Err (refusals.AwaitingSnapshot i)) = with_counts b (counted b.counts SkippedWhileInvalid)

unfoldable pub refused_reply : BookReconstructor → Result Applied ApplyError → Reply
refused_reply b a = record { answer = a; book = refused_book b a }

-- "the answer is 16 with the last good sequence, the offending one and the reason"
abbrev pub invalidation : ℕ → ℕ → InvalidationKind → Invalidation
invalidation last seq k = record { last_good_seq = last; first_offending_seq = seq; kind = k }

-- "Results 20 to 44 invalidate .. the rows stay as stale book"
unfoldable pub invalidated_reply : BookReconstructor → ℕ → ℕ → InvalidationKind → Reply
invalidated_reply b last seq k =
    record { answer = Err (refusals.Invalidated (invalidation last seq k)); book = with_status b (Invalidated (invalidation last seq k)) }

-- "Acceptance sets last sequence .. and adds one to one counter"
unfoldable pub accepted_reply : BookReconstructor → ℕ → ℕ → Counter → Applied → Reply
accepted_reply b seq n k a = record { answer = Ok a; book = with b (Valid seq) n (counted b.counts k) }

unfoldable pub accepted : BookReconstructor → Memory → ℕ → Deed → Core
accepted b mem seq d =
    core (accepted_reply b seq (length (orders_by d.effect (orders_of mem b.rows))) d.counter (answer_by d.effect)) (memory_by mem b.rows d.effect)

-- ---- the last segment's record

abbrev pub next_segment : Segment → Result Applied ApplyError → ℕ → ℕ → Segment
next_segment g (Ok a) seq time = extended g seq time
next_segment g (Err (refusals.Unusable e)) seq time = g
next_segment g (Err refusals.AmountOutOfRange) seq time = g
next_segment g (Err refusals.WrongProduct) seq time = g
next_segment g (Err refusals.NotBootstrapped) seq time = g
next_segment g (Err (refusals.Invalidated i)) seq time = ended g i
next_segment g (Err (refusals.AwaitingSnapshot i)) seq time = g

-- ---- the whole

-- a message whose turn it is: it ends the segment for that reason, or is accepted
unfoldable pub decided : BookReconstructor → Memory → ℕ → L3Message → Option InvalidationKind → Core
decided b mem last m (Some k) = core (invalidated_reply b last m.sequence k) mem
decided b mem last m None = accepted b mem m.sequence (event_deed b.rules (line_in mem b.rows) m.sequence m.event)

abbrev pub at_turn : BookReconstructor → Memory → ℕ → L3Message → Core
at_turn b mem last m = decided b mem last m (turn_refusal b.rules (line_in mem b.rows) last m)

-- a message that is turned away before its turn, or let through
unfoldable pub after_gate : BookReconstructor → Memory → Segment → L3Message → Option ApplyError → Worked
after_gate b mem g m (Some e) = with_record (core (refused_reply b (Err e)) mem) g
after_gate b mem g m None =
    with_record (at_turn b mem (last_of b.status) m) (next_segment g (at_turn b mem (last_of b.status) m).answer m.sequence m.time_us)

-- any message, the last record being g, of a list of so many; the ceiling of the limits is an argument
abbrev pub book_gate : ℕ → BookReconstructor → Memory → ℕ → Segment → L3Message → Option ApplyError
book_gate top b mem lent g m = gate_refusal top b.product_id b.rules (lengths_with mem lent) (broken b mem) (view_with b mem g) m

unfoldable pub applied_to : ℕ → BookReconstructor → Memory → ℕ → Segment → L3Message → Worked
applied_to top b mem lent g m = after_gate b mem g m (book_gate top b mem lent g m)

-- on a lent list; before any snapshot there is no last record
unfoldable pub applied : ℕ → BookReconstructor → Memory → List Segment → L3Message → Parts
applied top b mem sg m = put_back sg b.segments (applied_to top b mem (length sg) (last_segment sg b.segments) m)
