-- A handshake step: what it answers and leaves, for every input. 01, bootstrap_with_buffer: "a handshake value for that segment stepped by one message a call:
-- after 1, 2, 3, 9, 5, the same product at or below that segment's start_seq, whatever the value holds, is dropped and counted; else `apply` decides. 10
-- passes by; 16 or 17 ends the handshake; it keeps the number applied."
use Rattle.std.specs.Prelude.{ℕ, Bool, true, not, ◌||◌, cond, List, [], eqb, length, Option, Some, None, Result, Ok, Err}
use Rattle.message.specs.declared.L3Message.{L3Message}
use Rattle.message.specs.Values.{event_in_range}
use Rattle.book.specs.Memory.{Memory}
use Rattle.reconstructor_answers.specs.declared.StateError.{StateError}
use Rattle.reconstructor_answers.specs.declared.Applied.{Applied}
use Rattle.reconstructor_answers.specs.declared.ApplyError.{ApplyError}
use Rattle.reconstructor_answers.specs.declared.ApplyError.TheVariants as refusals
use Rattle.message.specs.Told.{Told, told, dropped_number}
use Rattle.reconstructor_answers.specs.Numbers.{answer_told}
use Rattle.reconstructor_counts.specs.declared.Counter.TheVariants.{HandshakeDropped}
use Rattle.reconstructor_counts.specs.Counts.{saturated, counted}
use Rattle.reconstructor_segments.specs.declared.Segment.{Segment}
use Rattle.reconstructor_segments.specs.declared.SegmentName.{SegmentName}
use Rattle.reconstructor_segments.specs.Segments.{same_segment, last_segment, relast}
use Rattle.reconstructor_state.specs.declared.VenueRules.{VenueRules}
use Rattle.reconstructor_state.specs.declared.BookReconstructor.{BookReconstructor}
use Rattle.reconstructor_state.specs.Checks.{check, first}
use Rattle.reconstructor_state.specs.State.{View, view_with, Lengths, lengths_with, with_counts, segment_of}
use Rattle.reconstructor_checks.specs.StateChecks.{state_refusal, broken}
use Rattle.reconstructor.specs.Applied.{Worked, applied_to}
use Rattle.reconstructor_handshake_rules.specs.Drops.{drops}
use Rattle.reconstructor_handshake.specs.declared.Handshake.{Handshake}
use Rattle.reconstructor_handshake.specs.declared.StepAnswer.{StepAnswer}
use Rattle.reconstructor_handshake.specs.declared.StepAnswer.TheVariants.{Stepped, Dropped, OtherSegment}
use Rattle.reconstructor_handshake.specs.declared.StepReply.{StepReply}
use Rattle.reconstructor_handshake.specs.declared.StepWork.{StepWork}

-- "a handshake value for that segment": of a book in so many segments. Before any snapshot there is none, so that it has ended
abbrev pub new_handshake : SegmentName → ℕ → Handshake
new_handshake name segments = record { segment = name; ended = eqb segments 0; applied = 0 }

-- ---- numbers

-- the answer of a step; a drop is a success
abbrev pub step_told : StepAnswer → Told
step_told (Stepped a) = answer_told a
step_told Dropped = told dropped_number []
step_told OtherSegment = told 9 []

abbrev pub step_number : StepAnswer → ℕ
step_number a = (step_told a).number

-- ---- when a step is turned away before `apply`

-- 9: "handshake ended, or of another segment"; before any snapshot a book is in none
abbrev pub other_segment : Handshake → SegmentName → ℕ → Bool
other_segment h name segments = h.ended || (eqb segments 0 || not (same_segment h.segment name))

-- 1, 2, 3, 9, 5; `three` says whether number 3 arises
unfoldable pub step_refusal : ℕ → VenueRules → Lengths → Bool → View → SegmentName → Handshake → L3Message → Option StepAnswer
step_refusal top v lent three w name h m =
    first (state_refusal top v lent three w.segments) (λ (e : StateError). Stepped (Err (refusals.Unusable e)))
    (check (other_segment h name w.segments) OtherSegment (check (not (event_in_range m.event)) (Stepped (Err refusals.AmountOutOfRange)) None))

-- ---- what a step leaves

-- of the handshake, the state, the memory and the last segment's record
pub record StepWorked : Type 0 where
  pub answer : StepAnswer
  pub handshake : Handshake
  pub book : BookReconstructor
  pub memory : Memory
  pub segment : Segment

abbrev pub step_worked : StepWork → Memory → StepWorked
step_worked w mem = record { answer = w.answer; handshake = w.handshake; book = w.book; memory = mem; segment = w.segment }

-- and of the segment list
pub record StepParts : Type 0 where
  pub answer : StepAnswer
  pub handshake : Handshake
  pub book : BookReconstructor
  pub memory : Memory
  pub segments : List Segment

abbrev pub step_leaves : StepReply → Memory → List Segment → StepParts
step_leaves r mem sg = record { answer = r.answer; handshake = r.handshake; book = r.book; memory = mem; segments = sg }

-- the record put back as the last of a list's first n; put back as it was, it leaves the list as it was
abbrev pub put_back : List Segment → ℕ → StepWorked → StepParts
put_back sg n w =
    record { answer = w.answer; handshake = w.handshake; book = w.book; memory = w.memory; segments = relast sg n w.segment }

abbrev pub with : Handshake → Bool → ℕ → Handshake
with h ended applied = record { segment = h.segment; ended = ended; applied = applied }

-- "10 passes by; 16 or 17 ends the handshake; it keeps the number applied"
abbrev pub after : Handshake → Result Applied ApplyError → Handshake
after h (Ok a) = with h h.ended (saturated h.applied)
after h (Err (refusals.Unusable e)) = h
after h (Err refusals.AmountOutOfRange) = h
after h (Err refusals.WrongProduct) = h
after h (Err refusals.NotBootstrapped) = h
after h (Err (refusals.Invalidated i)) = with h true h.applied
after h (Err (refusals.AwaitingSnapshot i)) = with h true h.applied

abbrev pub unchanged : StepAnswer → Handshake → BookReconstructor → Memory → Segment → StepWorked
unchanged a h b mem g = record { answer = a; handshake = h; book = b; memory = mem; segment = g }

-- `apply` has decided
abbrev pub by_apply : Handshake → Worked → StepWorked
by_apply h w =
    record { answer = Stepped w.answer; handshake = after h w.answer; book = w.book; memory = w.memory; segment = w.segment }

-- "dropped and counted"
abbrev pub dropped : Handshake → BookReconstructor → Memory → Segment → StepWorked
dropped h b mem g = unchanged Dropped h (with_counts b (counted b.counts HandshakeDropped)) mem g

-- a refusal, or else what the step does
unfoldable pub unless_refused : Option StepAnswer → StepWorked → Handshake → BookReconstructor → Memory → Segment → StepWorked
unless_refused (Some a) p h b mem g = unchanged a h b mem g
unless_refused None p h b mem g = p

-- any step, the last record being g, of a list of so many; the ceiling of the limits is an argument
unfoldable pub stepped_to : ℕ → Handshake → BookReconstructor → Memory → ℕ → Segment → L3Message → StepWorked
stepped_to top h b mem lent g m =
    unless_refused (step_refusal top b.rules (lengths_with mem lent) (broken b mem) (view_with b mem g) (segment_of b) h m)
    (cond (drops b.product_id g.start_seq m) (dropped h b mem g) (by_apply h (applied_to top b mem lent g m)))
    h
    b
    mem
    g

-- on a lent list; before any snapshot there is no last record
unfoldable pub stepped : ℕ → Handshake → BookReconstructor → Memory → List Segment → L3Message → StepParts
stepped top h b mem sg m = put_back sg b.segments (stepped_to top h b mem (length sg) (last_segment sg b.segments) m)
