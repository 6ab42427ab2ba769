-- What the inner functions promise: a step of a state that was tested before. Nothing here is for a reader to believe: the promise of a step speaks of
-- `stepped_to`.
use Rattle.std.specs.Prelude.{not, cond, None, Err}
use Rattle.message.specs.declared.L3Message.{L3Message}
use Rattle.message.specs.Values.{event_in_range}
use Rattle.book.specs.Memory.{Memory}
use Rattle.reconstructor_answers.specs.declared.ApplyError.TheVariants as refusals
use Rattle.reconstructor_segments.specs.declared.Segment.{Segment}
use Rattle.reconstructor_state.specs.declared.BookReconstructor.{BookReconstructor}
use Rattle.reconstructor_state.specs.Checks.{check}
use Rattle.reconstructor_state.specs.State.{segment_of}
use Rattle.reconstructor.specs.declared.Work.{Work}
use Rattle.reconstructor.specs.Inner.{trusted_to}
use Rattle.reconstructor_handshake.specs.declared.Handshake.{Handshake}
use Rattle.reconstructor_handshake.specs.declared.StepAnswer.TheVariants.{Stepped, OtherSegment}
use Rattle.reconstructor_handshake.specs.declared.StepReply.{StepReply}
use Rattle.reconstructor_handshake.specs.declared.StepWork.{StepWork}
use Rattle.reconstructor_handshake.specs.Step.{other_segment, StepWorked, after, dropped, by_apply, unless_refused}
use Rattle.reconstructor_handshake_rules.specs.Drops.{drops}

-- what 9 and 5 let pass is dropped, or `apply` decides
abbrev pub admitted_to : Handshake → BookReconstructor → Memory → Segment → L3Message → StepWorked
admitted_to h b mem g m =
    cond (drops b.product_id g.start_seq m) (dropped h b mem g) (by_apply h (trusted_to b mem g m))

-- in a state that passes 1, 2 and 3: 9, then 5
unfoldable pub step_to : Handshake → BookReconstructor → Memory → Segment → L3Message → StepWorked
step_to h b mem g m =
    unless_refused
    (check (other_segment h (segment_of b) b.segments) OtherSegment (check (not (event_in_range m.event)) (Stepped (Err refusals.AmountOutOfRange)) None))
    (admitted_to h b mem g m)
    h
    b
    mem
    g

-- what `apply` has decided, stored in the handshake
abbrev pub decided_of : Handshake → Work → StepWork
decided_of h w =
    record { handshake = after h w.answer; book = w.book; answer = Stepped w.answer; segment = w.segment }

abbrev pub step_reply_of : StepWork → StepReply
step_reply_of w = record { handshake = w.handshake; book = w.book; answer = w.answer }
