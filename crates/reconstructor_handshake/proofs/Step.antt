-- A step, case by case, by value and on a list.
-- Assumes nothing.
use Rattle.std.specs.Prelude.{Option, Some, None, Err}
use Prim.Native.Nat.{ℕ}
use mathlib.Core.Path.{◌≡◌, refl, ap, ◌∙◌}
use mathlib.Core.Bool.{true, false, not, cond}
use mathlib.Core.List.{List}
use lib.ListN.{length}
use Rattle.message.specs.declared.L3Message.{L3Message}
use Rattle.message.specs.Values.{event_in_range}
use Rattle.book.specs.Memory.{Memory}
use Rattle.reconstructor_answers.specs.declared.StateError.{StateError}
use Rattle.reconstructor_answers.specs.declared.ApplyError.TheVariants as refusals
use Rattle.reconstructor_counts.specs.declared.Counter.TheVariants.{HandshakeDropped}
use Rattle.reconstructor_counts.specs.Counts.{counted}
use Rattle.reconstructor_segments.specs.declared.Segment.{Segment}
use Rattle.reconstructor_segments.specs.Segments.{last_segment}
use Rattle.reconstructor_segments.proofs.Last.{relast-same}
use Rattle.reconstructor_state.specs.declared.BookReconstructor.{BookReconstructor}
use Rattle.reconstructor_state.specs.State.{view_with, lengths_with, segment_of, with_counts}
use Rattle.reconstructor_state.specs.Checks.{check}
use Rattle.reconstructor_state.proofs.Checks.{fails, goes_on, first-fails, first_on}
use Rattle.reconstructor_checks.specs.StateChecks.{Usable, book_refusal, broken}
use Rattle.reconstructor_checks.proofs.StateChecks.{usable-none}
use Rattle.reconstructor.specs.Applied.{Worked, Parts, applied}
use Rattle.reconstructor.proofs.ByValue.{applied-trusted_to}
use Rattle.reconstructor_handshake.specs.declared.Handshake.{Handshake}
use Rattle.reconstructor_handshake.specs.declared.StepAnswer.{StepAnswer}
use Rattle.reconstructor_handshake.specs.declared.StepAnswer.TheVariants.{Stepped, Dropped, OtherSegment}
use Rattle.reconstructor_handshake.specs.Step.{other_segment, step_refusal, after, StepParts, StepWorked, unchanged, dropped, by_apply, unless_refused, put_back, stepped_to, stepped}
use Rattle.reconstructor_handshake_rules.specs.Drops.{drops}
use Rattle.reconstructor_handshake.specs.Inner.{step_to}

-- ---- by value

module _ (top : ℕ) (h : Handshake) (b : BookReconstructor) (mem : Memory) (lent : ℕ) (g : Segment) (m : L3Message) where
  abbrev refusal : Option StepAnswer
  refusal = step_refusal top b.rules (lengths_with mem lent) (broken b mem) (view_with b mem g) (segment_of b) h m

  turned-away : (a : StepAnswer) → refusal ≡ Some a → stepped_to top h b mem lent g m ≡ unchanged a h b mem g
  unfolding stepped_to unless_refused
  turned-away a e = rw e

  pub unusable-work : (e : StateError) → book_refusal top b mem lent ≡ Some e → stepped_to top h b mem lent g m ≡ unchanged (Stepped (Err (refusals.Unusable e))) h b mem g
  unfolding step_refusal
  unusable-work e q = turned-away _ (first-fails _ _ _ _ q)

  module _ (u : Usable top b mem lent) where
    -- once 1, 2 and 3 are passed
    pub usable-work : stepped_to top h b mem lent g m ≡ step_to h b mem g m
    unfolding stepped_to step_to step_refusal
    usable-work =
        rw (first_on _ _ _ _ (usable-none top b mem lent u) refl)
        (ap (λ (w : Worked). unless_refused (check (other_segment h (segment_of b) b.segments) OtherSegment (check (not (event_in_range m.event)) (Stepped (Err refusals.AmountOutOfRange)) None)) (cond (drops b.product_id g.start_seq m) (dropped h b mem g) (by_apply h w)) h b mem g) (applied-trusted_to top b mem lent g m u))

    other-work : other_segment h (segment_of b) b.segments ≡ true → stepped_to top h b mem lent g m ≡ unchanged OtherSegment h b mem g
    unfolding step_refusal
    other-work p = turned-away _ (first_on _ _ _ _ (usable-none top b mem lent u) (fails _ _ _ p))

    module _ (p : other_segment h (segment_of b) b.segments ≡ false) where
      out_of_range-work : not (event_in_range m.event) ≡ true → stepped_to top h b mem lent g m ≡ unchanged (Stepped (Err refusals.AmountOutOfRange)) h b mem g
      unfolding step_refusal
      out_of_range-work q = turned-away _ (first_on _ _ _ _ (usable-none top b mem lent u) (goes_on _ _ _ _ p (fails _ _ _ q)))

      module _ (q : not (event_in_range m.event) ≡ false) where
        let_through : refusal ≡ None
        unfolding step_refusal
        let_through = first_on _ _ _ _ (usable-none top b mem lent u) (goes_on _ _ _ _ p (goes_on _ _ _ _ q refl))

        dropped-work : drops b.product_id g.start_seq m ≡ true → stepped_to top h b mem lent g m ≡ dropped h b mem g
        unfolding stepped_to unless_refused
        dropped-work d = rw (let_through, d)

-- ---- on a list

-- what a step leaves that touches neither handshake nor list, and one that `apply` has decided
abbrev pub unchanged_parts : StepAnswer → Handshake → BookReconstructor → Memory → List Segment → StepParts
unchanged_parts a h b mem sg = record { answer = a; handshake = h; book = b; memory = mem; segments = sg }

abbrev pub dropped_parts : Handshake → BookReconstructor → Memory → List Segment → StepParts
dropped_parts h b mem sg = unchanged_parts Dropped h (with_counts b (counted b.counts HandshakeDropped)) mem sg

abbrev pub decided_parts : Handshake → Parts → StepParts
decided_parts h p =
    record { answer = Stepped p.answer; handshake = after h p.answer; book = p.book; memory = p.memory; segments = p.segments }

module _ (top : ℕ) (h : Handshake) (b : BookReconstructor) (mem : Memory) (sg : List Segment) (m : L3Message) where
  abbrev last : Segment
  last = last_segment sg b.segments

  -- the record put back as it was
  same : (a : StepAnswer) (c : BookReconstructor) (w : StepWorked) → w ≡ unchanged a h c mem last → put_back sg b.segments w ≡ unchanged_parts a h c mem sg
  same a c w e = ap (put_back sg b.segments) e ∙ ap (unchanged_parts a h c mem) (relast-same sg b.segments)

  pub unusable-step : (e : StateError) → book_refusal top b mem (length sg) ≡ Some e → stepped top h b mem sg m ≡ unchanged_parts (Stepped (Err (refusals.Unusable e))) h b mem sg
  unfolding stepped
  unusable-step e q = same _ b _ (unusable-work top h b mem (length sg) last m e q)

  module _ (u : Usable top b mem (length sg)) where
    pub other_step : other_segment h (segment_of b) b.segments ≡ true → stepped top h b mem sg m ≡ unchanged_parts OtherSegment h b mem sg
    unfolding stepped
    other_step p = same _ b _ (other-work top h b mem (length sg) last m u p)

    module _ (p : other_segment h (segment_of b) b.segments ≡ false) where
      pub out_of_range-step : not (event_in_range m.event) ≡ true → stepped top h b mem sg m ≡ unchanged_parts (Stepped (Err refusals.AmountOutOfRange)) h b mem sg
      unfolding stepped
      out_of_range-step q = same _ b _ (out_of_range-work top h b mem (length sg) last m u p q)

      module _ (q : not (event_in_range m.event) ≡ false) where
        pub dropped_step : drops b.product_id last.start_seq m ≡ true → stepped top h b mem sg m ≡ dropped_parts h b mem sg
        unfolding stepped
        dropped_step d = same _ _ _ (dropped-work top h b mem (length sg) last m u p q d)

        pub decided-step : drops b.product_id last.start_seq m ≡ false → stepped top h b mem sg m ≡ decided_parts h (applied top b mem sg m)
        unfolding stepped stepped_to unless_refused applied
        decided-step d = rw (let_through top h b mem (length sg) last m u p q, d)
