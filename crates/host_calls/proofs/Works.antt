-- What a call leaves on words, where its work was done by value.
-- Assumes nothing.
use Prim.Native.Nat.{ℕ}
use mathlib.Core.Path.{◌≡◌, sym, ap, ap₂, ◌∙◌}
use mathlib.Core.List.{List}
use lib.Dec.{eqb}
use lib.ListN.{length, set, length-set}
use Rattle.message.specs.declared.L3Message.{L3Message}
use Rattle.book.specs.Memory.{memory}
use Rattle.reconstructor_segments.specs.declared.Segment.{Segment}
use Rattle.reconstructor_segments.specs.Segments.{last_segment, relast}
use Rattle.reconstructor_segments.proofs.Last.{length-relast}
use Rattle.reconstructor_state.specs.declared.BookReconstructor.{BookReconstructor}
use Rattle.reconstructor.specs.declared.Work.{Work}
use Rattle.reconstructor.specs.Applied.{Worked, worked, applied_to, applied, put_back}
use Rattle.reconstructor_bootstrap.specs.declared.Work as boots
use Rattle.reconstructor_bootstrap.specs.Bootstrap as boot
use Rattle.reconstructor_handshake.specs.declared.Handshake.{Handshake}
use Rattle.reconstructor_handshake.specs.declared.StepWork.{StepWork}
use Rattle.reconstructor_handshake.specs.Step.{step_number, StepWorked, step_worked, stepped_to, stepped, put_back as put_back_step}
use Rattle.host_records.specs.Records.{records_in, records_of, relaid}
use Rattle.reconstructor_bootstrap.specs.Numbers.{snapshot_number}
use Rattle.reconstructor_answers.specs.Numbers.{answer_number}
use Rattle.host_words.specs.Block.{restored, sets_status}
use Rattle.host_handshake.specs.HandshakeWords.{handshake_left, step_sets}
use Rattle.host_calls.specs.Calls.{called, after_apply, after_bootstrap, step_called, after_step}
use Rattle.host_records.proofs.Records.{length-records, records-relaid, relaid-twice}

module _ (top : ℕ) (st ws sg : List ℕ) (b : BookReconstructor) (g : Segment) (at : g ≡ last_segment (records_of sg) b.segments) where
  abbrev records : List Segment
  records = records_of sg

  pub apply-leaves : (m : L3Message) (w : Work) (vs tg : List ℕ) → worked w (memory vs) ≡ applied_to top b (memory ws) (records_in sg) g m
      → tg ≡ relaid sg (relast records b.segments w.segment)
      → called (answer_number w.answer) (restored st (sets_status w.answer) w.book) vs tg ≡ after_apply st sg (applied top b (memory ws) records m)
  unfolding applied
  apply-leaves m w vs tg e q =
      rw q
      (ap (λ (x : Worked). after_apply st sg (put_back records b.segments x))
      (e ∙ ap₂ (λ (n : ℕ) (x : Segment). applied_to top b (memory ws) n x m) (sym (length-records sg)) at))

  pub step-leaves : (h : Handshake) (hs : List ℕ) (m : L3Message) (w : StepWork) (vs tg : List ℕ) → step_worked w (memory vs) ≡ stepped_to top h b (memory ws) (records_in sg) g m
      → tg ≡ relaid sg (relast records b.segments w.segment)
      → step_called (step_number w.answer) (restored st (step_sets w.answer) w.book) vs tg (handshake_left hs w.handshake) ≡ after_step st sg hs (stepped top h b (memory ws) records m)
  unfolding stepped
  step-leaves h hs m w vs tg e q =
      rw q
      (ap (λ (x : StepWorked). after_step st sg hs (put_back_step records b.segments x))
      (e ∙ ap₂ (λ (n : ℕ) (x : Segment). stepped_to top h b (memory ws) n x m) (sym (length-records sg)) at))

  pub boot-leaves : (bytes : List ℕ) (w : boots.Work) (vs ug tg : List ℕ) → boot.booted w (memory vs) ≡ boot.bootstrapped_to top b (memory ws) (records_in sg) g bytes
      → ug ≡ relaid sg (relast records b.segments w.segment) → tg ≡ relaid ug (set (records_of ug) w.at w.started)
      → called (snapshot_number w.answer) (restored st (eqb (snapshot_number w.answer) 0) w.book) vs tg ≡ after_bootstrap st sg (boot.bootstrapped top b (memory ws) records bytes)
  unfolding boot.bootstrapped
  boot-leaves bytes w vs ug tg e p q =
      let first : List Segment = relast records b.segments w.segment in
      let many : length first ≡ records_in sg = length-relast records b.segments w.segment ∙ length-records sg in
      let read : records_of ug ≡ first = ap records_of p ∙ records-relaid sg first many in
      let last : tg ≡ relaid sg (set first w.at w.started) =
      q ∙ ap₂ (λ (x : List ℕ) (l : List Segment). relaid x (set l w.at w.started)) p read ∙ relaid-twice sg first (set first w.at w.started) (length-set first w.at w.started) in
      rw last
      (ap (λ (x : boot.Booted). after_bootstrap st sg (boot.put_back records b.segments x))
      (e ∙ ap₂ (λ (n : ℕ) (x : Segment). boot.bootstrapped_to top b (memory ws) n x bytes) (sym (length-records sg)) at))
