-- What an exported step leaves: a refusal leaves every lent word but the count that 10 and 17 raise and, at 17, the end of the handshake; a drop raises one
-- count; and the words afterwards are the state and the handshake that the rules leave.
-- Assumes nothing.
use Rattle.std.specs.Prelude.{Option, Some, None, Result, Ok, Err}
use Prim.Native.Nat.{ℕ, ◌≤◌}
use mathlib.Core.Path.{◌≡◌, refl, sym, ap, ◌∙◌}
use mathlib.Core.Bool.{Bool, true, false, not, cond, ◌||◌}
use mathlib.Core.List.{List}
use lib.Dec.{eqb, ltb}
use lib.ListN.{length}
use Rattle.message.specs.declared.L3Message.{L3Message}
use Rattle.message.specs.Values.{event_in_range}
use Rattle.book.specs.Memory.{memory, extent_of}
use Rattle.reconstructor_answers.specs.declared.Applied.TheVariants.{BookChanged, NoBookEffect}
use Rattle.reconstructor_answers.specs.declared.StateError.{StateError}
use Rattle.reconstructor_answers.specs.declared.StateError.TheVariants.{LimitAboveCeiling, LentTooShort, MalformedBook}
use Rattle.reconstructor_answers.specs.declared.Applied.{Applied}
use Rattle.reconstructor_answers.specs.declared.ApplyError.{ApplyError}
use Rattle.reconstructor_answers.specs.declared.ApplyError.TheVariants as refusals
use Rattle.reconstructor_counts.specs.declared.Counter.TheVariants.{HandshakeDropped}
use Rattle.reconstructor_counts.specs.Counts.{counted as counted_in}
use Rattle.reconstructor_segments.specs.declared.Segment.{Segment}
use Rattle.reconstructor_segments.specs.Segments.{last_segment, relast}
use Rattle.reconstructor_state.specs.Checks.{check, first}
use Rattle.reconstructor_state.specs.State.{ceiling, view_with, lengths_with, segment_of}
use Rattle.reconstructor_checks.specs.StateChecks.{state_refusal, broken}
use Rattle.reconstructor.specs.Applied.{applied_to, applied}
use Rattle.reconstructor_handshake.specs.declared.StepAnswer.{StepAnswer}
use Rattle.reconstructor_handshake.specs.declared.StepAnswer.TheVariants.{Stepped, OtherSegment}
use Rattle.reconstructor_handshake.specs.Step.{other_segment, after, by_apply, dropped, step_refusal, unless_refused, StepWorked, put_back, stepped_to, stepped}
use Rattle.reconstructor_handshake_rules.specs.Drops.{drops}
use Rattle.host_records.specs.Records.{records_of, relaid}
use Rattle.reconstructor_answers.specs.Numbers.{answer_number}
use Rattle.host_words.specs.Block.{state_words, book_of, message_of, restored, raised}
use Rattle.host_word_tests.specs.WordTests.{no_handshake}
use Rattle.host_message_tests.specs.MessageTests.{no_message}
use Rattle.host_boundary.specs.Boundary.{unless_turned}
use Rattle.host_boundary.proofs.Passed.{Passed, passes, by-boundary}
use Rattle.host_handshake.specs.HandshakeWords.{handshake_of, handshake_left, step_sets}
use Rattle.host_calls.specs.Calls.{BookCall, StepCall, step_called, after_step, step_call}
use Rattle.laws.proofs.Bools.{absurd_bool, or_no}
use Rattle.host_words.proofs.Blocks.{block_same, raised-dropped}
use Rattle.host_words.proofs.RoundTrip.{block_back}
use Rattle.host_handshake.proofs.Words.{handshake-back, handshake-same}
use Rattle.host_words.proofs.Lent.{lent_two}
use Rattle.host_calls.specs.Refused.{acts, refused_state, step_acts, refused_handshake, step_refusal_leaves}
use Rattle.host_calls.proofs.Blocks.{relaid-last, applied-words, less, applied-state}

after-words : (hs : List ℕ) (a : Result Applied ApplyError) → 4 ≤ length hs → no_handshake hs ≡ false → acts (answer_number a) ≡ false → handshake_left hs (after (handshake_of hs) a) ≡ refused_handshake (answer_number a) hs
after-words hs (Ok BookChanged) long bit h = absurd_bool h
after-words hs (Ok NoBookEffect) long bit h = absurd_bool h
after-words hs (Err (refusals.Unusable LimitAboveCeiling)) long bit h = handshake-same hs long bit
after-words hs (Err (refusals.Unusable LentTooShort)) long bit h = handshake-same hs long bit
after-words hs (Err (refusals.Unusable MalformedBook)) long bit h = handshake-same hs long bit
after-words hs (Err refusals.AmountOutOfRange) long bit h = handshake-same hs long bit
after-words hs (Err refusals.WrongProduct) long bit h = handshake-same hs long bit
after-words hs (Err refusals.NotBootstrapped) long bit h = handshake-same hs long bit
after-words hs (Err (refusals.Invalidated i)) long bit h = absurd_bool h
after-words hs (Err (refusals.AwaitingSnapshot i)) long bit h = refl

-- no answer of `apply` has a drop's number
not-dropped : (a : Result Applied ApplyError) → eqb (answer_number a) 512 ≡ false
not-dropped (Ok BookChanged) = refl
not-dropped (Ok NoBookEffect) = refl
not-dropped (Err (refusals.Unusable LimitAboveCeiling)) = refl
not-dropped (Err (refusals.Unusable LentTooShort)) = refl
not-dropped (Err (refusals.Unusable MalformedBook)) = refl
not-dropped (Err refusals.AmountOutOfRange) = refl
not-dropped (Err refusals.WrongProduct) = refl
not-dropped (Err refusals.NotBootstrapped) = refl
not-dropped (Err (refusals.Invalidated i)) = refl
not-dropped (Err (refusals.AwaitingSnapshot i)) = refl

-- a step on words that are long enough, by what refuses it and whether it drops
module _ (top : ℕ) (st ws sg hs : List ℕ) (m : L3Message) (long : state_words ≤ length st) (full : 4 ≤ length hs) (bit : no_handshake hs ≡ false) where
  abbrev last : Segment
  last = last_segment (records_of sg) (book_of st).segments

  abbrev gate : Option StateError → Bool → Bool → Option StepAnswer
  gate o x y = first o (λ (e : StateError). Stepped (Err (refusals.Unusable e))) (check x OtherSegment (check y (Stepped (Err refusals.AmountOutOfRange)) None))

  abbrev worked : Option StepAnswer → Bool → StepWorked
  worked o d =
      unless_refused o
      (cond d (dropped (handshake_of hs) (book_of st) (memory ws) last) (by_apply (handshake_of hs) (applied_to top (book_of st) (memory ws) (length (records_of sg)) last m)))
      (handshake_of hs)
      (book_of st)
      (memory ws)
      last

  abbrev left : Option StepAnswer → Bool → StepCall
  left o d = after_step st sg hs (put_back (records_of sg) (book_of st).segments (worked o d))

  -- a refusal that no `apply` has decided
  kept : (k : ℕ) → step_called k (restored st false (book_of st)) ws (relaid sg (relast (records_of sg) (book_of st).segments last)) (handshake_left hs (handshake_of hs)) ≡ step_called k st ws sg hs
  kept k = rw (block_same st long, relaid-last sg (book_of st).segments, handshake-same hs full bit)

  left-refused : (o : Option StateError) (x y d : Bool) → step_acts (left (gate o x y) d).number ≡ false
      → left (gate o x y) d ≡ step_refusal_leaves (left (gate o x y) d).number st ws sg hs
  unfolding unless_refused first check applied
  left-refused (Some LimitAboveCeiling) x y d h = kept 1
  left-refused (Some LentTooShort) x y d h = kept 2
  left-refused (Some MalformedBook) x y d h = kept 3
  left-refused None true y d h = kept 9
  left-refused None false true d h = kept 5
  left-refused None false false true h = absurd_bool h
  left-refused None false false false h =
      let a = (applied top (book_of st) (memory ws) (records_of sg) m).answer in
      let refused = (or_no (acts (answer_number a)) (eqb (answer_number a) 512) h).0 in
      ap (λ (c : BookCall). step_called c.number c.state c.rows c.segments (handshake_left hs (after (handshake_of hs) a))) (applied-words st ws sg m long top refused) ∙
      ap (step_called (answer_number a) (refused_state (answer_number a) st) ws sg) (after-words hs a full bit refused)

  left-dropped : (o : Option StateError) (x y d : Bool) → eqb (left (gate o x y) d).number 512 ≡ true → left (gate o x y) d ≡ step_called 512 (raised st 23) ws sg hs
  unfolding unless_refused first check
  left-dropped (Some LimitAboveCeiling) x y d h = absurd_bool (sym h)
  left-dropped (Some LentTooShort) x y d h = absurd_bool (sym h)
  left-dropped (Some MalformedBook) x y d h = absurd_bool (sym h)
  left-dropped None true y d h = absurd_bool (sym h)
  left-dropped None false true d h = absurd_bool (sym h)
  left-dropped None false false true h = rw (raised-dropped st long, relaid-last sg (book_of st).segments, handshake-same hs full bit)
  left-dropped None false false false h = absurd_bool (sym h ∙ not-dropped (applied_to top (book_of st) (memory ws) (length (records_of sg)) last m).answer)

  left-state : (o : Option StepAnswer) (d : Bool) → book_of (left o d).state ≡ (worked o d).book
  unfolding unless_refused applied
  left-state (Some a) d =
      let b = book_of st in
      block_back st (step_sets a) b.status b.rows b.segments b.counts long (λ e. refl)
  left-state None true =
      let b = book_of st in
      block_back st false b.status b.rows b.segments (counted_in b.counts HandshakeDropped) long (λ e. refl)
  left-state None false = applied-state st ws sg m long top

-- 01's checks on a state
abbrev state_of : List ℕ → List ℕ → List ℕ → Option StateError
state_of st ws sg =
    let b = book_of st in
    state_refusal ceiling b.rules (lengths_with (memory ws) (length (records_of sg))) (broken b (memory ws)) b.segments

module _ (st ws sg hs m : List ℕ) where
  abbrev last_one : Segment
  last_one = last_segment (records_of sg) (book_of st).segments

  abbrev other : Bool
  other = other_segment (handshake_of hs) (segment_of (book_of st)) (book_of st).segments

  abbrev far : Bool
  far = not (event_in_range (message_of m).event)

  abbrev old : Bool
  old = drops (book_of st).product_id last_one.start_seq (message_of m)

  -- what is asked of the other inputs
  abbrev short : Bool
  short = ltb (length hs) 4 || ltb (length m) 21

  abbrev wrong : Bool
  wrong = no_handshake hs || no_message m

  abbrev left_by : ℕ → StepCall
  left_by k =
      unless_turned k (λ (n : ℕ). step_called n st ws sg hs) (after_step st sg hs (stepped ceiling (handshake_of hs) (book_of st) (memory ws) (records_of sg) (message_of m)))

  by-refused : Passed st short wrong → step_acts (left_by 0).number ≡ false → left_by 0 ≡ step_refusal_leaves (left_by 0).number st ws sg hs
  unfolding stepped stepped_to step_refusal
  by-refused p h =
      left-refused ceiling st ws sg hs (message_of m) p.whole (lent_two hs 4 m 21 p.full).0 (or_no (no_handshake hs) (no_message m) p.right).0 (state_of st ws sg) other far old h

  pub step-refused : step_acts (step_call st ws sg hs m).number ≡ false → step_call st ws sg hs m ≡ step_refusal_leaves (step_call st ws sg hs m).number st ws sg hs
  unfolding step_call
  step-refused =
      by-boundary st (extent_of (memory ws)) (less st sg) short wrong
      (λ (k : ℕ). step_acts (left_by k).number ≡ false → left_by k ≡ step_refusal_leaves (left_by k).number st ws sg hs)
      (λ h. refl) (λ h. refl) (λ h. refl) (λ h. refl) (λ h. refl) by-refused

  by-dropped : Passed st short wrong → eqb (left_by 0).number 512 ≡ true → left_by 0 ≡ step_called 512 (raised st 23) ws sg hs
  unfolding stepped stepped_to step_refusal
  by-dropped p h =
      left-dropped ceiling st ws sg hs (message_of m) p.whole (lent_two hs 4 m 21 p.full).0 (or_no (no_handshake hs) (no_message m) p.right).0 (state_of st ws sg) other far old h

  pub step-dropped : eqb (step_call st ws sg hs m).number 512 ≡ true → step_call st ws sg hs m ≡ step_called 512 (raised st 23) ws sg hs
  unfolding step_call
  step-dropped =
      by-boundary st (extent_of (memory ws)) (less st sg) short wrong (λ (k : ℕ). eqb (left_by k).number 512 ≡ true → left_by k ≡ step_called 512 (raised st 23) ws sg hs)
      (λ h. absurd_bool (sym h)) (λ h. absurd_bool (sym h)) (λ h. absurd_bool (sym h)) (λ h. absurd_bool (sym h)) (λ h. absurd_bool (sym h)) by-dropped

  module _ (p : Passed st short wrong) where
    pub step-state : book_of (step_call st ws sg hs m).state ≡ (stepped ceiling (handshake_of hs) (book_of st) (memory ws) (records_of sg) (message_of m)).book
    unfolding step_call stepped stepped_to
    step-state =
        rw (passes st (extent_of (memory ws)) (less st sg) short wrong p)
        (left-state ceiling st ws sg hs (message_of m) p.whole (lent_two hs 4 m 21 p.full).0 (or_no (no_handshake hs) (no_message m) p.right).0 (step_refusal ceiling (book_of st).rules (lengths_with (memory ws) (length (records_of sg))) (broken (book_of st) (memory ws)) (view_with (book_of st) (memory ws) last_one) (segment_of (book_of st)) (handshake_of hs) (message_of m)) old)

    pub step-handshake : handshake_of (step_call st ws sg hs m).handshake ≡ (stepped ceiling (handshake_of hs) (book_of st) (memory ws) (records_of sg) (message_of m)).handshake
    unfolding step_call
    step-handshake = rw (passes st (extent_of (memory ws)) (less st sg) short wrong p) (handshake-back hs _)
