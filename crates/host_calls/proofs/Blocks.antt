-- What the exported calls on a book leave: a refusal leaves every lent word but the counts that 01 names, whatever the words hold; and the state
-- words afterwards are the state that the rules leave.
-- Assumes nothing.
use Rattle.std.specs.Prelude.{Option, Some, None, Result, Ok, Err}
use Prim.Native.Nat.{ℕ, ◌≤◌}
use mathlib.Core.Path.{◌≡◌, refl, sym, ap, ap₂, ◌∙◌}
use mathlib.Core.Bool.{Bool, true, false, cond, ◌||◌}
use mathlib.Core.List.{List}
use lib.Dec.{eqb, ltb}
use native.Mathlib.Omega.{arith}
use lib.ListN.{length, get_or, set}
use lib.Seq.{set_out}
use Rattle.message.specs.declared.L3Message.{L3Message}
use Rattle.piece.specs.Piece.{read_snapshot}
use Rattle.book.specs.Memory.{Memory, memory, extent_of, line_in}
use Rattle.reconstructor_answers.specs.declared.Applied.{Applied}
use Rattle.reconstructor_answers.specs.declared.Applied.TheVariants.{BookChanged, NoBookEffect}
use Rattle.reconstructor_answers.specs.declared.InvalidationKind.{InvalidationKind}
use Rattle.reconstructor_answers.specs.declared.StateError.TheVariants.{LimitAboveCeiling, LentTooShort, MalformedBook}
use Rattle.reconstructor_answers.specs.declared.ApplyError.{ApplyError}
use Rattle.reconstructor_answers.specs.declared.ApplyError.TheVariants as refusals
use Rattle.reconstructor_state.specs.declared.BookReconstructor.{BookReconstructor}
use Rattle.reconstructor_segments.specs.declared.Segment.{Segment}
use Rattle.reconstructor_segments.specs.Segments.{no_segment, last_segment, relast}
use Rattle.reconstructor_segments.proofs.Last.{relast-same}
use Rattle.reconstructor_state.specs.State.{ceiling, last_of}
use Rattle.reconstructor_plan.specs.Rules.{answer_by, event_deed}
use Rattle.reconstructor.specs.Refusals.{turn_refusal}
use Rattle.reconstructor.specs.Applied.{refused_book, refused_reply, invalidated_reply, accepted_reply, accepted, decided, after_gate, book_gate, applied_to, applied, put_back}
use Rattle.reconstructor_bootstrap.specs.declared.SnapshotError.TheVariants.{WrongProduct, DuplicateId, InvalidValue, Crossed, CapacityExceeded}
use Rattle.reconstructor_bootstrap.specs.declared.BootstrapError.{BootstrapError}
use Rattle.reconstructor_bootstrap.specs.declared.BootstrapError.TheVariants.{Unusable, NotAPiece, AmountOutOfRange, ListFull, Rejected}
use Rattle.reconstructor_bootstrap.specs.Numbers.{bootstrap_error_number}
use Rattle.reconstructor_bootstrap.specs.Snapshot.{piece_error}
use Rattle.reconstructor_bootstrap.specs.Bootstrap as boot
use Rattle.host_records.specs.Records.{records_in, records_of, relaid}
use Rattle.reconstructor_answers.specs.Numbers.{applied_number, apply_error_number, answer_number}
use Rattle.host_words.specs.Block.{state_words, book_of, message_of, restored, raised, sets_status}
use Rattle.host_word_tests.specs.WordTests.{no_book}
use Rattle.host_message_tests.specs.MessageTests.{no_message}
use Rattle.host_boundary.specs.Boundary.{unless_turned}
use Rattle.host_boundary.proofs.Passed.{Passed, passes, by-boundary}
use Rattle.host_calls.specs.Calls.{BookCall, called, after_apply, after_bootstrap, apply_call, bootstrap_call}
use Rattle.host_calls.specs.Refused.{acts, refused_state, refusal_leaves, snapshot_leaves}
use Rattle.laws.proofs.Bools.{absurd_bool}
use Rattle.reconstructor.proofs.Kept.{refusal-counts}
use Rattle.reconstructor_bootstrap.proofs.Laws.{refusal_of, counts_alone}
use Rattle.host_records.proofs.Records.{relaid-same}
use Rattle.host_words.proofs.Blocks.{block_same, raised-skipped, raised-product, raised-snapshots}
use Rattle.host_words.proofs.RoundTrip.{block_back}
use Rattle.message.specs.declared.L3Snapshot.{L3Snapshot}
use Rattle.piece.specs.declared.PieceError.{PieceError}

-- ---- `pinuglaw_apply`

refused-words : (st : List ℕ) (a : ApplyError) → state_words ≤ length st → acts (apply_error_number a) ≡ false
    → restored st (sets_status (Err a)) (refused_book (book_of st) (Err a)) ≡ refused_state (apply_error_number a) st
refused-words st (refusals.Unusable LimitAboveCeiling) long h = block_same st long
refused-words st (refusals.Unusable LentTooShort) long h = block_same st long
refused-words st (refusals.Unusable MalformedBook) long h = block_same st long
refused-words st refusals.AmountOutOfRange long h = block_same st long
refused-words st refusals.WrongProduct long h = raised-product st long
refused-words st refusals.NotBootstrapped long h = block_same st long
refused-words st (refusals.Invalidated i) long h = absurd_bool h
refused-words st (refusals.AwaitingSnapshot i) long h = raised-skipped st long

-- a message whose turn it is is applied, or answers 16
decided-acts : (b : BookReconstructor) (mem : Memory) (last : ℕ) (m : L3Message) (o : Option InvalidationKind) → acts (answer_number (decided b mem last m o).answer) ≡ true
unfolding decided invalidated_reply accepted accepted_reply
decided-acts b mem last m (Some k) = refl
decided-acts b mem last m None = go (answer_by (event_deed b.rules (line_in mem b.rows) m.sequence m.event).effect)
  where
    go : (a : Applied) → acts (applied_number a) ≡ true
    go BookChanged = refl
    go NoBookEffect = refl

decided-state : (st : List ℕ) (mem : Memory) (last : ℕ) (m : L3Message) (o : Option InvalidationKind) → state_words ≤ length st
    → book_of (restored st (sets_status (decided (book_of st) mem last m o).answer) (decided (book_of st) mem last m o).book) ≡ (decided (book_of st) mem last m o).book
unfolding decided invalidated_reply accepted accepted_reply
decided-state st mem last m (Some k) long = block_back st true _ _ _ _ long (λ e. absurd_bool e)
decided-state st mem last m None long = block_back st true _ _ _ _ long (λ e. absurd_bool e)

-- the last record rewritten with itself leaves the words of the list
pub relaid-last : (sg : List ℕ) (n : ℕ) → relaid sg (relast (records_of sg) n (last_segment (records_of sg) n)) ≡ sg
relaid-last sg n = ap (relaid sg) (relast-same (records_of sg) n) ∙ relaid-same sg

-- a message by what turns it away before its turn
module _ (st ws sg : List ℕ) (m : L3Message) (long : state_words ≤ length st) where
  abbrev last : Segment
  last = last_segment (records_of sg) (book_of st).segments

  abbrev turn : Option InvalidationKind
  turn = turn_refusal (book_of st).rules (line_in (memory ws) (book_of st).rows) (last_of (book_of st).status) m

  abbrev gated : Option ApplyError → BookCall
  gated o = after_apply st sg (put_back (records_of sg) (book_of st).segments (after_gate (book_of st) (memory ws) last m o))

  gated-words : (o : Option ApplyError) → acts (gated o).number ≡ false → gated o ≡ refusal_leaves (gated o).number st ws sg
  unfolding after_gate refused_reply
  gated-words (Some a) h = ap₂ (λ (l t : List ℕ). called (apply_error_number a) l ws t) (refused-words st a long h) (relaid-last sg (book_of st).segments)
  gated-words None h = absurd_bool (sym (decided-acts (book_of st) (memory ws) (last_of (book_of st).status) m turn) ∙ h)

  gated-state : (o : Option ApplyError) → book_of (gated o).state ≡ (after_gate (book_of st) (memory ws) last m o).book
  unfolding after_gate refused_reply
  gated-state (Some a) =
      let b = book_of st in
      rw (refusal-counts b (Err a)) (block_back st (sets_status (Err a)) b.status b.rows b.segments (refused_book b (Err a)).counts long (λ e. refl))
  gated-state None = decided-state st (memory ws) (last_of (book_of st).status) m turn long

  module _ (top : ℕ) where
    abbrev ruled : BookCall
    ruled = after_apply st sg (applied top (book_of st) (memory ws) (records_of sg) m)

    pub applied-words : acts ruled.number ≡ false → ruled ≡ refusal_leaves ruled.number st ws sg
    unfolding applied applied_to
    applied-words = gated-words (book_gate top (book_of st) (memory ws) (length (records_of sg)) last m)

    -- the state words afterwards are the state that the rules leave
    pub applied-state : book_of ruled.state ≡ (applied top (book_of st) (memory ws) (records_of sg) m).book
    unfolding applied applied_to
    applied-state = gated-state (book_gate top (book_of st) (memory ws) (length (records_of sg)) last m)

-- what a list of so many whole records is too short for
abbrev pub less : List ℕ → List ℕ → Bool
less st sg = ltb (records_in sg) (get_or st 14 0)

module _ (st ws sg m : List ℕ) where
  -- the call, by what the words are turned away for
  abbrev apply_by : ℕ → BookCall
  apply_by k = unless_turned k (λ (n : ℕ). called n st ws sg) (after_apply st sg (applied ceiling (book_of st) (memory ws) (records_of sg) (message_of m)))

  pub apply-refused : acts (apply_call st ws sg m).number ≡ false → apply_call st ws sg m ≡ refusal_leaves (apply_call st ws sg m).number st ws sg
  unfolding apply_call
  apply-refused =
      by-boundary st (extent_of (memory ws)) (less st sg) (ltb (length m) 21) (no_message m)
      (λ (k : ℕ). acts (apply_by k).number ≡ false → apply_by k ≡ refusal_leaves (apply_by k).number st ws sg)
      (λ h. refl) (λ h. refl) (λ h. refl) (λ h. refl) (λ h. refl) (λ p. applied-words st ws sg (message_of m) p.whole ceiling)

  pub apply-state : Passed st (ltb (length m) 21) (no_message m) → book_of (apply_call st ws sg m).state ≡ (applied ceiling (book_of st) (memory ws) (records_of sg) (message_of m)).book
  unfolding apply_call
  apply-state p =
      rw (passes st (extent_of (memory ws)) (less st sg) (ltb (length m) 21) (no_message m) p) (applied-state st ws sg (message_of m) p.whole ceiling)

-- ---- `pinuglaw_bootstrap`

rejected-words : (st : List ℕ) (x : BootstrapError) → state_words ≤ length st → eqb (bootstrap_error_number x) 0 ≡ false
    → restored st (eqb (bootstrap_error_number x) 0) (boot.refused_book (Err x) (book_of st)) ≡ cond (ltb (bootstrap_error_number x) 10 || ltb 14 (bootstrap_error_number x)) st (raised st 26)
rejected-words st (Unusable LimitAboveCeiling) long h = block_same st long
rejected-words st (Unusable LentTooShort) long h = block_same st long
rejected-words st (Unusable MalformedBook) long h = block_same st long
rejected-words st NotAPiece long h = block_same st long
rejected-words st AmountOutOfRange long h = block_same st long
rejected-words st ListFull long h = block_same st long
rejected-words st (Rejected WrongProduct) long h = raised-snapshots st long
rejected-words st (Rejected DuplicateId) long h = raised-snapshots st long
rejected-words st (Rejected InvalidValue) long h = raised-snapshots st long
rejected-words st (Rejected Crossed) long h = raised-snapshots st long
rejected-words st (Rejected CapacityExceeded) long h = raised-snapshots st long

module _ (st ws sg bytes : List ℕ) where
  abbrev many : ℕ
  many = length (records_of sg)

  abbrev last_one : Segment
  last_one = last_segment (records_of sg) (book_of st).segments

  -- the call by what the rules leave, then by what was found, and by what is lent
  abbrev written : boot.Booted → BookCall
  written w = after_bootstrap st sg (boot.put_back (records_of sg) (book_of st).segments w)

  abbrev found : Option BootstrapError → Result L3Snapshot PieceError → boot.Booted
  found o r = boot.unless_refused o (book_of st) (memory ws) many last_one (boot.taken r (book_of st) (memory ws) many last_one bytes)

  abbrev rejected : BootstrapError → BookCall
  rejected x = written (boot.booted (boot.refused_work (Err x) (book_of st) many last_one) (memory ws))

  rejected-list : relaid sg (set (relast (records_of sg) (book_of st).segments last_one) many no_segment) ≡ sg
  rejected-list =
      ap (λ l. relaid sg (set l many no_segment)) (relast-same (records_of sg) (book_of st).segments)
      ∙ ap (relaid sg) (set_out (records_of sg) many no_segment (omega arith))
      ∙ relaid-same sg

  rejected-leaves : (x : BootstrapError) → state_words ≤ length st → eqb (bootstrap_error_number x) 0 ≡ false → rejected x ≡ snapshot_leaves (bootstrap_error_number x) st ws sg
  rejected-leaves x long h = ap₂ (λ (l t : List ℕ). called (bootstrap_error_number x) l ws t) (rejected-words st x long h) rejected-list

  left-refused : (o : Option BootstrapError) (r : Result L3Snapshot PieceError) → state_words ≤ length st → eqb (written (found o r)).number 0 ≡ false
      → written (found o r) ≡ snapshot_leaves (written (found o r)).number st ws sg
  left-refused (Some a) r long h = rejected-leaves a long h
  left-refused None (Err p) long h = rejected-leaves (piece_error p) long h
  left-refused None (Ok s) long h = absurd_bool h

  abbrev refusal : Option BootstrapError
  refusal = refusal_of ceiling (book_of st) (memory ws) (records_of sg) bytes

  abbrev left_by : ℕ → BookCall
  left_by k = unless_turned k (λ (n : ℕ). called n st ws sg) (written (found refusal (read_snapshot bytes)))

  pub bootstrap-refused : eqb (bootstrap_call st ws sg bytes).number 0 ≡ false → bootstrap_call st ws sg bytes ≡ snapshot_leaves (bootstrap_call st ws sg bytes).number st ws sg
  unfolding bootstrap_call boot.bootstrapped boot.bootstrapped_to
  bootstrap-refused =
      by-boundary st (extent_of (memory ws)) (less st sg) false false
      (λ (k : ℕ). eqb (left_by k).number 0 ≡ false → left_by k ≡ snapshot_leaves (left_by k).number st ws sg)
      (λ h. refl) (λ h. refl) (λ h. refl) (λ h. refl) (λ h. refl)
      (λ p. left-refused refusal (read_snapshot bytes) p.whole)

  module _ (long : state_words ≤ length st) where
    rejected-state : (x : BootstrapError) → book_of (rejected x).state ≡ boot.refused_book (Err x) (book_of st)
    rejected-state x =
        let b = book_of st in
        rw (counts_alone (Err x) b)
        (block_back st (eqb (bootstrap_error_number x) 0) b.status b.rows b.segments (boot.refused_book (Err x) b).counts long (λ e. refl))

    left-state : (o : Option BootstrapError) (r : Result L3Snapshot PieceError) → book_of (written (found o r)).state ≡ (found o r).book
    left-state (Some x) r = rejected-state x
    left-state None (Err e) = rejected-state (piece_error e)
    left-state None (Ok s) = block_back st true _ _ _ _ long (λ e. absurd_bool e)

    pub bootstrap-state : no_book st ≡ false → book_of (bootstrap_call st ws sg bytes).state ≡ (boot.bootstrapped ceiling (book_of st) (memory ws) (records_of sg) bytes).book
    unfolding bootstrap_call boot.bootstrapped boot.bootstrapped_to
    bootstrap-state book =
        rw (passes st (extent_of (memory ws)) (less st sg) false false (record { whole = long; full = refl; right = refl; book = book }))
        (left-state refusal (read_snapshot bytes))
