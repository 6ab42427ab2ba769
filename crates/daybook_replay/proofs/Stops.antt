-- What can stop a replay: 4, 5 and 6 alone. 1, 2 and 3 hold of no state on the way, and every other refusal goes on.
-- Assumes nothing.
use Rattle.std.specs.Prelude.{Option, Some, None, Result, Ok, Err}
use Prim.Native.Nat.{ℕ, ◌+◌}
use mathlib.Core.Path.{◌≡◌, refl, ◌∙◌}
use mathlib.Core.Bool.{Bool, true, false, not, cond}
use mathlib.Core.List.{List, [], ◌∷◌}
use mathlib.Core.Logic.{◌⊎◌, inl, inr}
use lib.Dec.{eqb}
use lib.ListN.{length, length-set}
use Rattle.laws.proofs.Bools.{absurd_bool}
use Rattle.message.specs.declared.L3Message.{L3Message}
use Rattle.message.specs.Same.{same_product}
use Rattle.message.specs.Values.{event_in_range}
use Rattle.piece.specs.declared.PieceError.{PieceError}
use Rattle.piece.specs.declared.PieceError.TheVariants as pieces
use Rattle.piece.specs.Piece.{piece_number, read_message, read_snapshot}
use Rattle.book.specs.Memory.{Memory, line_in}
use Rattle.reconstructor_answers.specs.declared.Applied.{Applied}
use Rattle.reconstructor_answers.specs.declared.Applied.TheVariants.{BookChanged, NoBookEffect}
use Rattle.reconstructor_answers.specs.declared.ApplyError.{ApplyError}
use Rattle.reconstructor_answers.specs.declared.ApplyError.TheVariants as refusals
use Rattle.reconstructor_answers.specs.declared.InvalidationKind.{InvalidationKind}
use Rattle.reconstructor_answers.specs.Numbers.{applied_number, apply_error_number, answer_number}
use Rattle.reconstructor_segments.specs.declared.Segment.{Segment}
use Rattle.reconstructor_segments.specs.Segments.{last_segment, relast}
use Rattle.reconstructor_segments.proofs.Last.{length-relast}
use Rattle.reconstructor_state.specs.declared.BookReconstructor.{BookReconstructor}
use Rattle.reconstructor_state.specs.declared.Status.{Status}
use Rattle.reconstructor_state.specs.declared.Status.TheVariants as states
use Rattle.reconstructor_state.specs.Checks.{check, first}
use Rattle.reconstructor_state.specs.State.{ceiling, last_of, lengths_with, view_with}
use Rattle.reconstructor_state.proofs.Checks.{first_on}
use Rattle.reconstructor_checks.specs.StateChecks.{broken, Usable}
use Rattle.reconstructor_checks.proofs.StateChecks.{usable-none}
use Rattle.reconstructor_plan.specs.Rules.{answer_by, event_deed}
use Rattle.reconstructor.specs.Applied.{refused_reply, invalidated_reply, accepted_reply, accepted, decided, after_gate, applied_to}
use Rattle.reconstructor.specs.Refusals.{status_refusal, admit_refusal, turn_refusal}
use Rattle.reconstructor.proofs.ByValue.{applied-trusted_to}
use Rattle.reconstructor.proofs.Kept.{usable-kept}
use Rattle.reconstructor_bootstrap.specs.declared.BootstrapError.{BootstrapError}
use Rattle.reconstructor_bootstrap.specs.declared.BootstrapError.TheVariants as boots
use Rattle.reconstructor_bootstrap.specs.declared.SnapshotError.{SnapshotError}
use Rattle.reconstructor_bootstrap.specs.declared.SnapshotError.TheVariants as errors
use Rattle.reconstructor_bootstrap.specs.Numbers.{bootstrap_error_number, snapshot_number}
use Rattle.reconstructor_bootstrap.specs.Snapshot.{snapshot_line, snapshot_refusal, accept_refusal, piece_refusal, boot_refusal}
use Rattle.reconstructor_bootstrap.specs.Bootstrap.{unless_refused, taken, bootstrapped_to}
use Rattle.daybook_file.specs.DayFile.{pieces_of, product_of}
use Rattle.daybook_segments.specs.DaySegments.{day_segments}
use Rattle.daybook_pieces.specs.Played.{DayBook, is_snapshot, played}
use Rattle.daybook_pieces.specs.ByValue.{PlayedTo, by_bootstrap_to, play_message_to, played_to}
use Rattle.daybook_pieces.proofs.Pieces.{snapshot-usable, put_back, played_put}
use Rattle.daybook_segments.specs.declared.Stop.{Stop}
use Rattle.daybook_replay.specs.Replay.{fresh_day, is_continued, ended_by, replayed, day_of}
use Rattle.daybook_replay.proofs.Replays.{fresh-usable, length_none}
use Rattle.message.specs.declared.L3Snapshot.{L3Snapshot}

-- a number by which a replay can be stopped
abbrev pub Stopping : ℕ → Type 0
Stopping n = (n ≡ 4) ⊎ ((n ≡ 5) ⊎ (n ≡ 6))

-- goes on, or stops so
abbrev Passes : ℕ → Type 0
Passes n = is_continued n ≡ false → Stopping n

piece-passes : (e : PieceError) → Passes (piece_number e)
piece-passes pieces.NotAPiece h = inl refl
piece-passes pieces.OutOfRange h = inr (inl refl)

-- ---- a snapshot

error-passes : (e : SnapshotError) → Passes (bootstrap_error_number (boots.Rejected e))
error-passes errors.WrongProduct h = absurd_bool h
error-passes errors.DuplicateId h = absurd_bool h
error-passes errors.InvalidValue h = absurd_bool h
error-passes errors.Crossed h = absurd_bool h
error-passes errors.CapacityExceeded h = absurd_bool h

-- what a snapshot is turned away for once 1, 2 and 3 are passed
abbrev AllPass : Option BootstrapError → Type 0
AllPass None = Unit {0}
AllPass (Some e) = Passes (bootstrap_error_number e)

checked_pass : (b : Bool) (x : Option SnapshotError) → AllPass (check b boots.ListFull (first x boots.Rejected None))
unfolding check first
checked_pass true x = λ h. inr (inr refl)
checked_pass false None = tt
checked_pass false (Some e) = error-passes e

module _ (b : BookReconstructor) (mem : Memory) (g : Segment) (bytes : List ℕ) (u : Usable ceiling b mem day_segments) where
  read-passes : (r : Result L3Snapshot PieceError) → AllPass (piece_refusal b.product_id b.rules (lengths_with mem day_segments) (view_with b mem g) r bytes)
  unfolding accept_refusal
  read-passes (Err pieces.NotAPiece) = piece-passes pieces.NotAPiece
  read-passes (Err pieces.OutOfRange) = piece-passes pieces.OutOfRange
  read-passes (Ok s) = checked_pass (eqb day_segments b.segments) (snapshot_refusal b.product_id b.rules s (snapshot_line s bytes))

  abbrev refusal : Option BootstrapError
  refusal = boot_refusal ceiling b.product_id b.rules (lengths_with mem day_segments) (broken b mem) (view_with b mem g) bytes

  refusal-passes : AllPass refusal
  unfolding boot_refusal
  refusal-passes = rw (first_on _ boots.Unusable _ _ (usable-none ceiling b mem day_segments u) refl) (read-passes (read_snapshot bytes))

  snapshot-passes : Passes (snapshot_number (bootstrapped_to ceiling b mem day_segments g bytes).answer)
  unfolding bootstrapped_to
  snapshot-passes = go refusal refusal-passes (read_snapshot bytes)
    where
      go : (o : Option BootstrapError) → AllPass o → (r : Result L3Snapshot PieceError) → Passes (snapshot_number (unless_refused o b mem day_segments g (taken r b mem day_segments g bytes)).answer)
      go (Some a) p r = p
      go None p (Err pieces.NotAPiece) = piece-passes pieces.NotAPiece
      go None p (Err pieces.OutOfRange) = piece-passes pieces.OutOfRange
      go None p (Ok s) = λ h. absurd_bool h

-- ---- a message

abbrev AnswersPass : Option ApplyError → Type 0
AnswersPass None = Unit {0}
AnswersPass (Some a) = Passes (apply_error_number a)

status-passes : (s : Status) → AnswersPass (status_refusal s)
status-passes states.Empty = λ h. absurd_bool h
status-passes (states.Valid last) = tt
status-passes (states.Invalidated i) = λ h. absurd_bool h

applied-passes : (a : Applied) → Passes (applied_number a)
applied-passes BookChanged h = absurd_bool h
applied-passes NoBookEffect h = absurd_bool h

module _ (b : BookReconstructor) (mem : Memory) (g : Segment) (m : L3Message) where
  admit-passes : AnswersPass (admit_refusal b.product_id b.status m)
  unfolding admit_refusal check
  admit-passes = go (not (event_in_range m.event)) (not (same_product m.product_id b.product_id))
    where
      go : (x y : Bool) → AnswersPass (check x refusals.AmountOutOfRange (check y refusals.WrongProduct (status_refusal b.status)))
      go true y = λ h. inr (inl refl)
      go false true = λ h. absurd_bool h
      go false false = status-passes b.status

  turn-passes : (last : ℕ) (o : Option InvalidationKind) → Passes (answer_number (decided b mem last m o).answer)
  unfolding decided invalidated_reply accepted accepted_reply
  turn-passes last (Some k) = λ h. absurd_bool h
  turn-passes last None = applied-passes (answer_by (event_deed b.rules (line_in mem b.rows) m.sequence m.event).effect)

  gate-passes : (o : Option ApplyError) → AnswersPass o → Passes (answer_number (after_gate b mem g m o).answer)
  unfolding after_gate refused_reply
  gate-passes (Some a) p = p
  gate-passes None p = turn-passes (last_of b.status) (turn_refusal b.rules (line_in mem b.rows) (last_of b.status) m)

  message-passes : Usable ceiling b mem day_segments → Passes (answer_number (applied_to ceiling b mem day_segments g m).answer)
  message-passes u = rw (applied-trusted_to ceiling b mem day_segments g m u) (gate-passes (admit_refusal b.product_id b.status m) admit-passes)

-- ---- any piece, and so a day

module _ (b : BookReconstructor) (mem : Memory) (g : Segment) (bytes : List ℕ) (u : Usable ceiling b mem day_segments) where
  any-passes : Passes (played_to b mem g bytes).number
  unfolding played_to
  any-passes = go (is_snapshot bytes) (read_message bytes)
    where
      go : (x : Bool) (r : Result L3Message PieceError) → Passes (cond x (by_bootstrap_to (bootstrapped_to ceiling b mem day_segments g bytes)) (play_message_to r b mem g)).number
      go true r = snapshot-passes b mem g bytes u
      go false (Err e) = piece-passes e
      go false (Ok m) = message-passes b mem g m u

  any-usable : Usable ceiling (played_to b mem g bytes).book (played_to b mem g bytes).memory day_segments
  unfolding played_to
  any-usable = go (is_snapshot bytes) (read_message bytes)
    where
      go : (x : Bool) (r : Result L3Message PieceError) → Usable ceiling (cond x (by_bootstrap_to (bootstrapped_to ceiling b mem day_segments g bytes)) (play_message_to r b mem g)).book
          (cond x (by_bootstrap_to (bootstrapped_to ceiling b mem day_segments g bytes)) (play_message_to r b mem g)).memory day_segments
      go true r = snapshot-usable b mem g bytes u
      go false (Err e) = u
      go false (Ok m) = usable-kept ceiling b mem day_segments u g m

-- a standing whose state passes 1, 2 and 3, with a whole list
record Fit (s : DayBook) : Type 0 where
  usable : Usable ceiling s.book s.memory day_segments
  full : length s.segments ≡ day_segments

module _ (s : DayBook) (bytes : List ℕ) (f : Fit s) where
  abbrev turn : PlayedTo
  turn = played_to s.book s.memory (last_segment s.segments s.book.segments) bytes

  played_is : played s bytes ≡ put_back s.segments s.book.segments turn
  played_is = played_put s.book s.memory s.segments f.full bytes

  played-passes : Passes (played s bytes).number
  played-passes = rw played_is (any-passes s.book s.memory (last_segment s.segments s.book.segments) bytes f.usable)

  played_fit : Fit (played s bytes).after
  played_fit =
      rw played_is
      (record {
        usable = any-usable s.book s.memory (last_segment s.segments s.book.segments) bytes f.usable;
        full = length-set (relast s.segments s.book.segments turn.segment) turn.at turn.started ∙ length-relast s.segments s.book.segments turn.segment ∙ f.full;
      })

abbrev pub StopsBy : Option Stop → Type 0
StopsBy None = Unit {0}
StopsBy (Some s) = Stopping s.number

stops : (ps : List (List ℕ)) (s : DayBook) (k : ℕ) → Fit s → StopsBy (replayed s k ps).stop
unfolding replayed
stops [] s k f = tt
stops (p ∷ ps) s k f = go (is_continued (played s p).number) refl (stops ps (played s p).after (k + 1) (played_fit s p f)) (played-passes s p f)
  where
    go : (x : Bool) → is_continued (played s p).number ≡ x → StopsBy (replayed (played s p).after (k + 1) ps).stop → Passes (played s p).number
        → StopsBy (cond x (replayed (played s p).after (k + 1) ps) (ended_by (played s p).after (Some (record { piece = k; number = (played s p).number })))).stop
    go true e rest passes = rest
    go false e rest passes = passes e

-- a day is stopped by 4, 5 or 6, if at all: never by 1, 2 or 3
pub day-stops : (f : List ℕ) → StopsBy (day_of f).stop
unfolding day_of
day-stops f = stops (pieces_of f) (fresh_day (product_of (pieces_of f))) 1 (record { usable = fresh-usable (product_of (pieces_of f)); full = length_none })
