-- A piece of a day, with the last record by value: what it does to a state that passes 1, 2 and 3, and whether it starts a segment.
-- Assumes nothing.
use Rattle.std.specs.Prelude.{Option, Some, None, Result, Ok, Err}
use Prim.Native.Nat.{ℕ, ◌+◌, ◌<◌, ◌≤◌}
use native.Mathlib.Omega.{arith}
use mathlib.Core.Path.{◌≡◌, refl, sym, ap, subst, ◌∙◌}
use mathlib.Core.Bool.{Bool, true, false, cond}
use mathlib.Core.List.{List}
use borrow.Author.Tests.{eqb-false, ltb-false}
use lib.Dec.{ltb}
use lib.ListN.{length, set, replicate, length-set}
use lib.Seq.{set_out}
use Rattle.message.specs.declared.L3Message.{L3Message}
use Rattle.message.specs.declared.L3Snapshot.{L3Snapshot}
use Rattle.piece.specs.declared.PieceError.{PieceError}
use Rattle.piece.specs.declared.PieceError.TheVariants as pieces
use Rattle.piece.specs.Piece.{piece_number, read_message, read_snapshot}
use Rattle.book.specs.Rows.{Lent}
use Rattle.book.specs.Memory.{Memory, memory, orders_of, line_in}
use Rattle.book_index.specs.declared.Bounds.{Bounds}
use Rattle.book_index.specs.Index.{Indexed}
use Rattle.reconstructor_answers.specs.Numbers.{answer_number}
use Rattle.reconstructor_answers.specs.declared.ApplyError.{ApplyError}
use Rattle.reconstructor_answers.specs.declared.InvalidationKind.{InvalidationKind}
use Rattle.reconstructor_segments.specs.declared.Segment.{Segment}
use Rattle.reconstructor_segments.specs.Segments.{no_segment, last_segment, relast}
use Rattle.reconstructor_segments.proofs.Last.{length-relast, relast-same}
use Rattle.reconstructor_state.specs.declared.BookReconstructor.{BookReconstructor}
use Rattle.reconstructor_state.specs.State.{ceiling, last_of, view_with, lengths_with}
use Rattle.reconstructor_state.proofs.Checks.{passed, first-passed}
use Rattle.reconstructor_checks.specs.StateChecks.{broken, Usable}
use Rattle.reconstructor_checks.proofs.StateChecks.{sound, has-segment, segments-lent, usable-none, trusted, rows-ready}
use Rattle.reconstructor.specs.Refusals.{admit_refusal, turn_refusal}
use Rattle.reconstructor.specs.declared.Work as apply
use Rattle.reconstructor.specs.Applied.{Worked, worked, refused_reply, invalidated_reply, accepted_reply, accepted, decided, after_gate, applied_to, applied}
use Rattle.reconstructor.specs.Inner.{trusted_to}
use Rattle.reconstructor.proofs.Laws.{admitted-valid}
use Rattle.reconstructor.proofs.ByValue.{applied-trusted_to}
use Rattle.reconstructor.proofs.Kept.{refusal-counts, usable-kept}
use Rattle.reconstructor_bootstrap.specs.declared.BootstrapError.{BootstrapError}
use Rattle.reconstructor_bootstrap.specs.declared.Work as bootstrap
use Rattle.reconstructor_bootstrap.specs.Snapshot.{snapshot_line, piece_error, accept_refusal, piece_refusal, boot_refusal}
use Rattle.reconstructor_bootstrap.specs.Bootstrap as boot
use Rattle.reconstructor_bootstrap.specs.Bootstrap.{Booted, booted, refused_work, unless_refused, taken, bootstrapped_to, bootstrapped}
use Rattle.reconstructor_bootstrap.specs.Places.{usable_to}
use Rattle.reconstructor_bootstrap.proofs.Whole.{read, not-read}
use Rattle.reconstructor_bootstrap.proofs.Laws.{refusal_of, counts_alone, accepted-usable, refused-usable}
use Rattle.daybook_segments.specs.DaySegments.{day_segments}
use Rattle.daybook_pieces.specs.Played.{DayBook, Played, by_bootstrap, play_message, is_snapshot, played}
use Rattle.daybook_pieces.specs.ByValue.{PlayedTo, unstarted, by_apply_to, by_bootstrap_to, play_message_to, played_to, Marks, Plays}

-- ---- whether a segment is started

-- none is: the book has as many as before, and before any snapshot the last record stays; or one is, behind the others
pub data Starts (b : BookReconstructor) (g : Segment) (p : PlayedTo) : Type 0 where
  stays : p.at ≡ day_segments → p.book.segments ≡ b.segments → (b.segments ≡ 0 → p.segment ≡ g) → Starts b g p
  begins : p.at ≡ b.segments → b.segments < day_segments → p.book.segments ≡ b.segments + 1 → Starts b g p

-- a message starts none
module _ (b : BookReconstructor) (mem : Memory) (g : Segment) (m : L3Message) (u : Usable ceiling b mem day_segments) where
  decided-segments : (last : ℕ) (o : Option InvalidationKind) → (decided b mem last m o).book.segments ≡ b.segments
  unfolding decided invalidated_reply accepted accepted_reply
  decided-segments last (Some k) = refl
  decided-segments last None = refl

  gate-starts : (o : Option ApplyError) → admit_refusal b.product_id b.status m ≡ o → Starts b g (by_apply_to (after_gate b mem g m o))
  unfolding after_gate refused_reply
  gate-starts (Some a) h = stays refl (ap (λ (x : BookReconstructor). x.segments) (refusal-counts b (Err a))) (λ z. refl)
  gate-starts None h =
      stays refl (decided-segments (last_of b.status) (turn_refusal b.rules (line_in mem b.rows) (last_of b.status) m))
      (λ z. absurd (omega (arith, z, has-segment b (last_of b.status) (admitted-valid b.product_id b.status m h) (sound b mem u.sound).set)))

  message-starts : Starts b g (by_apply_to (applied_to ceiling b mem day_segments g m))
  message-starts = rw (applied-trusted_to ceiling b mem day_segments g m u) (gate-starts (admit_refusal b.product_id b.status m) refl)

-- a snapshot starts one where it is taken
module _ (b : BookReconstructor) (mem : Memory) (g : Segment) (bytes : List ℕ) (u : Usable ceiling b mem day_segments) where
  abbrev refusal : Option BootstrapError
  refusal = boot_refusal ceiling b.product_id b.rules (lengths_with mem day_segments) (broken b mem) (view_with b mem g) bytes

  -- 6 is said where the list is full
  list-room : (s : L3Snapshot) → accept_refusal b.product_id b.rules (lengths_with mem day_segments) (view_with b mem g) s (snapshot_line s bytes) ≡ None → b.segments < day_segments
  unfolding accept_refusal
  list-room s h = omega (arith, eqb-false day_segments b.segments (passed _ _ _ h).0, segments-lent b mem day_segments u.lent)

  room : refusal ≡ None → b.segments < day_segments
  unfolding boot_refusal
  room h = go (read_snapshot bytes) (first-passed _ _ _ h).1
    where
      go : (r : Result L3Snapshot PieceError) → piece_refusal b.product_id b.rules (lengths_with mem day_segments) (view_with b mem g) r bytes ≡ None → b.segments < day_segments
      go (Err e) k = let z : ◌≡◌ {A = ℕ} 0 1 = cc in absurd (omega arith)
      go (Ok s) k = list-room s k

  snapshot-starts : Starts b g (by_bootstrap_to (bootstrapped_to ceiling b mem day_segments g bytes))
  unfolding bootstrapped_to
  snapshot-starts = go refusal refl (read_snapshot bytes)
    where
      go : (o : Option BootstrapError) → refusal ≡ o → (r : Result L3Snapshot PieceError) → Starts b g (by_bootstrap_to (unless_refused o b mem day_segments g (taken r b mem day_segments g bytes)))
      go (Some a) h r = stays refl (ap (λ (x : BookReconstructor). x.segments) (counts_alone (Err a) b)) (λ z. refl)
      go None h (Err e) = stays refl (ap (λ (x : BookReconstructor). x.segments) (counts_alone (Err (piece_error e)) b)) (λ z. refl)
      go None h (Ok s) = begins refl (room h) refl

pub piece-starts : (b : BookReconstructor) (mem : Memory) (g : Segment) (bytes : List ℕ) → Usable ceiling b mem day_segments → Starts b g (played_to b mem g bytes)
unfolding played_to
piece-starts b mem g bytes u = go (is_snapshot bytes) (read_message bytes)
  where
    go : (x : Bool) (r : Result L3Message PieceError) → Starts b g (cond x (by_bootstrap_to (bootstrapped_to ceiling b mem day_segments g bytes)) (play_message_to r b mem g))
    go true r = snapshot-starts b mem g bytes u
    go false (Err e) = stays refl refl (λ z. refl)
    go false (Ok m) = message-starts b mem g m u

-- ---- a usable state stays usable

-- what a snapshot leaves of state and memory does not depend on the last record
module _ (top : ℕ) (b : BookReconstructor) (mem : Memory) (lent : ℕ) (g h : Segment) (bytes : List ℕ) where
  abbrev Same : Booted → Booted → Type 0
  Same x y = (x.book ≡ y.book) × (x.memory ≡ y.memory)

  abbrev refused_for : Segment → Result L3Snapshot PieceError → Option BootstrapError
  refused_for x r = piece_refusal b.product_id b.rules (lengths_with mem lent) (view_with b mem x) r bytes

  same-refusal : (r : Result L3Snapshot PieceError) → refused_for g r ≡ refused_for h r
  unfolding accept_refusal
  same-refusal (Err e) = refl
  same-refusal (Ok s) = refl

  any-record : Same (bootstrapped_to top b mem lent g bytes) (bootstrapped_to top b mem lent h bytes)
  unfolding bootstrapped_to boot_refusal
  any-record = rw (same-refusal (read_snapshot bytes)) (go (boot_refusal top b.product_id b.rules (lengths_with mem lent) (broken b mem) (view_with b mem h) bytes) (read_snapshot bytes))
    where
      go : (o : Option BootstrapError) (r : Result L3Snapshot PieceError) → Same (unless_refused o b mem lent g (taken r b mem lent g bytes)) (unless_refused o b mem lent h (taken r b mem lent h bytes))
      go (Some a) r = (refl, refl)
      go None (Err e) = (refl, refl)
      go None (Ok s) = (refl, refl)

module _ (b : BookReconstructor) (mem : Memory) (g : Segment) (bytes : List ℕ) (u : Usable ceiling b mem day_segments) where
  abbrev blank : List Segment
  blank = replicate day_segments no_segment

  on_a-list : (o : Option BootstrapError) → refusal_of ceiling b mem blank bytes ≡ o
      → Usable ceiling (bootstrapped ceiling b mem blank bytes).book (bootstrapped ceiling b mem blank bytes).memory (length (bootstrapped ceiling b mem blank bytes).segments)
  on_a-list (Some a) h = refused-usable ceiling b mem blank bytes a h u
  on_a-list None h = accepted-usable ceiling b mem blank bytes h

  pub snapshot-usable : Usable ceiling (bootstrapped_to ceiling b mem day_segments g bytes).book (bootstrapped_to ceiling b mem day_segments g bytes).memory day_segments
  unfolding bootstrapped
  snapshot-usable =
      let w : Booted = bootstrapped_to ceiling b mem day_segments (last_segment blank b.segments) bytes in
      let s = any-record ceiling b mem day_segments g (last_segment blank b.segments) bytes in
      let n : length (set (relast blank b.segments w.segment) w.at w.started) ≡ day_segments = length-set (relast blank b.segments w.segment) w.at w.started ∙ length-relast blank b.segments w.segment in
      rw (s.0, s.1) (rw n at (on_a-list (refusal_of ceiling b mem blank bytes) refl))

-- ---- what the code of a message and of a snapshot leaves

module _ (b : BookReconstructor) (ws vs : List ℕ) (g : Segment) (m : L3Message) (w : apply.Work) (u : Usable ceiling b (memory ws) day_segments) (e : worked w (memory vs) ≡ trusted_to b (memory ws) g m) where
  done : worked w (memory vs) ≡ applied_to ceiling b (memory ws) day_segments g m
  done = e ∙ sym (applied-trusted_to ceiling b (memory ws) day_segments g m u)

  pub message-played : by_apply_to (worked w (memory vs)) ≡ by_apply_to (applied_to ceiling b (memory ws) day_segments g m)
  message-played = ap by_apply_to done

  pub message-plays : (qs : List ℕ) (bounds : Option Bounds) → Indexed qs bounds (orders_of (memory vs) w.book.rows) → Plays w.book vs qs bounds
  message-plays qs bounds i =
      record { usable = subst (λ (x : Worked). Usable ceiling x.book x.memory day_segments) (sym done) (usable-kept ceiling b (memory ws) day_segments u g m); index = i }

-- bytes that are no snapshot: 4 or 5, and nothing is touched
pub unread-played : (b : BookReconstructor) (mem : Memory) (g : Segment) (bytes : List ℕ) (e : PieceError) → Usable ceiling b mem day_segments → read_snapshot bytes ≡ Err e
    → unstarted (piece_number e) b mem g ≡ by_bootstrap_to (bootstrapped_to ceiling b mem day_segments g bytes)
unread-played b mem g bytes e u q = said e ∙ ap by_bootstrap_to (not-read ceiling b mem day_segments g bytes (usable-none ceiling b mem day_segments u) e q)
  where
    said : (x : PieceError) → unstarted (piece_number x) b mem g ≡ by_bootstrap_to (booted (refused_work (Err (piece_error x)) b day_segments g) mem)
    said pieces.NotAPiece = refl
    said pieces.OutOfRange = refl

module _ (b : BookReconstructor) (ws vs : List ℕ) (g : Segment) (bytes : List ℕ) (s : L3Snapshot) (w : bootstrap.Work) (u : Usable ceiling b (memory ws) day_segments)
    (q : read_snapshot bytes ≡ Ok s) (e : booted w (memory vs) ≡ usable_to b (memory ws) day_segments g bytes s) where
  taking : booted w (memory vs) ≡ bootstrapped_to ceiling b (memory ws) day_segments g bytes
  taking = e ∙ read ceiling b (memory ws) day_segments g bytes (usable-none ceiling b (memory ws) day_segments u) s q

  pub snapshot-played : by_bootstrap_to (booted w (memory vs)) ≡ by_bootstrap_to (bootstrapped_to ceiling b (memory ws) day_segments g bytes)
  snapshot-played = ap by_bootstrap_to taking

  after-usable : Usable ceiling w.book (memory vs) day_segments
  after-usable = subst (λ (x : Booted). Usable ceiling x.book x.memory day_segments) (sym taking) (snapshot-usable b (memory ws) g bytes u)

  pub after-lent : Lent vs w.book.rows
  after-lent = rows-ready ceiling w.book (memory vs) (omega arith) (trusted ceiling w.book (memory vs) day_segments after-usable)

  -- a snapshot that is not taken leaves the orders
  untaken : day_segments ≤ w.at → orders_of (memory vs) w.book.rows ≡ orders_of (memory ws) b.rows
  untaken = subst (λ (x : Booted). day_segments ≤ x.at → orders_of x.memory x.book.rows ≡ orders_of (memory ws) b.rows) (sym e)
      (go (accept_refusal b.product_id b.rules (lengths_with (memory ws) day_segments) (view_with b (memory ws) g) s (snapshot_line s bytes)) refl)
    where
      go : (o : Option BootstrapError) → accept_refusal b.product_id b.rules (lengths_with (memory ws) day_segments) (view_with b (memory ws) g) s (snapshot_line s bytes) ≡ o
          → day_segments ≤ (unless_refused o b (memory ws) day_segments g (boot.accepted b (memory ws) g s.sequence (snapshot_line s bytes))).at
          → orders_of (unless_refused o b (memory ws) day_segments g (boot.accepted b (memory ws) g s.sequence (snapshot_line s bytes))).memory (unless_refused o b (memory ws) day_segments g (boot.accepted b (memory ws) g s.sequence (snapshot_line s bytes))).book.rows
          ≡ orders_of (memory ws) b.rows
      go (Some a) h l = ap (λ (x : BookReconstructor). orders_of (memory ws) x.rows) (counts_alone (Err a) b)
      go None h l = absurd (omega (arith, l, list-room b (memory ws) g bytes u s h))

  pub after-marks : (ps : List ℕ) (bounds : Option Bounds) → Indexed ps bounds (orders_of (memory ws) b.rows) → ltb w.at day_segments ≡ false → Marks ps bounds (orders_of (memory vs) w.book.rows)
  after-marks ps bounds i h = rw (untaken (ltb-false w.at day_segments h)) (i.marks, i.within)

  pub snapshot-plays : (qs : List ℕ) (bounds : Option Bounds) → length qs ≤ 65536 → Marks qs bounds (orders_of (memory vs) w.book.rows) → Plays w.book vs qs bounds
  snapshot-plays qs bounds few m =
      record { usable = after-usable; index = record { few = few; marks = m.0; within = m.1; single = (sound w.book (memory vs) after-usable.sound).formed.single } }

-- ---- a piece on a list is the same with its records put back

abbrev pub put_back : List Segment → ℕ → PlayedTo → Played
put_back sg n p =
    record { number = p.number; after = record { book = p.book; memory = p.memory; segments = set (relast sg n p.segment) p.at p.started } }

module _ (b : BookReconstructor) (mem : Memory) (sg : List Segment) (full : length sg ≡ day_segments) where
  abbrev last : Segment
  last = last_segment sg b.segments

  abbrev standing : DayBook
  standing = record { book = b; memory = mem; segments = sg }

  -- where no record is started, nothing is written past the list's end
  past_end : (l : List Segment) → length l ≡ day_segments → set l day_segments no_segment ≡ l
  past_end l h = set_out l day_segments no_segment (omega arith)

  put-message : (r : Result L3Message PieceError) → play_message r standing ≡ put_back sg b.segments (play_message_to r b mem last)
  unfolding applied
  put-message (Err e) =
      ap (λ (l : List Segment). record { number = piece_number e; after = record { book = b; memory = mem; segments = l } }) (sym (ap (λ (l : List Segment). set l day_segments no_segment) (relast-same sg b.segments) ∙ past_end sg full))
  put-message (Ok m) =
      let w : Worked = applied_to ceiling b mem day_segments last m in
      rw full
      (ap (λ (l : List Segment). record { number = answer_number w.answer; after = record { book = w.book; memory = w.memory; segments = l } })
      (sym (past_end (relast sg b.segments w.segment) (length-relast sg b.segments w.segment ∙ full))))

  pub played_put : (bytes : List ℕ) → played standing bytes ≡ put_back sg b.segments (played_to b mem last bytes)
  unfolding played played_to bootstrapped
  played_put bytes = go (is_snapshot bytes)
    where
      go : (x : Bool) → cond x (by_bootstrap (bootstrapped ceiling b mem sg bytes)) (play_message (read_message bytes) standing)
          ≡ put_back sg b.segments (cond x (by_bootstrap_to (bootstrapped_to ceiling b mem day_segments last bytes)) (play_message_to (read_message bytes) b mem last))
      go true = rw full
      go false = put-message (read_message bytes)
