-- What a state with its lent memory stands for in the ledger's view, and that each call keeps it.
-- Assumes nothing.
use Rattle.std.specs.Prelude.{Option, Some, None, Result, Ok, Err}
use Prim.Native.Nat.{ℕ, zero, suc, ◌+◌, ◌*◌, ◌≤◌, ◌<◌}
use native.Mathlib.Omega.{arith}
use mathlib.Core.Bool.{Bool, true, false, not, ◌||◌, cond}
use mathlib.Core.Path.{◌≡◌, refl, sym, ap, subst, ◌∙◌}
use mathlib.Core.List.{List, [], ◌∷◌, ◌++◌, map}
use borrow.Author.Tests.{eqb-false}
use lib.Dec.{eqb}
use native.Mathlib.Numerals.{add-one}
use lib.ListN.{length, set, length-map, get_or-append}
use lib.Seq.{get_or-set_same}
use Rattle.laws.proofs.Bools.{or_no}
use Rattle.message.specs.declared.L3Message.{L3Message}
use Rattle.book.specs.Line.{Entry}
use Rattle.book.specs.Rows.{row_words, row_at, rows_of, line_of, stored, snapshot_row}
use Rattle.book.specs.Memory.{Memory, line_in}
use Rattle.book.proofs.Rows.{row_same, rows_same}
use Rattle.book.proofs.Stored.{rows-stored}
use Rattle.book.proofs.Kept.{line-snapshot}
use Rattle.reconstructor_answers.specs.declared.Applied.{Applied}
use Rattle.reconstructor_answers.specs.declared.ApplyError.{ApplyError}
use Rattle.reconstructor_answers.specs.declared.ApplyError.TheVariants as refusals
use Rattle.reconstructor_answers.specs.declared.InvalidationKind.{InvalidationKind}
use Rattle.reconstructor_segments.specs.declared.Segment.{Segment}
use Rattle.reconstructor_segments.specs.Segments.{no_segment, segment_at, last_segment, relast, same_segment, started}
use Rattle.reconstructor_segments.proofs.Last.{length-relast, relast-same}
use Rattle.reconstructor_state.specs.declared.Status.TheVariants.{Valid}
use Rattle.reconstructor_state.specs.declared.VenueRules.{VenueRules}
use Rattle.reconstructor_state.specs.declared.BookReconstructor.{BookReconstructor}
use Rattle.reconstructor_state.specs.State.{View, view_with, Lengths, lengths_with, last_of, with_counts}
use Rattle.reconstructor_state.proofs.Checks.{fails, goes_on, first_on}
use Rattle.reconstructor_checks.specs.StateChecks.{Usable, broken, state_refusal}
use Rattle.reconstructor_checks.proofs.StateChecks.{usable-none}
use Rattle.reconstructor.specs.Refusals.{gate_refusal, turn_refusal}
use Rattle.reconstructor.specs.Applied.{refused_book, refused_reply, invalidated_reply, accepted_reply, accepted as accepted_core, next_segment, decided, after_gate, book_gate, applied_to, applied}
use Rattle.reconstructor.proofs.Kept.{refusal-counts, usable-kept, accepted-line}
use Rattle.reconstructor.proofs.Laws.{gate-trusted}
use Rattle.message.specs.declared.L3Snapshot.{L3Snapshot}
use Rattle.message.specs.Values.{event_in_range}
use Rattle.piece.specs.Piece.{read_snapshot}
use Rattle.reconstructor_counts.specs.declared.MessageCounts.{MessageCounts}
use Rattle.reconstructor_state.specs.State.{segment_of}
use Rattle.reconstructor_bootstrap.specs.declared.BootstrapError.{BootstrapError}
use Rattle.reconstructor_bootstrap.specs.Snapshot.{snapshot_line, piece_refusal, accept_refusal, boot_refusal}
use Rattle.reconstructor_bootstrap.specs.Bootstrap.{Parts as SnapshotParts, refused_book as refused_boot, closed, bootstrapped}
use Rattle.reconstructor_bootstrap.proofs.Laws.{refusal_of, refused_is, counts_alone, accepted_parts, is-accepted, accepted-usable}
use Rattle.reconstructor_handshake.specs.declared.Handshake.{Handshake}
use Rattle.reconstructor_handshake.specs.Step.{StepParts, other_segment, step_refusal, stepped}
use Rattle.reconstructor_handshake_rules.specs.Drops.{drops}
use Rattle.reconstructor_handshake.proofs.Step.{other_step, out_of_range-step, dropped_step, decided-step}
use Rattle.ledger.specs.Ledger.{Config, Outcome, refused, invalidates, dropped, accepted, outcome_of, apply_outcome, step_outcome_of, step_outcome, boot_outcome, view_by, view_boot, snap_view}
use Rattle.piece.specs.declared.PieceError.{PieceError}

-- what a state shows, and how much it is lent, with a list of records
abbrev view_of : BookReconstructor → Memory → List Segment → View
view_of b mem sg = view_with b mem (last_segment sg b.segments)

abbrev pub lengths_of : Memory → List Segment → Lengths
lengths_of mem sg = lengths_with mem (length sg)

abbrev pub config_of : BookReconstructor → Config
config_of b = record { product = b.product_id; rules = b.rules; number = b.number }

-- the view that a state with its rows is, the start being told apart: before any snapshot there is no record of it
abbrev pub seen : ℕ → BookReconstructor → Memory → View
seen start b mem = record { status = b.status; start_seq = start; segments = b.segments; line = line_in mem b.rows }

abbrev pub Starts : ℕ → BookReconstructor → List Segment → Type 0
Starts start b sg = 0 < b.segments → (last_segment sg b.segments).start_seq ≡ start

pub record Stands (c : Config) (b : BookReconstructor) (mem : Memory) (sg : List Segment) (v : View) : Type 0 where
  pub config : config_of b ≡ c
  pub view : seen v.start_seq b mem ≡ v
  pub start : Starts v.start_seq b sg
  pub sound : broken b mem ≡ false

stands_at : (c : Config) (b : BookReconstructor) (mem : Memory) (sg : List Segment) (v : View) (s : ℕ) → v.start_seq ≡ s → config_of b ≡ c → seen s b mem ≡ v → Starts s b sg
    → broken b mem ≡ false → Stands c b mem sg v
stands_at c b mem sg v s e p q r h = record { config = p; view = ap (λ (x : ℕ). seen x b mem) e ∙ q; start = λ z. r z ∙ sym e; sound = h }

start-kept : (r : VenueRules) (m : L3Message) (o : Outcome) (w : View) → (view_by r m o w).start_seq ≡ w.start_seq
start-kept r m refused w = refl
start-kept r m (invalidates k) w = refl
start-kept r m dropped w = refl
start-kept r m accepted w = refl

-- ---- a prefix that is long enough has the same rows

row-front : (a b : List ℕ) (i : ℕ) → row_words * i + row_words ≤ length a → row_at (a ++ b) i ≡ row_at a i
row-front a b i h = row_same (a ++ b) a i i (λ f q. get_or-append a b 0 (row_words * i + f) (omega arith))

pub rows-front : (a b : List ℕ) (n : ℕ) → row_words * n ≤ length a → rows_of (a ++ b) n ≡ rows_of a n
rows-front a b n h = rows_same (a ++ b) a 0 0 n (λ f q. row-front a b (0 + f) (omega arith))

-- ---- a record replaced by one of its start keeps the start; past the end nothing is replaced

start_set : (sg : List Segment) (i : ℕ) (g : Segment) → g.start_seq ≡ (segment_at sg i).start_seq → (segment_at (set sg i g) i).start_seq ≡ (segment_at sg i).start_seq
start_set [] i g h = refl
start_set (x ∷ sg) zero g h = h
start_set (x ∷ sg) (suc i) g h = start_set sg i g h

next_start : (g : Segment) (a : Result Applied ApplyError) (seq time : ℕ) → (next_segment g a seq time).start_seq ≡ g.start_seq
next_start g (Ok x) seq time = refl
next_start g (Err (refusals.Unusable e)) seq time = refl
next_start g (Err refusals.AmountOutOfRange) seq time = refl
next_start g (Err refusals.WrongProduct) seq time = refl
next_start g (Err refusals.NotBootstrapped) seq time = refl
next_start g (Err (refusals.Invalidated i)) seq time = refl
next_start g (Err (refusals.AwaitingSnapshot i)) seq time = refl

relast-start : (sg : List Segment) (n : ℕ) (g : Segment) → g.start_seq ≡ (last_segment sg n).start_seq → (last_segment (relast sg n g) n).start_seq ≡ (last_segment sg n).start_seq
relast-start sg zero g h = refl
relast-start sg (suc n) g h = start_set sg n g h

pub own-none : (top : ℕ) (b : BookReconstructor) (mem : Memory) (sg : List Segment) → Usable top b mem (length sg) → state_refusal top b.rules (lengths_of mem sg) false b.segments ≡ None
unfolding state_refusal
own-none top b mem sg u = goes_on _ _ _ _ u.within (goes_on _ _ _ _ u.lent (goes_on _ _ _ _ refl refl))

accept-same : (b : BookReconstructor) (mem : Memory) (sg : List Segment) (s : ℕ) (x : L3Snapshot) (bytes : List ℕ)
    → accept_refusal b.product_id b.rules (lengths_of mem sg) (view_of b mem sg) x (snapshot_line x bytes)
    ≡ accept_refusal b.product_id b.rules (lengths_of mem sg) (seen s b mem) x (snapshot_line x bytes)
unfolding accept_refusal
accept-same b mem sg s x bytes = refl

-- ---- `apply`, lent enough

module _ (top : ℕ) (b : BookReconstructor) (mem : Memory) (sg : List Segment) (s : ℕ) (u : Usable top b mem (length sg)) (st : Starts s b sg) (m : L3Message) where
  abbrev last : Segment
  last = last_segment sg b.segments

  abbrev gate : Option ApplyError
  gate = book_gate top b mem (length sg) last m

  -- the ledger meets the same number
  outcome-same : apply_outcome top (config_of b) (lengths_of mem sg) false (seen s b mem) m
      ≡ outcome_of gate (turn_refusal b.rules (line_in mem b.rows) (last_of b.status) m)
  unfolding apply_outcome gate_refusal
  outcome-same =
      ap (λ (o : Option ApplyError). outcome_of o (turn_refusal b.rules (line_in mem b.rows) (last_of b.status) m))
      (first_on _ _ _ _ (own-none top b mem sg u) refl ∙ sym (gate-trusted top b mem (length sg) last m u))

  abbrev Facts : Option ApplyError → Option InvalidationKind → Type 0
  Facts o t =
      (config_of (after_gate b mem last m o).book ≡ config_of b)
      × (seen s (after_gate b mem last m o).book (after_gate b mem last m o).memory ≡ view_by b.rules m (outcome_of o t) (seen s b mem))
      × Starts s (after_gate b mem last m o).book (relast sg b.segments (after_gate b mem last m o).segment)

  refused-facts : (a : ApplyError) (t : Option InvalidationKind) → Facts (Some a) t
  unfolding after_gate refused_reply outcome_of
  refused-facts a t =
      let e : refused_book b (Err a) ≡ with_counts b (refused_book b (Err a)).counts = refusal-counts b (Err a) in (
        ap config_of e,
        ap (λ (x : BookReconstructor). seen s x mem) e,
        subst (λ (x : BookReconstructor). Starts s x (relast sg b.segments last)) (sym e) (subst (λ (l : List Segment). Starts s b l) (sym (relast-same sg b.segments)) st),
      )

  abbrev Turns : Option InvalidationKind → Type 0
  Turns t =
      (config_of (decided b mem (last_of b.status) m t).book ≡ config_of b)
      × (seen s (decided b mem (last_of b.status) m t).book (decided b mem (last_of b.status) m t).memory ≡ view_by b.rules m (outcome_of {A = ApplyError} None t) (seen s b mem))
      × Starts s (decided b mem (last_of b.status) m t).book (relast sg b.segments (next_segment last (decided b mem (last_of b.status) m t).answer m.sequence m.time_us))

  turn-start : (a : Result Applied ApplyError) → 0 < b.segments → (last_segment (relast sg b.segments (next_segment last a m.sequence m.time_us)) b.segments).start_seq ≡ s
  turn-start a p = relast-start sg b.segments _ (next_start last a m.sequence m.time_us) ∙ st p

  turn_facts : (t : Option InvalidationKind) → turn_refusal b.rules (line_in mem b.rows) (last_of b.status) m ≡ t → Turns t
  unfolding decided outcome_of invalidated_reply accepted_core accepted_reply
  turn_facts (Some k) q = (refl, refl, turn-start (decided b mem (last_of b.status) m (Some k)).answer)
  turn_facts None q = (
    refl,
    ap (λ (l : List Entry). record { status = Valid m.sequence; start_seq = s; segments = b.segments; line = l }) (rw q at (accepted-line b mem (last_of b.status) m q)),
    turn-start (decided b mem (last_of b.status) m None).answer,
  )

  gate-facts : (o : Option ApplyError) → Facts o (turn_refusal b.rules (line_in mem b.rows) (last_of b.status) m)
  unfolding after_gate
  gate-facts (Some a) = refused-facts a _
  gate-facts None = turn_facts (turn_refusal b.rules (line_in mem b.rows) (last_of b.status) m) refl

  pub apply-stands : Stands (config_of b) (applied top b mem sg m).book (applied top b mem sg m).memory (applied top b mem sg m).segments
      (view_by b.rules m (apply_outcome top (config_of b) (lengths_of mem sg) false (seen s b mem) m) (seen s b mem))
  unfolding applied applied_to
  apply-stands =
      let o : Outcome = outcome_of gate (turn_refusal b.rules (line_in mem b.rows) (last_of b.status) m) in
      let f = gate-facts gate in
      rw outcome-same
      (stands_at (config_of b) _ _ _ (view_by b.rules m o (seen s b mem)) s (start-kept b.rules m o (seen s b mem)) f.0 f.1 f.2 (usable-kept top b mem (length sg) u last m).sound)

-- ---- a handshake step, lent enough

module _ (top : ℕ) (b : BookReconstructor) (mem : Memory) (sg : List Segment) (s : ℕ) (u : Usable top b mem (length sg)) (st : Starts s b sg) (h : Handshake) (m : L3Message) where
  abbrev outcome : Outcome
  outcome = step_outcome top (config_of b) (lengths_of mem sg) false (seen s b mem) h m

  unmoved : (k : MessageCounts) → Stands (config_of b) (with_counts b k) mem sg (seen s b mem)
  unfolding broken
  unmoved k = record { config = refl; view = refl; start = st; sound = u.sound }

  abbrev StepStands : Outcome → StepParts → Type 0
  StepStands o p = Stands (config_of b) p.book p.memory p.segments (view_by b.rules m o (seen s b mem))

  module _ (p : other_segment h (segment_of b) b.segments ≡ true) where
    other-outcome : outcome ≡ refused
    unfolding step_outcome step_refusal step_outcome_of
    other-outcome = rw (first_on _ _ _ _ (own-none top b mem sg u) (fails _ _ _ p))

  module _ (p : other_segment h (segment_of b) b.segments ≡ false) where
    range-outcome : not (event_in_range m.event) ≡ true → outcome ≡ refused
    unfolding step_outcome step_refusal step_outcome_of
    range-outcome q = rw (first_on _ _ _ _ (own-none top b mem sg u) (goes_on _ _ _ _ p (fails _ _ _ q)))

    pub same_start : (last_segment sg b.segments).start_seq ≡ s
    same_start =
        let k = or_no h.ended (eqb b.segments 0 || not (same_segment h.segment (segment_of b))) p in
        let z : b.segments ≡ 0 → ⊥ = eqb-false b.segments 0 (or_no (eqb b.segments 0) (not (same_segment h.segment (segment_of b))) k.1).0 in
        st (omega (arith, z))

    module _ (q : not (event_in_range m.event) ≡ false) where
      through : outcome ≡ cond (drops b.product_id s m) dropped (apply_outcome top (config_of b) (lengths_of mem sg) false (seen s b mem) m)
      unfolding step_outcome step_refusal step_outcome_of
      through = rw (first_on _ _ _ _ (own-none top b mem sg u) (goes_on _ _ _ _ p (goes_on _ _ _ _ q refl)))

  pub step-stands : StepStands outcome (stepped top h b mem sg m)
  step-stands = go₁ (other_segment h (segment_of b) b.segments) refl
    where
      go₃ : (p : other_segment h (segment_of b) b.segments ≡ false) (q : not (event_in_range m.event) ≡ false) (d : Bool)
          → drops b.product_id s m ≡ d → StepStands outcome (stepped top h b mem sg m)
      go₃ p q true e =
          rw (through p q, e, dropped_step top h b mem sg m u p q (ap (λ (x : ℕ). drops b.product_id x m) (same_start p) ∙ e)) (unmoved _)
      go₃ p q false e =
          rw (through p q, e, decided-step top h b mem sg m u p q (ap (λ (x : ℕ). drops b.product_id x m) (same_start p) ∙ e)) (apply-stands top b mem sg s u st m)

      go₂ : (p : other_segment h (segment_of b) b.segments ≡ false) (r : Bool) → not (event_in_range m.event) ≡ r
          → StepStands outcome (stepped top h b mem sg m)
      go₂ p true q = rw (range-outcome p q, out_of_range-step top h b mem sg m u p q) (unmoved b.counts)
      go₂ p false q = go₃ p q (drops b.product_id s m) refl

      go₁ : (o : Bool) → other_segment h (segment_of b) b.segments ≡ o → StepStands outcome (stepped top h b mem sg m)
      go₁ true p = rw (other-outcome p, other_step top h b mem sg m u p) (unmoved b.counts)
      go₁ false p = go₂ p (not (event_in_range m.event)) refl

-- ---- `bootstrap`, lent enough

module _ (top : ℕ) (b : BookReconstructor) (mem : Memory) (sg : List Segment) (s : ℕ) (u : Usable top b mem (length sg)) (st : Starts s b sg) (bytes : List ℕ) where
  abbrev BootStands : Option BootstrapError → SnapshotParts → Type 0
  BootStands o p = Stands (config_of b) p.book p.memory p.segments (view_boot o (read_snapshot bytes) bytes (seen s b mem))

  pub boot-same : boot_outcome top (config_of b) (lengths_of mem sg) (seen s b mem) bytes ≡ refusal_of top b mem sg bytes
  unfolding boot_refusal
  boot-same = first_on _ _ _ _ (own-none top b mem sg u) refl ∙ sym (first_on _ _ _ _ (usable-none top b mem (length sg) u) (piece-same (read_snapshot bytes)))
    where
      piece-same : (r : Result L3Snapshot PieceError)
          → piece_refusal b.product_id b.rules (lengths_of mem sg) (view_of b mem sg) r bytes ≡ piece_refusal b.product_id b.rules (lengths_of mem sg) (seen s b mem) r bytes
      piece-same (Err e) = refl
      piece-same (Ok x) = accept-same b mem sg s x bytes

  counted-stands : (x : BootstrapError) → Stands (config_of b) (refused_boot (Err x) b) mem sg (seen s b mem)
  unfolding broken
  counted-stands x = rw (counts_alone (Err x) b) (record { config = refl; view = refl; start = st; sound = u.sound })

  module _ (q : refusal_of top b mem sg bytes ≡ None) where
    module _ (x : L3Snapshot) (is : bootstrapped top b mem sg bytes ≡ accepted_parts b mem sg x.sequence (snapshot_line x bytes)) where
      abbrev line : List Entry
      line = snapshot_line x bytes

      abbrev left : SnapshotParts
      left = accepted_parts b mem sg x.sequence (snapshot_line x bytes)

      left-line : line_in left.memory left.book.rows ≡ line
      left-line =
          let n : length (map (snapshot_row x.sequence) line) ≡ length line = length-map line (snapshot_row x.sequence) in
          let r : rows_of (stored mem.rows b.rows (map (snapshot_row x.sequence) line)) (length line) ≡ map (snapshot_row x.sequence) line =
          rw n at (rows-stored mem.rows b.rows (map (snapshot_row x.sequence) line)) in
          ap line_of r ∙ line-snapshot x.sequence line

      left-start : Starts x.sequence left.book left.segments
      left-start z =
          let a = is-accepted top b mem sg bytes q in
          let g : Segment = closed b.status (last_segment sg b.segments) in
          let c = length-relast sg b.segments g in
          ap (λ (n : ℕ). (last_segment left.segments n).start_seq) (add-one b.segments)
          ∙ ap (λ (y : Segment). y.start_seq) (get_or-set_same (relast sg b.segments g) b.segments (started x.sequence) no_segment (omega (arith, a.room, c)))

      left-stands : Stands (config_of b) left.book left.memory left.segments (snap_view x bytes (seen s b mem))
      left-stands =
          record {
            config = refl;
            view = ap (λ (l : List Entry). record { status = Valid x.sequence; start_seq = x.sequence; segments = b.segments + 1; line = l }) left-line;
            start = left-start;
            sound = subst (λ (p : SnapshotParts). broken p.book p.memory ≡ false) is (accepted-usable top b mem sg bytes q).sound;
          }

    taken-stands : BootStands None (bootstrapped top b mem sg bytes)
    taken-stands = let a = is-accepted top b mem sg bytes q in rw (a.is, a.read) (left-stands a.snapshot a.is)

  pub boot-stands : BootStands (boot_outcome top (config_of b) (lengths_of mem sg) (seen s b mem) bytes) (bootstrapped top b mem sg bytes)
  boot-stands = rw boot-same (go (refusal_of top b mem sg bytes) refl)
    where
      go : (o : Option BootstrapError) → refusal_of top b mem sg bytes ≡ o → BootStands o (bootstrapped top b mem sg bytes)
      go (Some x) q = rw (refused_is top b mem sg bytes x q) (counted-stands x)
      go None q = taken-stands q
