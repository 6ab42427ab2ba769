-- What a call that is lent enough leaves of its lent memory: as much of it, with room for the rows and records in use.
-- Assumes nothing.
use Rattle.std.specs.Prelude.{Option, Some, None, Err}
use Prim.Native.Nat.{ℕ, ◌*◌, ◌≤◌}
use native.Mathlib.Omega.{arith}
use mathlib.Core.Bool.{Bool, true, false, not}
use mathlib.Core.Path.{◌≡◌, refl, ap, ◌∙◌}
use mathlib.Core.List.{List, map}
use lib.ListN.{length, length-map, length-set}
use Rattle.message.specs.declared.L3Message.{L3Message}
use Rattle.message.specs.Values.{event_in_range}
use Rattle.book.specs.Rows.{row_words, snapshot_row}
use Rattle.book.specs.Memory.{Memory, line_in, orders_of, orders_by}
use Rattle.book.proofs.Stored.{length-stored}
use Rattle.reconstructor_answers.specs.declared.ApplyError.{ApplyError}
use Rattle.reconstructor_answers.specs.declared.InvalidationKind.{InvalidationKind}
use Rattle.reconstructor_segments.specs.declared.Segment.{Segment}
use Rattle.reconstructor_segments.specs.Segments.{last_segment, relast, started}
use Rattle.reconstructor_segments.proofs.Last.{length-relast}
use Rattle.reconstructor_state.specs.declared.BookReconstructor.{BookReconstructor}
use Rattle.reconstructor_state.specs.State.{last_of, segment_of, with_counts}
use Rattle.reconstructor_checks.specs.StateChecks.{Usable, broken}
use Rattle.reconstructor_checks.proofs.StateChecks.{sound, rows-lent, segments-lent}
use Rattle.reconstructor_plan.specs.Rules.{effect, event_deed}
use Rattle.reconstructor.specs.Refusals.{turn_refusal}
use Rattle.reconstructor.specs.Applied.{refused_reply, invalidated_reply, accepted_reply, accepted as accepted_core, decided, after_gate, book_gate, applied_to, applied}
use Rattle.reconstructor.proofs.Kept.{usable-kept}
use Rattle.reconstructor_bootstrap.specs.declared.BootstrapError.{BootstrapError}
use Rattle.reconstructor_bootstrap.specs.Snapshot.{snapshot_line}
use Rattle.reconstructor_bootstrap.specs.Bootstrap.{Parts as SnapshotParts, refused_book, closed, bootstrapped}
use Rattle.reconstructor_bootstrap.proofs.Laws.{refusal_of, refused_is, counts_alone, is-accepted}
use Rattle.reconstructor_handshake.specs.declared.Handshake.{Handshake}
use Rattle.reconstructor_handshake.specs.Step.{StepParts, other_segment, stepped}
use Rattle.reconstructor_handshake_rules.specs.Drops.{drops}
use Rattle.reconstructor_handshake.proofs.Step.{other_step, out_of_range-step, dropped_step, decided-step}

pub record Left (mem : Memory) (sg : List Segment) (b : BookReconstructor) (after : Memory) (tg : List Segment) : Type 0 where
  pub rows : length after.rows ≡ length mem.rows
  pub segments : length tg ≡ length sg
  pub room : row_words * b.rows ≤ length after.rows
  pub listed : b.segments ≤ length tg

left-same : (top : ℕ) (b c : BookReconstructor) (mem : Memory) (sg : List Segment) → Usable top b mem (length sg) → c.rows ≡ b.rows → c.segments ≡ b.segments → Left mem sg c mem sg
left-same top b c mem sg u e q =
    record {
      rows = refl;
      segments = refl;
      room = omega (arith, e, (sound b mem u.sound).few, rows-lent b mem (length sg) u.lent);
      listed = omega (arith, q, segments-lent b mem (length sg) u.lent);
    }

module _ (top : ℕ) (b : BookReconstructor) (mem : Memory) (sg : List Segment) (u : Usable top b mem (length sg)) (m : L3Message) where
  rows-size : (t : Option InvalidationKind) → (decided b mem (last_of b.status) m t).book.rows ≤ b.rules.max_orders
      → length (decided b mem (last_of b.status) m t).memory.rows ≡ length mem.rows
  unfolding decided accepted_core accepted_reply invalidated_reply event_deed
  rows-size (Some k) h = refl
  rows-size None h =
      length-stored mem.rows b.rows (orders_by (effect b.rules (line_in mem b.rows) m.sequence m.event) (orders_of mem b.rows))
      (omega (arith, (sound b mem u.sound).few, rows-lent b mem (length sg) u.lent))
      (omega (arith, h, rows-lent b mem (length sg) u.lent))

  same-rules : (t : Option InvalidationKind) → (decided b mem (last_of b.status) m t).book.rules ≡ b.rules
  unfolding decided accepted_core accepted_reply invalidated_reply
  same-rules (Some k) = refl
  same-rules None = refl

  sizes : (g : Segment) (o : Option ApplyError) → broken (after_gate b mem g m o).book (after_gate b mem g m o).memory ≡ false → length (after_gate b mem g m o).memory.rows ≡ length mem.rows
  unfolding after_gate refused_reply
  sizes g (Some a) h = refl
  sizes g None h =
      let t : Option InvalidationKind = turn_refusal b.rules (line_in mem b.rows) (last_of b.status) m in
      let e : (decided b mem (last_of b.status) m t).book.rules ≡ b.rules = same-rules t in
      rows-size t (rw e at (sound (decided b mem (last_of b.status) m t).book (decided b mem (last_of b.status) m t).memory h).few)

  pub apply-left : Left mem sg (applied top b mem sg m).book (applied top b mem sg m).memory (applied top b mem sg m).segments
  unfolding applied applied_to
  apply-left =
      let g : Segment = last_segment sg b.segments in
      let k = usable-kept top b mem (length sg) u g m in
      let z = sizes g (book_gate top b mem (length sg) g m) k.sound in
      let y = length-relast sg b.segments (applied_to top b mem (length sg) g m).segment in
      let l = rows-lent (applied_to top b mem (length sg) g m).book (applied_to top b mem (length sg) g m).memory (length sg) k.lent in
      let f = (sound (applied_to top b mem (length sg) g m).book (applied_to top b mem (length sg) g m).memory k.sound).few in
      let s = segments-lent (applied_to top b mem (length sg) g m).book (applied_to top b mem (length sg) g m).memory (length sg) k.lent in
      record { rows = z; segments = y; room = omega (arith, l, f); listed = omega (arith, s, y) }

  -- ---- a handshake step

  module _ (h : Handshake) where
    abbrev StepLeft : StepParts → Type 0
    StepLeft p = Left mem sg p.book p.memory p.segments

    pub step_left : StepLeft (stepped top h b mem sg m)
    step_left = go₁ (other_segment h (segment_of b) b.segments) refl
      where
        go₃ : (p : other_segment h (segment_of b) b.segments ≡ false) (q : not (event_in_range m.event) ≡ false) (d : Bool)
            → drops b.product_id (last_segment sg b.segments).start_seq m ≡ d → StepLeft (stepped top h b mem sg m)
        go₃ p q true e = rw (dropped_step top h b mem sg m u p q e) (left-same top b _ mem sg u refl refl)
        go₃ p q false e = rw (decided-step top h b mem sg m u p q e) apply-left

        go₂ : (p : other_segment h (segment_of b) b.segments ≡ false) (r : Bool) → not (event_in_range m.event) ≡ r → StepLeft (stepped top h b mem sg m)
        go₂ p true q = rw (out_of_range-step top h b mem sg m u p q) (left-same top b b mem sg u refl refl)
        go₂ p false q = go₃ p q (drops b.product_id (last_segment sg b.segments).start_seq m) refl

        go₁ : (o : Bool) → other_segment h (segment_of b) b.segments ≡ o → StepLeft (stepped top h b mem sg m)
        go₁ true p = rw (other_step top h b mem sg m u p) (left-same top b b mem sg u refl refl)
        go₁ false p = go₂ p (not (event_in_range m.event)) refl

-- ---- a snapshot

module _ (top : ℕ) (b : BookReconstructor) (mem : Memory) (sg : List Segment) (u : Usable top b mem (length sg)) (bytes : List ℕ) where
  abbrev BootLeft : SnapshotParts → Type 0
  BootLeft p = Left mem sg p.book p.memory p.segments

  accepted-left : refusal_of top b mem sg bytes ≡ None → BootLeft (bootstrapped top b mem sg bytes)
  accepted-left q =
      let a = is-accepted top b mem sg bytes q in
      let t = a.snapshot.sequence in
      let n : length (map (snapshot_row t) (snapshot_line a.snapshot bytes)) ≡ length (snapshot_line a.snapshot bytes) = length-map (snapshot_line a.snapshot bytes) (snapshot_row t) in
      let f = (sound b mem u.sound).few in
      let r = rows-lent b mem (length sg) u.lent in
      let c = length-relast sg b.segments (closed b.status (last_segment sg b.segments)) in
      let d = length-set (relast sg b.segments (closed b.status (last_segment sg b.segments))) b.segments (started t) in
      let l = length-stored mem.rows b.rows (map (snapshot_row t) (snapshot_line a.snapshot bytes)) (omega (arith, f, r)) (omega (arith, n, a.fits.few, r)) in
      rw a.is (record { rows = l; segments = d ∙ c; room = omega (arith, l, a.fits.few, r); listed = omega (arith, c, d, a.room) })

  pub boot-left : BootLeft (bootstrapped top b mem sg bytes)
  boot-left = go (refusal_of top b mem sg bytes) refl
    where
      go : (o : Option BootstrapError) → refusal_of top b mem sg bytes ≡ o → BootLeft (bootstrapped top b mem sg bytes)
      go (Some x) q =
          let e : refused_book (Err x) b ≡ with_counts b (refused_book (Err x) b).counts = counts_alone (Err x) b in
          rw (refused_is top b mem sg bytes x q)
          (left-same top b (refused_book (Err x) b) mem sg u (ap (λ (k : BookReconstructor). k.rows) e) (ap (λ (k : BookReconstructor). k.segments) e))
      go None q = accepted-left q
