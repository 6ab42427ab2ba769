-- Each of the twelve counts is the number of calls so far that are counted there, up to 2^64−1.
-- Assumes nothing.
use Rattle.std.specs.Prelude.{Option, Some, None, Err}
use Prim.Native.Nat.{ℕ, ◌+◌, ◌≤◌}
use native.Mathlib.Omega.{arith}
use mathlib.Core.Bool.{Bool, true, false, not, ◌||◌, cond}
use mathlib.Core.Path.{◌≡◌, refl, sym, ap, ◌∙◌}
use mathlib.Core.List.{List, [], ◌∷◌}
use borrow.Author.Tests.{ltb-true, ltb-false, le-ltb}
use lib.Dec.{eqb, ltb}
use lib.ListN.{length}
use Rattle.message.specs.declared.L3Message.{L3Message}
use Rattle.message.specs.Values.{event_in_range}
use Rattle.book.specs.Memory.{Memory, Extent, extent_of, line_in}
use Rattle.reconstructor_answers.specs.declared.ApplyError.{ApplyError}
use Rattle.reconstructor_answers.specs.declared.ApplyError.TheVariants as refusals
use Rattle.reconstructor_answers.specs.declared.InvalidationKind.{InvalidationKind}
use Rattle.reconstructor_counts.specs.declared.MessageCounts.{MessageCounts}
use Rattle.reconstructor_counts.specs.declared.Counter.{Counter}
use Rattle.reconstructor_counts.specs.declared.Counter.TheVariants as counters
use Rattle.reconstructor_counts.specs.Counts.{largest, saturated, raised_at, place_of, counted}
use Rattle.reconstructor_segments.specs.declared.Segment.{Segment}
use Rattle.reconstructor_segments.specs.Segments.{last_segment}
use Rattle.reconstructor_state.specs.declared.BookReconstructor.{BookReconstructor}
use Rattle.reconstructor_state.specs.State.{View, Lengths, last_of, segment_of}
use Rattle.reconstructor_state.proofs.Checks.{fails, goes_on, first-fails, first_on}
use Rattle.reconstructor_checks.specs.StateChecks.{Usable, over_ceiling, too_short}
use Rattle.reconstructor_plan.specs.Rules.{event_deed}
use Rattle.reconstructor.specs.Refusals.{gate_refusal, turn_refusal}
use Rattle.reconstructor.specs.Applied.{refused_reply, invalidated_reply, accepted_reply, accepted as accepted_core, decided, after_gate, book_gate, applied_to, applied}
use Rattle.reconstructor.proofs.Laws.{gate-trusted}
use Rattle.reconstructor_bootstrap.specs.declared.BootstrapError.{BootstrapError}
use Rattle.reconstructor_bootstrap.specs.declared.BootstrapError.TheVariants as snapshots
use Rattle.reconstructor_bootstrap.specs.Snapshot.{boot_refusal}
use Rattle.reconstructor_bootstrap.specs.Bootstrap as boot
use Rattle.reconstructor_bootstrap.specs.Bootstrap.{bootstrapped}
use Rattle.reconstructor_bootstrap.proofs.Laws.{refusal_of, refused_is, is-accepted}
use Rattle.reconstructor_handshake.specs.declared.Handshake.{Handshake}
use Rattle.reconstructor_handshake.specs.Step.{other_segment, step_refusal, stepped}
use Rattle.reconstructor_handshake_rules.specs.Drops.{drops}
use Rattle.reconstructor_handshake.proofs.Step.{unusable-step, other_step, out_of_range-step, dropped_step, decided-step}
use Rattle.ledger.specs.Ledger.{Config, Call, Read as Asked, bootstrap, apply, step, read, blank, feed_view}
use Rattle.ledger.specs.World.{World, lent_memory, lent_segments, perform, run, Fits, Lendable, fresh_world}
use Rattle.ledger.specs.Counts.{answer_place, message_place, snapshot_place, apply_place, place_in, hit, times_in, up_to, counts_by}
use Rattle.ledger.proofs.Stands.{lengths_of, config_of, seen, Starts, own-none, boot-same, same_start}
use Rattle.ledger.proofs.Follow.{Follows, early, early_own, early-applied, early-refusal, lengths_are, same_view, usable_now, starts_now, boot-follows, apply-follows, step_follows, fresh-follows}

-- ---- one more, up to 2^64−1

up_most : (x : ℕ) → x ≤ largest → up_to x ≡ x
up_most x h = go (ltb x largest) refl
  where
    go : (b : Bool) → ltb x largest ≡ b → cond b x largest ≡ x
    go true p = refl
    go false p = omega (arith, ltb-false x largest p, h)

up-high : (x : ℕ) → largest ≤ x → up_to x ≡ largest
up-high x h = rw (le-ltb x largest h)

saturated_up : (x : ℕ) → saturated (up_to x) ≡ up_to (x + 1)
unfolding saturated
saturated_up x = go (ltb x largest) refl
  where
    go : (b : Bool) → ltb x largest ≡ b → cond (ltb (up_to x) largest) (up_to x + 1) (up_to x) ≡ up_to (x + 1)
    go true p =
        let l = ltb-true x largest p in
        rw (up_most x (omega (arith, l)), up_most (x + 1) (omega (arith, l)), p)
    go false p =
        let l = ltb-false x largest p in
        rw (up-high x l, up-high (x + 1) (omega (arith, l)))

raised_up : (k i : Counter) (x : ℕ) → raised_at (place_of k) (place_of i) (up_to x) ≡ up_to (x + hit i (Some k))
raised_up k i x = go (eqb (place_of k) (place_of i))
  where
    go : (b : Bool) → cond b (saturated (up_to x)) (up_to x) ≡ up_to (x + cond b 1 0)
    go true = saturated_up x
    go false = let z : x ≡ x + 0 = omega arith in ap up_to z

counts_same : (f g : Counter → ℕ) → ((i : Counter) → f i ≡ g i) → counts_by f ≡ counts_by g
counts_same f g h =
    rw (
      h counters.Received,
      h counters.Open,
      h counters.Done,
      h counters.Matched,
      h counters.Stp,
      h counters.OffBookDone,
      h counters.OffBookChange,
      h counters.NoopChange,
      h counters.HandshakeDropped,
      h counters.SkippedWhileInvalid,
      h counters.WrongProduct,
      h counters.RejectedSnapshots,
    )

abbrev counted_by : Option Counter → MessageCounts → MessageCounts
counted_by None k = k
counted_by (Some p) k = counted k p

counted_up : (a : Counter → ℕ) (o : Option Counter) (k : MessageCounts) → k ≡ counts_by (λ (i : Counter). up_to (a i)) → counted_by o k ≡ counts_by (λ (i : Counter). up_to (a i + hit i o))
counted_up a None k e = e ∙ counts_same _ _ (λ i. let z : a i ≡ a i + 0 = omega arith in ap up_to z)
counted_up a (Some p) k e = ap (λ (z : MessageCounts). counted z p) e ∙ counts_same (λ (i : Counter). raised_at (place_of p) (place_of i) (up_to (a i))) (λ (i : Counter). up_to (a i + hit i (Some p))) (λ i. raised_up p i (a i))

-- ---- a call by value, lent enough

refused-counted : (b : BookReconstructor) (mem : Memory) (g : Segment) (m : L3Message) (a : ApplyError) → (after_gate b mem g m (Some a)).book.counts ≡ counted_by (answer_place (Err a)) b.counts
unfolding after_gate refused_reply
refused-counted b mem g m (refusals.Unusable e) = refl
refused-counted b mem g m refusals.AmountOutOfRange = refl
refused-counted b mem g m refusals.WrongProduct = refl
refused-counted b mem g m refusals.NotBootstrapped = refl
refused-counted b mem g m (refusals.Invalidated i) = refl
refused-counted b mem g m (refusals.AwaitingSnapshot i) = refl

decided-counted : (b : BookReconstructor) (mem : Memory) (m : L3Message) (t : Option InvalidationKind)
    → (decided b mem (last_of b.status) m t).book.counts ≡ counted_by (message_place b.rules (line_in mem b.rows) m.event None t) b.counts
unfolding decided invalidated_reply accepted_core accepted_reply event_deed
decided-counted b mem m (Some k) = refl
decided-counted b mem m None = refl

answered-counted : (b : BookReconstructor) (mem : Memory) (g : Segment) (m : L3Message) (o : Option ApplyError)
    → (after_gate b mem g m o).book.counts
    ≡ counted_by (message_place b.rules (line_in mem b.rows) m.event o (turn_refusal b.rules (line_in mem b.rows) (last_of b.status) m)) b.counts
unfolding after_gate
answered-counted b mem g m (Some a) = refused-counted b mem g m a
answered-counted b mem g m None = decided-counted b mem m (turn_refusal b.rules (line_in mem b.rows) (last_of b.status) m)

module _ (top : ℕ) (b : BookReconstructor) (mem : Memory) (sg : List Segment) (s : ℕ) (u : Usable top b mem (length sg)) (st : Starts s b sg) where
  gate_same : (m : L3Message) → gate_refusal top b.product_id b.rules (lengths_of mem sg) false (seen s b mem) m ≡ book_gate top b mem (length sg) (last_segment sg b.segments) m
  unfolding gate_refusal
  gate_same m = first_on _ _ _ _ (own-none top b mem sg u) refl ∙ sym (gate-trusted top b mem (length sg) (last_segment sg b.segments) m u)

  apply-counted : (m : L3Message) → (applied top b mem sg m).book.counts ≡ counted_by (apply_place top (config_of b) (seen s b mem) (lengths_of mem sg) m) b.counts
  unfolding applied applied_to apply_place
  apply-counted m = rw (gate_same m) (answered-counted b mem (last_segment sg b.segments) m (book_gate top b mem (length sg) (last_segment sg b.segments) m))

  module _ (h : Handshake) (m : L3Message) where
    abbrev place : Option Counter
    place = place_in top (config_of b) (seen s b mem) (step (lengths_of mem sg) h m)

    other_place : other_segment h (segment_of b) b.segments ≡ true → place ≡ None
    unfolding place_in step_refusal
    other_place p = rw (first_on _ _ _ _ (own-none top b mem sg u) (fails _ _ _ p))

    range-place : other_segment h (segment_of b) b.segments ≡ false → not (event_in_range m.event) ≡ true → place ≡ None
    unfolding place_in step_refusal
    range-place p q = rw (first_on _ _ _ _ (own-none top b mem sg u) (goes_on _ _ _ _ p (fails _ _ _ q)))

    through-place : other_segment h (segment_of b) b.segments ≡ false → not (event_in_range m.event) ≡ false
        → place ≡ cond (drops b.product_id s m) (Some counters.HandshakeDropped) (apply_place top (config_of b) (seen s b mem) (lengths_of mem sg) m)
    unfolding place_in step_refusal
    through-place p q = rw (first_on _ _ _ _ (own-none top b mem sg u) (goes_on _ _ _ _ p (goes_on _ _ _ _ q refl)))

    step-counted : (stepped top h b mem sg m).book.counts ≡ counted_by place b.counts
    step-counted = go₁ (other_segment h (segment_of b) b.segments) refl
      where
        go₃ : (p : other_segment h (segment_of b) b.segments ≡ false) (q : not (event_in_range m.event) ≡ false) (d : Bool)
            → drops b.product_id s m ≡ d → (stepped top h b mem sg m).book.counts ≡ counted_by place b.counts
        go₃ p q true e =
            rw (through-place p q, e, dropped_step top h b mem sg m u p q (ap (λ (x : ℕ). drops b.product_id x m) (same_start top b mem sg s u st h m p) ∙ e))
        go₃ p q false e =
            rw (through-place p q, e, decided-step top h b mem sg m u p q (ap (λ (x : ℕ). drops b.product_id x m) (same_start top b mem sg s u st h m p) ∙ e)) (apply-counted m)

        go₂ : (p : other_segment h (segment_of b) b.segments ≡ false) (r : Bool) → not (event_in_range m.event) ≡ r
            → (stepped top h b mem sg m).book.counts ≡ counted_by place b.counts
        go₂ p true q = rw (range-place p q, out_of_range-step top h b mem sg m u p q)
        go₂ p false q = go₃ p q (drops b.product_id s m) refl

        go₁ : (o : Bool) → other_segment h (segment_of b) b.segments ≡ o → (stepped top h b mem sg m).book.counts ≡ counted_by place b.counts
        go₁ true p = rw (other_place p, other_step top h b mem sg m u p)
        go₁ false p = go₂ p (not (event_in_range m.event)) refl

  module _ (bytes : List ℕ) where
    rejected-counted : (x : BootstrapError) → (boot.refused_book (Err x) b).counts ≡ counted_by (snapshot_place (Some x)) b.counts
    rejected-counted (snapshots.Unusable e) = refl
    rejected-counted snapshots.NotAPiece = refl
    rejected-counted snapshots.AmountOutOfRange = refl
    rejected-counted snapshots.ListFull = refl
    rejected-counted (snapshots.Rejected e) = refl

    boot-counted : (bootstrapped top b mem sg bytes).book.counts ≡ counted_by (place_in top (config_of b) (seen s b mem) (bootstrap (lengths_of mem sg) bytes)) b.counts
    unfolding place_in
    boot-counted = rw (boot-same top b mem sg s u st bytes) (go (refusal_of top b mem sg bytes) refl)
      where
        go : (o : Option BootstrapError) → refusal_of top b mem sg bytes ≡ o → (bootstrapped top b mem sg bytes).book.counts ≡ counted_by (snapshot_place o) b.counts
        go (Some x) q = ap (λ (p : boot.Parts). p.book.counts) (refused_is top b mem sg bytes x q) ∙ rejected-counted x
        go None q = ap (λ (p : boot.Parts). p.book.counts) (is-accepted top b mem sg bytes q).is

-- ---- lent too little: not counted

module _ (top : ℕ) (c : Config) (n : Lengths) (v : View) (q : (over_ceiling top c.rules || too_short c.rules n v.segments) ≡ true) where
  early-apply-place : (m : L3Message) → place_in top c v (apply n m) ≡ None
  unfolding place_in apply_place gate_refusal
  early-apply-place m = let e = early top c.rules n false v.segments q in rw (first-fails _ _ _ _ e.1)

  early-step-place : (h : Handshake) (m : L3Message) → place_in top c v (step n h m) ≡ None
  unfolding place_in step_refusal
  early-step-place h m = let e = early top c.rules n false v.segments q in rw (first-fails _ _ _ _ e.1)

  early_boot-place : (bytes : List ℕ) → place_in top c v (bootstrap n bytes) ≡ None
  unfolding place_in boot_refusal
  early_boot-place bytes = let e = early top c.rules n false v.segments q in rw (first-fails _ _ _ _ e.1)

-- ---- one call of a book that follows the ledger

module _ (top : ℕ) (c : Config) (r : Extent) (s : ℕ) (w : World) (v : View) (f : Follows c r s w v) (n : Lengths) (fits : Fits r s n) where
  abbrev mem : Memory
  mem = lent_memory n w

  abbrev sg : List Segment
  sg = lent_segments n w

  abbrev little : Bool
  little = over_ceiling top c.rules || too_short c.rules n v.segments

  apply-counts : (m : L3Message) → (perform top w (apply n m)).book.counts ≡ counted_by (place_in top c v (apply n m)) w.book.counts
  unfolding perform place_in
  apply-counts m = go little refl
    where
      go : (b : Bool) → little ≡ b → (applied top w.book mem sg m).book.counts ≡ counted_by (apply_place top c v n m) w.book.counts
      go true q = rw (early-apply-place top c n v q m, (early-applied top c r s w v f n fits q m).0)
      go false q =
          rw (f.stands.config, lengths_are top c r s w v f n fits, same_view top c r s w v f n fits q) at
          (apply-counted top w.book mem sg v.start_seq (usable_now top c r s w v f n fits q) (starts_now top c r s w v f n fits q) m)

  step_counts : (h : Handshake) (m : L3Message) → (perform top w (step n h m)).book.counts ≡ counted_by (place_in top c v (step n h m)) w.book.counts
  unfolding perform
  step_counts h m = go little refl
    where
      go : (b : Bool) → little ≡ b → (stepped top h w.book mem sg m).book.counts ≡ counted_by (place_in top c v (step n h m)) w.book.counts
      go true q =
          let e = early_own top c r s w v f n fits q in
          rw (early-step-place top c n v q h m, unusable-step top h w.book mem sg m e.0 e.1)
      go false q =
          rw (f.stands.config, lengths_are top c r s w v f n fits, same_view top c r s w v f n fits q) at
          (step-counted top w.book mem sg v.start_seq (usable_now top c r s w v f n fits q) (starts_now top c r s w v f n fits q) h m)

  boot-counts : (bytes : List ℕ) → (perform top w (bootstrap n bytes)).book.counts ≡ counted_by (place_in top c v (bootstrap n bytes)) w.book.counts
  unfolding perform
  boot-counts bytes = go little refl
    where
      go : (b : Bool) → little ≡ b → (bootstrapped top w.book mem sg bytes).book.counts ≡ counted_by (place_in top c v (bootstrap n bytes)) w.book.counts
      go true q =
          let e = early_own top c r s w v f n fits q in
          rw (early_boot-place top c n v q bytes, refused_is top w.book mem sg bytes (snapshots.Unusable e.0) (early-refusal top w.book mem sg bytes e.0 e.1))
      go false q =
          rw (f.stands.config, lengths_are top c r s w v f n fits, same_view top c r s w v f n fits q) at
          (boot-counted top w.book mem sg v.start_seq (usable_now top c r s w v f n fits q) (starts_now top c r s w v f n fits q) bytes)

-- ---- any list of calls

module _ (top : ℕ) (c : Config) (r : Extent) (s : ℕ) where
  -- what was counted, this call, and those after it
  more : (a : Counter → ℕ) (w : World) (v : View) (k : Call) (ks : List Call) → (run top (perform top w k) ks).book.counts ≡ counts_by (λ (i : Counter). up_to ((a i + hit i (place_in top c v k)) + times_in top c (feed_view top c v k) ks i))
      → (run top w (k ∷ ks)).book.counts ≡ counts_by (λ (i : Counter). up_to (a i + times_in top c v (k ∷ ks) i))
  more a w v k ks e =
      e ∙ counts_same _ _ (λ i. let z : (a i + hit i (place_in top c v k)) + times_in top c (feed_view top c v k) ks i ≡ a i + (hit i (place_in top c v k) + times_in top c (feed_view top c v k) ks i) = omega arith in ap up_to z)

  past-read : (a : Counter → ℕ) (w : World) (v : View) (q : Asked) (ks : List Call) → (run top w ks).book.counts ≡ counts_by (λ (i : Counter). up_to (a i + times_in top c v ks i))
      → (run top w (read q ∷ ks)).book.counts ≡ counts_by (λ (i : Counter). up_to (a i + times_in top c v (read q ∷ ks) i))
  unfolding perform feed_view place_in
  past-read a w v q ks e = e ∙ counts_same _ _ (λ i. let z : a i + times_in top c v ks i ≡ a i + (0 + times_in top c v ks i) = omega arith in ap up_to z)

  run-counts : (a : Counter → ℕ) (w : World) (v : View) (ks : List Call) → Follows c r s w v → Lendable r s ks → w.book.counts ≡ counts_by (λ (i : Counter). up_to (a i))
      → (run top w ks).book.counts ≡ counts_by (λ (i : Counter). up_to (a i + times_in top c v ks i))
  run-counts a w v [] f l e = e ∙ counts_same _ _ (λ i. let z : a i ≡ a i + 0 = omega arith in ap up_to z)
  run-counts a w v (bootstrap n bytes ∷ ks) f l e =
      more a w v (bootstrap n bytes) ks
      (run-counts (λ (i : Counter). a i + hit i (place_in top c v (bootstrap n bytes))) (perform top w (bootstrap n bytes)) (feed_view top c v (bootstrap n bytes)) ks (boot-follows top c r s w v f n l.0 bytes) l.1
      (boot-counts top c r s w v f n l.0 bytes ∙ counted_up a (place_in top c v (bootstrap n bytes)) w.book.counts e))
  run-counts a w v (apply n m ∷ ks) f l e =
      more a w v (apply n m) ks
      (run-counts (λ (i : Counter). a i + hit i (place_in top c v (apply n m))) (perform top w (apply n m)) (feed_view top c v (apply n m)) ks (apply-follows top c r s w v f n l.0 m) l.1
      (apply-counts top c r s w v f n l.0 m ∙ counted_up a (place_in top c v (apply n m)) w.book.counts e))
  run-counts a w v (step n h m ∷ ks) f l e =
      more a w v (step n h m) ks
      (run-counts (λ (i : Counter). a i + hit i (place_in top c v (step n h m))) (perform top w (step n h m)) (feed_view top c v (step n h m)) ks (step_follows top c r s w v f n l.0 h m) l.1
      (step_counts top c r s w v f n l.0 h m ∙ counted_up a (place_in top c v (step n h m)) w.book.counts e))
  run-counts a w v (read q ∷ ks) f l e = past-read a w v q ks (run-counts a w v ks f l e)

pub counts_are : (top : ℕ) (c : Config) (mem : Memory) (sg : List Segment) (ks : List Call) → Lendable (extent_of mem) (length sg) ks
    → (run top (fresh_world c mem sg) ks).book.counts ≡ counts_by (λ (i : Counter). up_to (times_in top c blank ks i))
counts_are top c mem sg ks l =
    run-counts top c (extent_of mem) (length sg) (λ i. 0) (fresh_world c mem sg) blank ks (fresh-follows c mem sg) l refl
    ∙ counts_same _ _ (λ i. let z : 0 + times_in top c blank ks i ≡ times_in top c blank ks i = omega arith in ap up_to z)
