-- The world follows the ledger's view: after each call the state with its memory stands for it. Number 3 never arises.
-- Assumes nothing.
use Rattle.std.specs.Prelude.{Option, Some, None}
use Prim.Native.Nat.{ℕ, ◌+◌, ◌≤◌}
use native.Mathlib.Omega.{arith}
use mathlib.Core.Bool.{Bool, true, false, ◌||◌}
use mathlib.Core.Path.{◌≡◌, refl, sym, ap, ap₂, subst, ◌∙◌}
use mathlib.Core.List.{List, [], ◌∷◌, ◌++◌}
use borrow.Author.Tests.{ltb-false, le-ltb}
use lib.Dec.{ltb}
use lib.ListN.{length, take, drop, length-append, take-append-drop}
use lib.Seq.{length-take-le}
use Rattle.laws.proofs.Bools.{or_no, or_both}
use Rattle.message.specs.declared.L3Message.{L3Message}
use Rattle.piece.specs.Piece.{read_snapshot}
use Rattle.book.specs.Line.{Entry}
use Rattle.book.specs.Rows.{rows_from, rows_of, line_of}
use Rattle.book.specs.Memory.{Memory, Extent, extent_of, orders_of, behind}
use Rattle.book.proofs.Kept.{empty-formed, not-broken}
use Rattle.reconstructor_answers.specs.declared.StateError.{StateError}
use Rattle.reconstructor_answers.specs.declared.StateError.TheVariants.{LimitAboveCeiling, LentTooShort, MalformedBook}
use Rattle.reconstructor_answers.specs.declared.ApplyError.TheVariants as refusals
use Rattle.reconstructor_segments.specs.declared.Segment.{Segment}
use Rattle.reconstructor_segments.specs.Segments.{last_segment}
use Rattle.reconstructor_segments.proofs.Last.{last-front}
use Rattle.reconstructor_state.specs.declared.VenueRules.{VenueRules}
use Rattle.reconstructor_state.specs.declared.BookReconstructor.{BookReconstructor}
use Rattle.reconstructor_state.specs.State.{View, Lengths, new_book}
use Rattle.reconstructor_state.proofs.Checks.{fails, goes_on, first-fails}
use Rattle.reconstructor_checks.specs.StateChecks.{Usable, broken, over_ceiling, memory_short, too_short, state_refusal, book_refusal}
use Rattle.reconstructor_checks.proofs.StateChecks.{sound, memory-room, usable-none}
use Rattle.reconstructor.specs.Refusals.{gate_refusal}
use Rattle.reconstructor.specs.Applied.{applied}
use Rattle.reconstructor.proofs.Laws.{gate-stops}
use Rattle.reconstructor.proofs.Kept.{refusal-leaves}
use Rattle.reconstructor_bootstrap.specs.Snapshot.{boot_refusal}
use Rattle.reconstructor_bootstrap.specs.declared.BootstrapError.TheVariants as snapshots
use Rattle.reconstructor_bootstrap.specs.Bootstrap.{bootstrapped}
use Rattle.reconstructor_bootstrap.proofs.Laws.{refusal_of, refused_is}
use Rattle.reconstructor_handshake.specs.declared.Handshake.{Handshake}
use Rattle.reconstructor_handshake.specs.Step.{step_refusal, stepped}
use Rattle.reconstructor_handshake.proofs.Step.{unusable-step}
use Rattle.ledger.specs.Ledger.{Config, Call, bootstrap, apply, step, read, blank, refused, outcome_of, apply_outcome, step_outcome_of, step_outcome, boot_outcome, view_by, view_boot, feed_view}
use Rattle.ledger.specs.World.{World, lent_memory, lent_segments, back, perform, run, Fits, Lendable, fresh_world, line_at}
use Rattle.ledger.proofs.Stands.{lengths_of, seen, Starts, Stands, rows-front, apply-stands, step-stands, boot-stands}
use Rattle.ledger.proofs.Left.{Left, apply-left, step_left, boot-left}

-- the views of all calls, one after the other
abbrev pub view_all : (top : ℕ) → Config → View → List Call → View
view_all top c v [] = v
view_all top c v (k ∷ ks) = view_all top c (feed_view top c v k) ks

pub record Follows (c : Config) (r : Extent) (s : ℕ) (w : World) (v : View) : Type 0 where
  pub stands : Stands c w.book w.memory w.segments v
  pub wide : extent_of w.memory ≡ r
  pub long : length w.segments ≡ s

some_same : (a b : StateError) → ◌≡◌ {A = Option StateError} (Some a) (Some b) → a ≡ b
some_same a b h = cc

some-none : (a : StateError) → ◌≡◌ {A = Option StateError} (Some a) None → ⊥
some-none a h = let z : ◌≡◌ {A = ℕ} 0 1 = cc in omega (arith, z)

-- ---- number 1 or 2 is said of the rules, the lengths and the number of segments alone

pub early : (top : ℕ) (v : VenueRules) (n : Lengths) (three : Bool) (k : ℕ) → (over_ceiling top v || too_short v n k) ≡ true
    → (e : StateError) × (state_refusal top v n three k ≡ Some e) × (e ≡ MalformedBook → ⊥)
unfolding state_refusal
early top v n three k h = go (over_ceiling top v) refl h
  where
    go : (b : Bool) → over_ceiling top v ≡ b → (b || too_short v n k) ≡ true → (e : StateError) × (state_refusal top v n three k ≡ Some e) × (e ≡ MalformedBook → ⊥)
    go true p q = (LimitAboveCeiling, fails _ _ _ p, λ x. let z : ◌≡◌ {A = ℕ} 0 1 = cc in omega (arith, z))
    go false p q = (LentTooShort, goes_on _ _ _ _ p (fails _ _ _ q), λ x. let z : ◌≡◌ {A = ℕ} 0 1 = cc in omega (arith, z))

pub early-apply : (top : ℕ) (c : Config) (n : Lengths) (w : View) (m : L3Message) → (over_ceiling top c.rules || too_short c.rules n w.segments) ≡ true → apply_outcome top c n false w m ≡ refused
unfolding apply_outcome gate_refusal outcome_of
early-apply top c n w m h = let e = early top c.rules n false w.segments h in rw (first-fails _ _ _ _ e.1)

pub early-step : (top : ℕ) (c : Config) (n : Lengths) (w : View) (h : Handshake) (m : L3Message) → (over_ceiling top c.rules || too_short c.rules n w.segments) ≡ true → step_outcome top c n false w h m ≡ refused
unfolding step_outcome step_refusal step_outcome_of
early-step top c n w h m q = let e = early top c.rules n false w.segments q in rw (first-fails _ _ _ _ e.1)

pub early_boot : (top : ℕ) (c : Config) (n : Lengths) (w : View) (bytes : List ℕ) → (over_ceiling top c.rules || too_short c.rules n w.segments) ≡ true
    → view_boot (boot_outcome top c n w bytes) (read_snapshot bytes) bytes w ≡ w
unfolding boot_refusal
early_boot top c n w bytes h = let e = early top c.rules n false w.segments h in rw (first-fails _ _ _ _ e.1)

pub early-refusal : (top : ℕ) (b : BookReconstructor) (mem : Memory) (sg : List Segment) (bytes : List ℕ) (e : StateError) → book_refusal top b mem (length sg) ≡ Some e → refusal_of top b mem sg bytes ≡ Some (snapshots.Unusable e)
unfolding boot_refusal
early-refusal top b mem sg bytes e h = first-fails _ _ _ _ h

-- ---- a call and the memory beyond what it is lent

back-length : {A : Type 0} (k : ℕ) (l a : List A) → length a ≡ length (take k l) → length (a ++ drop k l) ≡ length l
back-length k l a h =
    length-append a (drop k l) ∙ ap (λ (x : ℕ). x + length (drop k l)) h ∙ sym (length-append (take k l) (drop k l)) ∙ ap length (take-append-drop k l)

pub broken-rows : (b : BookReconstructor) (mem mem' : Memory) → orders_of mem b.rows ≡ orders_of mem' b.rows → broken b mem ≡ broken b mem'
unfolding broken
broken-rows b mem mem' e = rw e

module _ (top : ℕ) (c : Config) (r : Extent) (s : ℕ) (w : World) (v : View) (f : Follows c r s w v) (n : Lengths) (fits : Fits r s n) where
  abbrev mem : Memory
  mem = lent_memory n w

  abbrev sg : List Segment
  sg = lent_segments n w

  lent-memory : extent_of mem ≡ n.memory
  lent-memory =
      let e : length w.memory.rows ≡ r.rows = ap (λ (x : Extent). x.rows) f.wide in
      ap (λ (k : ℕ). record { rows = k }) (length-take-le n.memory.rows w.memory.rows (omega (arith, fits.0, e)))

  lent-segments : length sg ≡ n.segments
  lent-segments = length-take-le n.segments w.segments (omega (arith, fits.1, f.long))

  pub lengths_are : lengths_of mem sg ≡ n
  lengths_are = ap₂ (λ (x : Extent) (y : ℕ). record { memory = x; segments = y }) lent-memory lent-segments

  -- what a call left, with the memory beyond
  kept_whole : (b : BookReconstructor) (after : Memory) (tg : List Segment) (x : View) → Stands c b after tg x → Left mem sg b after tg → Follows c r s (back n w b after tg) x
  kept_whole b after tg x t l =
      let e : orders_of (behind n.memory w.memory after) b.rows ≡ orders_of after b.rows = rows-front after.rows (drop n.memory.rows w.memory.rows) b.rows l.room in
      record {
        stands =
            record {
              config = t.config;
              view = ap (λ (y : List Entry). record { status = b.status; start_seq = x.start_seq; segments = b.segments; line = y }) (ap line_of e) ∙ t.view;
              start = λ z. ap (λ (g : Segment). g.start_seq) (last-front tg (drop n.segments w.segments) b.segments l.listed) ∙ t.start z;
              sound = broken-rows b (behind n.memory w.memory after) after e ∙ t.sound;
            };
        wide = ap (λ (k : ℕ). record { rows = k }) (back-length n.memory.rows w.memory.rows after.rows l.rows) ∙ f.wide;
        long = back-length n.segments w.segments tg l.segments ∙ f.long;
      }

  -- nothing moved
  same_whole : Follows c r s (back n w w.book mem sg) v
  same_whole = rw (take-append-drop n.memory.rows w.memory.rows, take-append-drop n.segments w.segments) f

  module _ (h : (over_ceiling top c.rules || too_short c.rules n v.segments) ≡ false) where
    same_rows : orders_of w.memory w.book.rows ≡ orders_of mem w.book.rows
    same_rows =
        let k = or_no (over_ceiling top c.rules) (too_short c.rules n v.segments) h in
        let d = or_no (memory_short c.rules n.memory) (ltb n.segments v.segments) k.1 in
        let m : w.book.rows ≤ w.book.rules.max_orders = (sound w.book w.memory f.stands.sound).few in
        let e : w.book.rules.max_orders ≡ c.rules.max_orders = ap (λ (x : Config). x.rules.max_orders) f.stands.config in
        let l = memory-room c.rules mem (ap (memory_short c.rules) lent-memory ∙ d.0) in
        let z : rows_of (mem.rows ++ drop n.memory.rows w.memory.rows) w.book.rows ≡ rows_of mem.rows w.book.rows =
        rows-front mem.rows (drop n.memory.rows w.memory.rows) w.book.rows (omega (arith, m, e, l)) in
        ap (λ (x : List ℕ). rows_of x w.book.rows) (sym (take-append-drop n.memory.rows w.memory.rows)) ∙ z

    pub same_view : seen v.start_seq w.book mem ≡ v
    same_view =
        ap (λ (y : List Entry). record { status = w.book.status; start_seq = v.start_seq; segments = w.book.segments; line = y }) (ap line_of (sym same_rows)) ∙ f.stands.view

    few-segments : w.book.segments ≤ n.segments
    few-segments =
        let k = or_no (over_ceiling top c.rules) (too_short c.rules n v.segments) h in
        let d = or_no (memory_short c.rules n.memory) (ltb n.segments v.segments) k.1 in
        let e : w.book.segments ≡ v.segments = ap (λ (x : View). x.segments) f.stands.view in
        omega (arith, e, ltb-false n.segments v.segments d.1)

    pub usable_now : Usable top w.book mem (length sg)
    usable_now =
        let k = or_no (over_ceiling top c.rules) (too_short c.rules n v.segments) h in
        let e : w.book.rules ≡ c.rules = ap (λ (x : Config). x.rules) f.stands.config in
        let g : w.book.segments ≡ v.segments = ap (λ (x : View). x.segments) f.stands.view in
        record {
          within = ap (over_ceiling top) e ∙ k.0;
          lent = ap₂ ◌||◌ (ap₂ memory_short e lent-memory) (ap₂ ltb lent-segments g) ∙ k.1;
          sound = broken-rows w.book mem w.memory (sym same_rows) ∙ f.stands.sound;
        }

    pub starts_now : Starts v.start_seq w.book sg
    starts_now z =
        ap (λ (g : Segment). g.start_seq) (sym (last-front sg (drop n.segments w.segments) w.book.segments (omega (arith, few-segments, lent-segments))))
        ∙ ap (λ (x : List Segment). (last_segment x w.book.segments).start_seq) (take-append-drop n.segments w.segments)
        ∙ f.stands.start z

  -- lent too little: 1 or 2, and nothing moves
  pub early_own : (over_ceiling top c.rules || too_short c.rules n v.segments) ≡ true
      → (e : StateError) × (book_refusal top w.book mem (length sg) ≡ Some e) × (e ≡ MalformedBook → ⊥)
  early_own h =
      let e : w.book.rules ≡ c.rules = ap (λ (x : Config). x.rules) f.stands.config in
      let g : w.book.segments ≡ v.segments = ap (λ (x : View). x.segments) f.stands.view in
      early top w.book.rules (lengths_of mem sg) (broken w.book mem) w.book.segments
      (ap₂ ◌||◌ (ap (over_ceiling top) e) (ap₂ ◌||◌ (ap₂ memory_short e lent-memory) (ap₂ ltb lent-segments g)) ∙ h)

  pub early-applied : (over_ceiling top c.rules || too_short c.rules n v.segments) ≡ true → (m : L3Message)
      → ((applied top w.book mem sg m).book ≡ w.book) × ((applied top w.book mem sg m).memory ≡ mem) × ((applied top w.book mem sg m).segments ≡ sg)
  early-applied h m =
      let e = early_own h in
      let l = refusal-leaves top w.book mem sg m (refusals.Unusable e.0) (gate-stops top w.book mem (length sg) (last_segment sg w.book.segments) m e.0 e.1) in
      (l.1, l.2, l.3)

  -- "3 never arises here"
  pub never-three : book_refusal top w.book mem (length sg) ≡ Some MalformedBook → ⊥
  never-three x = go (over_ceiling top c.rules || too_short c.rules n v.segments) refl
    where
      go : (b : Bool) → (over_ceiling top c.rules || too_short c.rules n v.segments) ≡ b → ⊥
      go true h = let e = early_own h in e.2 (some_same e.0 MalformedBook (sym e.1 ∙ x))
      go false h = some-none MalformedBook (sym x ∙ usable-none top w.book mem (length sg) (usable_now h))

  pub apply-follows : (m : L3Message) → Follows c r s (perform top w (apply n m)) (feed_view top c v (apply n m))
  unfolding perform feed_view
  apply-follows m = go (over_ceiling top c.rules || too_short c.rules n v.segments) refl
    where
      go : (b : Bool) → (over_ceiling top c.rules || too_short c.rules n v.segments) ≡ b
          → Follows c r s (back n w (applied top w.book mem sg m).book (applied top w.book mem sg m).memory (applied top w.book mem sg m).segments) (view_by c.rules m (apply_outcome top c n false v m) v)
      go true h = rw (early-apply top c n v m h, (early-applied h m).0, (early-applied h m).1, (early-applied h m).2) same_whole
      go false h =
          let t₁ =
          subst
          (λ (x : Config).
          Stands x (applied top w.book mem sg m).book (applied top w.book mem sg m).memory (applied top w.book mem sg m).segments
          (view_by x.rules m (apply_outcome top x (lengths_of mem sg) false (seen v.start_seq w.book mem) m) (seen v.start_seq w.book mem)))
          f.stands.config
          (apply-stands top w.book mem sg v.start_seq (usable_now h) (starts_now h) m) in
          let t = rw (lengths_are, same_view h) at t₁ in
          kept_whole _ _ _ _ t (apply-left top w.book mem sg (usable_now h) m)

  pub step_follows : (h : Handshake) (m : L3Message) → Follows c r s (perform top w (step n h m)) (feed_view top c v (step n h m))
  unfolding perform feed_view
  step_follows h m = go (over_ceiling top c.rules || too_short c.rules n v.segments) refl
    where
      go : (b : Bool) → (over_ceiling top c.rules || too_short c.rules n v.segments) ≡ b
          → Follows c r s (back n w (stepped top h w.book mem sg m).book (stepped top h w.book mem sg m).memory (stepped top h w.book mem sg m).segments) (view_by c.rules m (step_outcome top c n false v h m) v)
      go true q =
          let e = early_own q in
          rw (early-step top c n v h m q, unusable-step top h w.book mem sg m e.0 e.1) same_whole
      go false q =
          let t₁ =
          subst
          (λ (x : Config).
          Stands x (stepped top h w.book mem sg m).book (stepped top h w.book mem sg m).memory (stepped top h w.book mem sg m).segments
          (view_by x.rules m (step_outcome top x (lengths_of mem sg) false (seen v.start_seq w.book mem) h m) (seen v.start_seq w.book mem)))
          f.stands.config
          (step-stands top w.book mem sg v.start_seq (usable_now q) (starts_now q) h m) in
          let t = rw (lengths_are, same_view q) at t₁ in
          kept_whole _ _ _ _ t (step_left top w.book mem sg (usable_now q) m h)

  pub boot-follows : (bytes : List ℕ) → Follows c r s (perform top w (bootstrap n bytes)) (feed_view top c v (bootstrap n bytes))
  unfolding perform feed_view
  boot-follows bytes = go (over_ceiling top c.rules || too_short c.rules n v.segments) refl
    where
      go : (b : Bool) → (over_ceiling top c.rules || too_short c.rules n v.segments) ≡ b
          → Follows c r s
          (back n w (bootstrapped top w.book mem sg bytes).book (bootstrapped top w.book mem sg bytes).memory (bootstrapped top w.book mem sg bytes).segments)
          (view_boot (boot_outcome top c n v bytes) (read_snapshot bytes) bytes v)
      go true q =
          let e = early_own q in
          rw (early_boot top c n v bytes q, refused_is top w.book mem sg bytes (snapshots.Unusable e.0) (early-refusal top w.book mem sg bytes e.0 e.1)) same_whole
      go false q =
          let t₁ =
          subst
          (λ (x : Config).
          Stands x (bootstrapped top w.book mem sg bytes).book (bootstrapped top w.book mem sg bytes).memory (bootstrapped top w.book mem sg bytes).segments
          (view_boot (boot_outcome top x (lengths_of mem sg) (seen v.start_seq w.book mem) bytes) (read_snapshot bytes) bytes (seen v.start_seq w.book mem)))
          f.stands.config
          (boot-stands top w.book mem sg v.start_seq (usable_now q) (starts_now q) bytes) in
          let t = rw (lengths_are, same_view q) at t₁ in
          kept_whole _ _ _ _ t (boot-left top w.book mem sg (usable_now q) bytes)

-- ---- any list of calls

module _ (top : ℕ) (c : Config) (r : Extent) (s : ℕ) where
  pub follow_all : (w : World) (v : View) (ks : List Call) → Follows c r s w v → Lendable r s ks → Follows c r s (run top w ks) (view_all top c v ks)
  unfolding perform feed_view
  follow_all w v [] f l = f
  follow_all w v (bootstrap n bytes ∷ ks) f l = follow_all (perform top w (bootstrap n bytes)) (feed_view top c v (bootstrap n bytes)) ks (boot-follows top c r s w v f n l.0 bytes) l.1
  follow_all w v (apply n m ∷ ks) f l = follow_all (perform top w (apply n m)) (feed_view top c v (apply n m)) ks (apply-follows top c r s w v f n l.0 m) l.1
  follow_all w v (step n h m ∷ ks) f l = follow_all (perform top w (step n h m)) (feed_view top c v (step n h m)) ks (step_follows top c r s w v f n l.0 h m) l.1
  follow_all w v (read q ∷ ks) f l = follow_all w v ks f l

pub fresh-follows : (c : Config) (mem : Memory) (sg : List Segment) → Follows c (extent_of mem) (length sg) (fresh_world c mem sg) blank
unfolding rows_from broken
fresh-follows c mem sg =
    record {
      stands = record { config = refl; view = refl; start = λ z. absurd (omega (arith, z)); sound = whole };
      wide = refl;
      long = refl;
    }
  where
    whole : broken (new_book c.product c.rules c.number) mem ≡ false
    whole =
        or_both _ _ (le-ltb c.rules.max_orders 0 (omega arith))
        (or_both _ _ (not-broken c.rules.max_orders c.rules.max_levels [] (empty-formed c.rules.max_orders c.rules.max_levels)) refl)

pub line_is : (top : ℕ) (c : Config) (mem : Memory) (sg : List Segment) (ks : List Call) → Lendable (extent_of mem) (length sg) ks → line_at (run top (fresh_world c mem sg) ks) ≡ (view_all top c blank ks).line
line_is top c mem sg ks l = ap (λ (x : View). x.line) (follow_all top c (extent_of mem) (length sg) (fresh_world c mem sg) blank ks (fresh-follows c mem sg) l).stands.view
