-- What a call keeps: a usable state stays usable, so that number 3 never arises later; a refusal leaves all but the counts that 01 names; 16 leaves
-- the rows.
-- Assumes nothing.
use Rattle.std.specs.Prelude.{Option, Some, None, Result, Ok, Err}
use Prim.Native.Nat.{ℕ, ◌<◌}
use mathlib.Core.Path.{◌≡◌, refl, sym, ◌∙◌, ap}
use mathlib.Core.Bool.{Bool, false, true}
use mathlib.Core.List.{List}
use native.Mathlib.Omega.{arith}
use borrow.Author.Tests.{ne_eqb, not-false}
use lib.Dec.{eqb}
use lib.ListN.{length}
use Rattle.reconstructor_segments.proofs.Last.{relast-same}
use Rattle.message.specs.declared.L3Message.{L3Message}
use Rattle.message.specs.Values.{event_in_range}
use Rattle.book.specs.Broken.{WellFormed}
use Rattle.book.specs.declared.Resting.{Resting}
use Rattle.book.specs.Line.{Entry}
use Rattle.book.specs.Rows.{line_of}
use Rattle.book.specs.Memory.{Memory, Effect, orders_of, line_in, line_by, orders_by, memory_by}
use Rattle.book_index.specs.declared.Bounds.{Bounds}
use Rattle.book_index.specs.Index.{row_marked, row_bounded, all, Indexed, Foreseen, noted}
use Rattle.reconstructor_answers.specs.declared.Invalidation.{Invalidation}
use Rattle.reconstructor_answers.specs.declared.InvalidationKind.{InvalidationKind}
use Rattle.reconstructor_counts.specs.declared.MessageCounts.{MessageCounts}
use Rattle.reconstructor_segments.specs.declared.Segment.{Segment}
use Rattle.reconstructor_segments.specs.Segments.{last_segment}
use Rattle.reconstructor_state.specs.declared.VenueRules.{VenueRules}
use Rattle.reconstructor_state.specs.declared.Status.{Status}
use Rattle.reconstructor_answers.specs.declared.Applied.{Applied}
use Rattle.reconstructor_answers.specs.declared.ApplyError.{ApplyError}
use Rattle.reconstructor_state.specs.declared.BookReconstructor.{BookReconstructor}
use Rattle.reconstructor_answers.specs.Numbers.{answer_number}
use Rattle.reconstructor_state.specs.State.{with, with_counts, last_of}
use Rattle.reconstructor_checks.specs.StateChecks.{broken, Usable}
use Rattle.reconstructor_plan.specs.Rules.{event_refusal, event_deed, effect}
use Rattle.reconstructor.specs.Refusals.{admit_refusal, turn_refusal}
use Rattle.reconstructor.specs.Applied.{refused_book, refused_reply, invalidated_reply, accepted_reply, accepted, decided, at_turn, after_gate, book_gate, applied_to, applied, Worked}
use Rattle.book.proofs.Memory.{line-by}
use Rattle.book.proofs.Rows.{length-rows}
use Rattle.book.proofs.Stored.{rows-stored, length-stored}
use Rattle.reconstructor_state.proofs.Checks.{passed, first-passed}
use Rattle.reconstructor_checks.proofs.StateChecks.{sound, kept, rows-lent, has-segment}
use Rattle.reconstructor_plan.proofs.Kept.{event-formed}
use Rattle.reconstructor_plan.proofs.Indexed.{noted-marks, event-marked, event-bounded}
use Rattle.reconstructor.proofs.Laws.{admitted-valid, gate-trusted}
use Rattle.reconstructor_answers.specs.declared.ApplyError.TheVariants as refusals

-- ---- a refusal

module _ (top : ℕ) (b : BookReconstructor) (mem : Memory) (sg : List Segment) (m : L3Message) (a : ApplyError) (h : book_gate top b mem (length sg) (last_segment sg b.segments) m ≡ Some a) where
  -- before its turn a message leaves every lent word, and of the state all but the counts
  pub refusal-leaves : ((applied top b mem sg m).answer ≡ Err a) × ((applied top b mem sg m).book ≡ refused_book b (Err a))
      × ((applied top b mem sg m).memory ≡ mem) × ((applied top b mem sg m).segments ≡ sg)
  unfolding applied applied_to after_gate refused_reply
  refusal-leaves = rw h (refl, refl, refl, relast-same sg b.segments)

pub refusal-counts : (b : BookReconstructor) (a : Result Applied ApplyError) → refused_book b a ≡ with_counts b (refused_book b a).counts
refusal-counts b (Ok a) = refl
refusal-counts b (Err (refusals.Unusable e)) = refl
refusal-counts b (Err refusals.AmountOutOfRange) = refl
refusal-counts b (Err refusals.WrongProduct) = refl
refusal-counts b (Err refusals.NotBootstrapped) = refl
refusal-counts b (Err (refusals.Invalidated i)) = refl
refusal-counts b (Err (refusals.AwaitingSnapshot i)) = refl

-- and the counts too, but for 10 and 17
pub uncounted : (b : BookReconstructor) (a : Result Applied ApplyError) → eqb (answer_number a) 10 ≡ false → eqb (answer_number a) 17 ≡ false → refused_book b a ≡ b
uncounted b (Ok a) p q = refl
uncounted b (Err (refusals.Unusable e)) p q = refl
uncounted b (Err refusals.AmountOutOfRange) p q = refl
uncounted b (Err refusals.WrongProduct) p q = let z : ◌≡◌ {A = ℕ} 0 1 = cc in absurd (omega arith)
uncounted b (Err refusals.NotBootstrapped) p q = refl
uncounted b (Err (refusals.Invalidated i)) p q = refl
uncounted b (Err (refusals.AwaitingSnapshot i)) p q = let z : ◌≡◌ {A = ℕ} 0 1 = cc in absurd (omega arith)

-- ---- 16

decided-stale : (b : BookReconstructor) (mem : Memory) (last : ℕ) (m : L3Message) (o : Option InvalidationKind) (i : Invalidation)
    → (decided b mem last m o).answer ≡ Err (refusals.Invalidated i) → (decided b mem last m o).memory ≡ mem
unfolding decided invalidated_reply accepted accepted_reply
decided-stale b mem last m (Some k) i h = refl
decided-stale b mem last m None i h = let z : ◌≡◌ {A = ℕ} 0 1 = cc in absurd (omega arith)

answered-stale : (b : BookReconstructor) (mem : Memory) (g : Segment) (m : L3Message) (o : Option ApplyError) (i : Invalidation)
    → (after_gate b mem g m o).answer ≡ Err (refusals.Invalidated i) → (after_gate b mem g m o).memory ≡ mem
unfolding after_gate refused_reply
answered-stale b mem g m (Some a) i h = refl
answered-stale b mem g m None i h = decided-stale b mem (last_of b.status) m (turn_refusal b.rules (line_in mem b.rows) (last_of b.status) m) i h

-- "the rows stay as stale book"
pub stale-rows : (top : ℕ) (b : BookReconstructor) (mem : Memory) (sg : List Segment) (m : L3Message) (i : Invalidation)
    → (applied top b mem sg m).answer ≡ Err (refusals.Invalidated i) → (applied top b mem sg m).memory ≡ mem
unfolding applied applied_to
stale-rows top b mem sg m i h = answered-stale b mem (last_segment sg b.segments) m (book_gate top b mem (length sg) (last_segment sg b.segments) m) i h

-- ---- a usable state stays usable

counts-sound : (b : BookReconstructor) (mem : Memory) (k : MessageCounts) → broken b mem ≡ false → broken (with_counts b k) mem ≡ false
unfolding broken
counts-sound b mem k h = h

-- a message that is let through has its amounts in range, and the book is valid
let_through : (b : BookReconstructor) (m : L3Message) → admit_refusal b.product_id b.status m ≡ None → event_in_range m.event ≡ true
unfolding admit_refusal
let_through b m h = not-false (event_in_range m.event) (passed _ _ _ h).0

pub turn-event : (v : VenueRules) (l : List Entry) (last : ℕ) (m : L3Message) → turn_refusal v l last m ≡ None → event_refusal v l m.event ≡ None
unfolding turn_refusal
turn-event v l last m h = (first-passed _ _ _ (passed _ _ _ (passed _ _ _ (passed _ _ _ h).1).1).1).0

module _ (top : ℕ) (b : BookReconstructor) (mem : Memory) (lent : ℕ) (u : Usable top b mem lent) where
  -- the same product, rules, number and number of segments, with as much memory lent
  usable_as : (s : Status) (n : ℕ) (k : MessageCounts) (after : Memory) → length after.rows ≡ length mem.rows
      → broken (with b s n k) after ≡ false → Usable top (with b s n k) after lent
  usable_as s n k after e h = record { within = u.within; lent = rw e u.lent; sound = h }

  refused-usable : (a : Result Applied ApplyError) → Usable top (refused_book b a) mem lent
  refused-usable a =
      rw (refusal-counts b a)
      (usable_as b.status b.rows (refused_book b a).counts mem refl (counts-sound b mem (refused_book b a).counts u.sound))

  module _ (m : L3Message) (h : admit_refusal b.product_id b.status m ≡ None) where
    has_one : 0 < b.segments
    has_one = has-segment b (last_of b.status) (admitted-valid b.product_id b.status m h) (sound b mem u.sound).set

    settled-sound : eqb b.segments 0 ≡ false
    settled-sound = ne_eqb b.segments 0 (λ q. omega (arith, has_one, q))

    abbrev Leaves : Option InvalidationKind → Type 0
    Leaves o = Usable top (decided b mem (last_of b.status) m o).book (decided b mem (last_of b.status) m o).memory lent

    stale : (k : InvalidationKind) → Leaves (Some k)
    unfolding decided invalidated_reply
    stale k =
        usable_as _ _ _ mem refl
        (kept (decided b mem (last_of b.status) m (Some k)).book mem (orders_of mem b.rows) refl (length-rows mem.rows 0 b.rows) (sound b mem u.sound).formed
        settled-sound)

    abbrev does : Effect
    does = effect b.rules (line_in mem b.rows) m.sequence m.event

    fresh : WellFormed b.rules.max_orders b.rules.max_levels (orders_by does (orders_of mem b.rows)) → Leaves None
    unfolding decided accepted accepted_reply event_deed
    fresh w =
        let os : List Resting = orders_by does (orders_of mem b.rows) in
        let r = rows-lent b mem lent u.lent in
        let f = (sound b mem u.sound).few in
        let g = w.few in
        usable_as _ _ _ (memory_by mem b.rows does) (length-stored mem.rows b.rows os (omega arith) (omega arith))
        (kept (decided b mem (last_of b.status) m None).book (memory_by mem b.rows does) os (rows-stored mem.rows b.rows os) refl w settled-sound)

    through : (o : Option InvalidationKind) → turn_refusal b.rules (line_in mem b.rows) (last_of b.status) m ≡ o → Leaves o
    through (Some k) q = stale k
    through None q =
        fresh
        (event-formed b.rules mem.rows b.rows m.sequence (sound b mem u.sound).formed m.event (let_through b m h)
        (turn-event b.rules (line_in mem b.rows) (last_of b.status) m q))

  answered-usable : (g : Segment) (m : L3Message) (o : Option ApplyError) → admit_refusal b.product_id b.status m ≡ o
      → Usable top (after_gate b mem g m o).book (after_gate b mem g m o).memory lent
  unfolding after_gate refused_reply
  answered-usable g m (Some a) h = refused-usable (Err a)
  answered-usable g m None h = through m h (turn_refusal b.rules (line_in mem b.rows) (last_of b.status) m) refl

  -- a state that passes 1, 2 and 3 passes them after any message, lent the same words: 3 never arises later
  pub usable-kept : (g : Segment) (m : L3Message) → Usable top (applied_to top b mem lent g m).book (applied_to top b mem lent g m).memory lent
  unfolding applied_to
  usable-kept g m = answered-usable g m (book_gate top b mem lent g m) (sym (gate-trusted top b mem lent g m u))

-- ---- an index stays one

-- the orders that a call leaves, as many as its state says
abbrev orders_left : Worked → List Resting
orders_left w = orders_of w.memory w.book.rows

module _ (f : Resting → Bool) (b : BookReconstructor) (mem : Memory) (m : L3Message) (h : all f (orders_of mem b.rows) ≡ true)
    (q : all f (orders_by (effect b.rules (line_in mem b.rows) m.sequence m.event) (orders_of mem b.rows)) ≡ true) where
  decided_all : (last : ℕ) (o : Option InvalidationKind) → all f (orders_of (decided b mem last m o).memory (decided b mem last m o).book.rows) ≡ true
  unfolding decided invalidated_reply accepted accepted_reply event_deed
  decided_all last (Some k) = h
  decided_all last None = ap (all f) (rows-stored mem.rows b.rows (orders_by (effect b.rules (line_in mem b.rows) m.sequence m.event) (orders_of mem b.rows))) ∙ q

  answered_all : (g : Segment) (o : Option ApplyError) → all f (orders_left (after_gate b mem g m o)) ≡ true
  unfolding after_gate refused_reply
  answered_all g (Some a) = rw (refusal-counts b (Err a)) h
  answered_all g None = decided_all (last_of b.status) (turn_refusal b.rules (line_in mem b.rows) (last_of b.status) m)

  applied_all : (top lent : ℕ) (g : Segment) → all f (orders_left (applied_to top b mem lent g m)) ≡ true
  unfolding applied_to
  applied_all top lent g = answered_all g (book_gate top b mem lent g m)

-- one that foresaw the message, once that is noted, is an index of the orders that the message leaves
pub indexed-kept : (top : ℕ) (b : BookReconstructor) (mem : Memory) (lent : ℕ) (g : Segment) (m : L3Message) (places : List ℕ) (bounds : Option Bounds) (n : ℕ) → Usable top b mem lent
    → Indexed places bounds (orders_of mem b.rows) → Foreseen bounds m.event → length (noted places n m.event) ≡ length places
    → Indexed (noted places n m.event) bounds (orders_left (applied_to top b mem lent g m))
indexed-kept top b mem lent g m places bounds n u i w l =
    let os : List Resting = orders_of mem b.rows in
    record {
      few = rw l i.few;
      marks = applied_all (row_marked (noted places n m.event)) b mem m (noted-marks places n m.event os i.marks) (event-marked places n b.rules os m.sequence m.event i.marks) top lent g;
      within = applied_all (row_bounded bounds) b mem m i.within (event-bounded bounds b.rules os m.sequence m.event w i.within) top lent g;
      single = (sound (applied_to top b mem lent g m).book (applied_to top b mem lent g m).memory (usable-kept top b mem lent u g m).sound).formed.single;
    }

-- ---- the line after an accepted message is its effect on the line before

pub accepted-line : (b : BookReconstructor) (mem : Memory) (last : ℕ) (m : L3Message) → turn_refusal b.rules (line_in mem b.rows) last m ≡ None
    → line_in (at_turn b mem last m).memory (at_turn b mem last m).book.rows
    ≡ line_by (effect b.rules (line_in mem b.rows) m.sequence m.event) (line_in mem b.rows)
unfolding decided accepted accepted_reply event_deed
accepted-line b mem last m h =
    let f : Effect = effect b.rules (line_in mem b.rows) m.sequence m.event in
    rw h (ap line_of (rows-stored mem.rows b.rows (orders_by f (orders_of mem b.rows))) ∙ line-by f (orders_of mem b.rows))
