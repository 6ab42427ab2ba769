-- The work put together: what each way through the code comes to.
-- Assumes nothing.
use Rattle.std.specs.Prelude.{Option, Some, None, Ok, Err}
use Prim.Native.Nat.{ℕ, ◌+◌, ◌≤◌, ◌<◌}
use mathlib.Core.Path.{◌≡◌, refl, ap, ◌∙◌}
use mathlib.Core.List.{List}
use native.Mathlib.Omega.{arith}
use borrow.Author.Tests.{ltb-false, eq-eqb, ne_eqb}
use lib.ListN.{length}
use Rattle.message.specs.declared.ProductId.{ProductId}
use Rattle.message.specs.declared.L3Snapshot.{L3Snapshot}
use Rattle.piece.specs.declared.PieceError.{PieceError}
use Rattle.piece.specs.Piece.{read_snapshot}
use Rattle.book.specs.Line.{Entry}
use Rattle.book.specs.Rows.{most_rows, rows_of, line_of, stored}
use Rattle.book.specs.Memory.{Memory}
use Rattle.reconstructor_state.specs.declared.VenueRules.{VenueRules}
use Rattle.reconstructor_answers.specs.declared.StateError.{StateError}
use Rattle.reconstructor_state.specs.declared.BookReconstructor.{BookReconstructor}
use Rattle.reconstructor_segments.specs.declared.Segment.{Segment}
use Rattle.reconstructor_state.specs.State.{view_with, lengths_with}
use Rattle.reconstructor_checks.specs.StateChecks.{Usable, book_refusal}
use Rattle.reconstructor_bootstrap.specs.declared.SnapshotError.{SnapshotError}
use Rattle.reconstructor_bootstrap.specs.declared.BootstrapError.{BootstrapError}
use Rattle.reconstructor_bootstrap.specs.declared.BootstrapError.TheVariants.{Unusable, ListFull, Rejected}
use Rattle.reconstructor_bootstrap.specs.Snapshot.{snapshot_line, snapshot_refusal, piece_error, accept_refusal, piece_refusal, boot_refusal}
use Rattle.reconstructor_bootstrap.specs.Bootstrap.{Booted, booted, refused_work, accepted, unless_refused, bootstrapped_to}
use Rattle.reconstructor_bootstrap.specs.Places.{entries_from, rows_at, Room, usable_to}
use Rattle.book.proofs.Kept.{line-snapshot}
use Rattle.book.proofs.Stored.{rows-stored}
use Rattle.reconstructor_state.proofs.Checks.{fails, goes_on, passed, first-fails, first_on}
use Rattle.reconstructor_checks.proofs.StateChecks.{orders-within, rows-lent, segments-lent, trusted, rows-ready}
use Rattle.reconstructor_bootstrap.proofs.Places.{rows_at-length, entries-length, line-places}

-- ---- staged rows

-- the line of the rows that the orders are written as
pub line-staged : (ws bytes : List ℕ) (former bids n t : ℕ) → line_of (rows_of (stored ws former (rows_at bids bytes n t)) n) ≡ entries_from bids bytes 0 n
line-staged ws bytes former bids n t =
    let r = rw (rows_at-length bids bytes t n) at (rows-stored ws former (rows_at bids bytes n t)) in
    ap line_of r ∙ line-snapshot t (entries_from bids bytes 0 n)

pub length-snapshot : (s : L3Snapshot) (bytes : List ℕ) → length (snapshot_line s bytes) ≡ s.bids + s.asks
length-snapshot s bytes = ap length (line-places s bytes) ∙ entries-length s.bids bytes 0 (s.bids + s.asks)

-- ---- what the work leaves

pub booted_path : {a b : Booted} → a.answer ≡ b.answer → a.book ≡ b.book → a.memory ≡ b.memory → a.segment ≡ b.segment → a.at ≡ b.at → a.started ≡ b.started → a ≡ b
booted_path p q r s t u = λ k. record { answer = p k; book = q k; memory = r k; segment = s k; at = t k; started = u k }

module _ {o : Option BootstrapError} (b : BookReconstructor) (mem : Memory) (lent : ℕ) (g : Segment) (p : Booted) where
  settled-some : {a : BootstrapError} → o ≡ Some a → booted (refused_work (Err a) b lent g) mem ≡ unless_refused o b mem lent g p
  settled-some e = rw e

  settled-none : o ≡ None → p ≡ unless_refused o b mem lent g p
  settled-none e = rw e

-- ---- 6, 10 to 14

pub few-orders : (product : ProductId) (v : VenueRules) (s : L3Snapshot) (line : List Entry) → snapshot_refusal product v s line ≡ None → s.bids + s.asks ≤ v.max_orders
unfolding snapshot_refusal
few-orders product v s line h = ltb-false v.max_orders (s.bids + s.asks) (passed _ _ _ (passed _ _ _ h).1).0

module _ (b : BookReconstructor) (mem : Memory) (lent : ℕ) (g : Segment) (bytes : List ℕ) (s : L3Snapshot) where
  pub list_full : lent ≡ b.segments → booted (refused_work (Err ListFull) b lent g) mem ≡ usable_to b mem lent g bytes s
  unfolding accept_refusal
  list_full h = settled-some b mem lent g _ (fails _ _ _ (eq-eqb lent b.segments h))

  module _ (h : lent ≡ b.segments → ⊥) where
    pub snapshot-refused : (e : SnapshotError) → snapshot_refusal b.product_id b.rules s (snapshot_line s bytes) ≡ Some e → booted (refused_work (Err (Rejected e)) b lent g) mem ≡ usable_to b mem lent g bytes s
    unfolding accept_refusal
    snapshot-refused e q = settled-some b mem lent g _ (goes_on _ _ _ _ (ne_eqb lent b.segments h) (first-fails _ _ _ e q))

    pub snapshot-fits : snapshot_refusal b.product_id b.rules s (snapshot_line s bytes) ≡ None → accepted b mem g s.sequence (snapshot_line s bytes) ≡ usable_to b mem lent g bytes s
    unfolding accept_refusal
    snapshot-fits q = settled-none b mem lent g _ (goes_on _ _ _ _ (ne_eqb lent b.segments h) (first_on _ _ _ _ q refl))

-- ---- a usable state has room

module _ (b : BookReconstructor) (mem : Memory) (lent : ℕ) (u : Usable most_rows b mem lent) where
  pub room_for : (n : ℕ) → n ≤ b.rules.max_orders → Room mem.rows b.rows n
  room_for n h =
      let l = rows-ready most_rows b mem (omega arith) (trusted most_rows b mem lent u) in
      let m = orders-within most_rows b.rules u.within in
      let r = rows-lent b mem lent u.lent in
      record { before = l.room; room = omega arith; few_before = l.few; few = omega arith }

  pub segment-room : (lent ≡ b.segments → ⊥) → b.segments < lent
  segment-room h = omega (arith, h, segments-lent b mem lent u.lent)

-- ---- the whole

module _ (top : ℕ) (b : BookReconstructor) (mem : Memory) (lent : ℕ) (g : Segment) (bytes : List ℕ) where
  pub unusable : (e : StateError) → book_refusal top b mem lent ≡ Some e → booted (refused_work (Err (Unusable e)) b lent g) mem ≡ bootstrapped_to top b mem lent g bytes
  unfolding bootstrapped_to boot_refusal
  unusable e h = settled-some b mem lent g _ (first-fails _ _ _ e h)

  module _ (h : book_refusal top b mem lent ≡ None) where
    pub not-read : (e : PieceError) → read_snapshot bytes ≡ Err e → booted (refused_work (Err (piece_error e)) b lent g) mem ≡ bootstrapped_to top b mem lent g bytes
    unfolding bootstrapped_to boot_refusal
    not-read e q = settled-some b mem lent g _ (first_on _ _ _ _ h (ap (λ r. piece_refusal b.product_id b.rules (lengths_with mem lent) (view_with b mem g) r bytes) q))

    pub read : (s : L3Snapshot) → read_snapshot bytes ≡ Ok s → usable_to b mem lent g bytes s ≡ bootstrapped_to top b mem lent g bytes
    unfolding bootstrapped_to boot_refusal
    read s q = rw (q, first_on _ Unusable _ _ h refl)
