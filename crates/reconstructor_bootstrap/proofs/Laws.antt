-- What a host may rely on: an accepted snapshot leaves a usable, well-formed book; a refused one leaves the book as it was.
-- Assumes nothing.
use Rattle.std.specs.Prelude.{Option, Some, None, Result, Ok, Err, ⊤}
use Prim.Native.Nat.{ℕ, zero, suc, ◌+◌, ◌*◌, ◌<◌}
use mathlib.Core.Path.{◌≡◌, refl, sym, ap, ◌∙◌}
use mathlib.Core.Bool.{Bool, true, false, cond, ◌&&◌}
use mathlib.Core.List.{List, [], map}
use native.Mathlib.Omega.{arith}
use borrow.Author.Tests.{eqb-false, ne_eqb, le-ltb}
use lib.Dec.{eqb}
use lib.ListN.{length, set, length-map, length-set}
use lib.Seq.{set_out}
use Rattle.message.specs.declared.L3Snapshot.{L3Snapshot}
use Rattle.message.specs.Amounts.{nat_of}
use Rattle.message.specs.Values.{amount_limit, in_range, order_in_range, orders_in_range}
use Rattle.piece.specs.Piece.{bids_at, asks_at, snapshot_shaped, product_id_at, word_at, order_at, orders_from, snapshot_of, read_snapshot}
use Rattle.book.specs.declared.Resting.{Resting}
use Rattle.book.specs.Line.{Entry}
use Rattle.book.specs.Rows.{row_words, rows_of, stored, snapshot_row}
use Rattle.book.specs.Memory.{Memory, memory}
use Rattle.reconstructor_state.specs.declared.BookReconstructor.{BookReconstructor}
use Rattle.reconstructor_segments.specs.declared.Segment.{Segment}
use Rattle.reconstructor_segments.specs.Segments.{no_segment, last_segment, relast, started}
use Rattle.reconstructor_segments.proofs.Last.{length-relast, relast-same}
use Rattle.reconstructor_state.specs.State.{view_with, lengths_with, with_counts}
use Rattle.reconstructor_checks.specs.StateChecks.{broken, book_refusal, Usable}
use Rattle.reconstructor_bootstrap.specs.declared.BootstrapError.{BootstrapError}
use Rattle.reconstructor_bootstrap.specs.declared.BootstrapError.TheVariants.{Unusable, NotAPiece, AmountOutOfRange, ListFull, Rejected}
use Rattle.reconstructor_bootstrap.specs.Snapshot.{snapshot_line, not_positive, line_refusal, snapshot_refusal, accept_refusal, piece_refusal, boot_refusal}
use Rattle.reconstructor_bootstrap.specs.Bootstrap.{Parts, refused_book, booted_book, closed, accepted, unless_refused, taken, put_back, bootstrapped_to, bootstrapped}
use Rattle.reconstructor_bootstrap.specs.Places.{entry_at, entries_from}
use Rattle.laws.proofs.Bools.{or_no, or_both, and_yes}
use Rattle.book.proofs.Fits.{some_out_of_range, SnapshotFits}
use Rattle.book.proofs.Kept.{snapshot-kept}
use Rattle.book.proofs.Stored.{rows-stored, length-stored}
use Rattle.message.proofs.Amounts.{in_range_most}
use Rattle.reconstructor_state.proofs.Checks.{passed, first-passed}
use Rattle.reconstructor_checks.proofs.StateChecks.{usable, sound, rows-lent, segments-lent, kept}
use Rattle.reconstructor_bootstrap.proofs.Places.{line-places}
use Rattle.reconstructor_bootstrap.proofs.InTurn.{some_not_positive, has-passed}
use Rattle.reconstructor_bootstrap.proofs.Whole.{few-orders, length-snapshot}
use Rattle.piece.specs.declared.PieceError.TheVariants as pieces
use Rattle.piece.specs.declared.PieceError.{PieceError}

-- ---- number 5 and number 12: amounts of an accepted snapshot

ranged : (bids : ℕ) (bytes : List ℕ) (i k : ℕ) → orders_in_range (orders_from bytes i k) ≡ true → some_not_positive (entries_from bids bytes i k) ≡ false
    → some_out_of_range (entries_from bids bytes i k) ≡ false
unfolding orders_in_range orders_from order_in_range entries_from entry_at
ranged bids bytes i zero h p = refl
ranged bids bytes i (suc k) h p =
    let a = and_yes (in_range (order_at bytes i).price && in_range (order_at bytes i).size) (orders_in_range (orders_from bytes (i + 1) k)) h in
    let b = and_yes (in_range (order_at bytes i).price) (in_range (order_at bytes i).size) a.0 in
    let d = or_no (not_positive (entry_at bids bytes i)) (some_not_positive (entries_from bids bytes (i + 1) k)) p in
    let e = or_no (eqb (nat_of (order_at bytes i).price) 0) (eqb (nat_of (order_at bytes i).size) 0) d.0 in
    or_both _ _
    (or_both _ _
    (or_both _ _ e.0 (le-ltb amount_limit (nat_of (order_at bytes i).price) (in_range_most (order_at bytes i).price b.0)))
    (or_both _ _ e.1 (le-ltb amount_limit (nat_of (order_at bytes i).size) (in_range_most (order_at bytes i).size b.1))))
    (ranged bids bytes (i + 1) k a.1 d.1)

pub read-ranged : (bytes : List ℕ) (s : L3Snapshot) → read_snapshot bytes ≡ Ok s → orders_in_range (orders_from bytes 0 (s.bids + s.asks)) ≡ true
unfolding read_snapshot snapshot_of
read-ranged bytes s h = go (snapshot_shaped bytes) (orders_in_range (orders_from bytes 0 (bids_at bytes + asks_at bytes))) refl h
  where
    found : L3Snapshot
    found = record { product_id = product_id_at bytes 1; sequence = word_at bytes 17; bids = bids_at bytes; asks = asks_at bytes }

    go : (x y : Bool) → orders_in_range (orders_from bytes 0 (bids_at bytes + asks_at bytes)) ≡ y
        → cond x (cond y (Ok found) (Err pieces.OutOfRange)) (Err pieces.NotAPiece) ≡ Ok s
        → orders_in_range (orders_from bytes 0 (s.bids + s.asks)) ≡ true
    go false y e q = let z : ◌≡◌ {A = ℕ} 0 1 = cc in absurd (omega arith)
    go true false e q = let z : ◌≡◌ {A = ℕ} 0 1 = cc in absurd (omega arith)
    go true true e q =
        let f : found ≡ s = cc in
        ap (λ (t : L3Snapshot). orders_in_range (orders_from bytes 0 (t.bids + t.asks))) (sym f) ∙ e

-- ---- 10 to 14

fits : (bytes : List ℕ) (s : L3Snapshot) (b : BookReconstructor) → read_snapshot bytes ≡ Ok s
    → snapshot_refusal b.product_id b.rules s (snapshot_line s bytes) ≡ None
    → SnapshotFits b.rules.max_orders b.rules.max_levels (snapshot_line s bytes)
unfolding snapshot_refusal line_refusal
fits bytes s b r h =
    let few = few-orders b.product_id b.rules s (snapshot_line s bytes) h in
    let k = has-passed b.rules.max_levels [] (snapshot_line s bytes) _ (passed _ _ _ (passed _ _ _ h).1).1 refl (omega arith) in
    let p : some_not_positive (entries_from s.bids bytes 0 (s.bids + s.asks)) ≡ false = ap some_not_positive (sym (line-places s bytes)) ∙ k.positive in
    record {
      few = omega (arith, length-snapshot s bytes, few);
      sound = ap some_out_of_range (line-places s bytes) ∙ ranged s.bids bytes 0 (s.bids + s.asks) (read-ranged bytes s r) p;
      single = k.single;
      flat = k.flat;
      apart = (passed _ _ _ k.end).0;
    }

-- ---- acceptance

-- why it is turned away, lent that list
abbrev pub refusal_of : ℕ → BookReconstructor → Memory → List Segment → List ℕ → Option BootstrapError
refusal_of top b mem sg bytes =
    boot_refusal top b.product_id b.rules (lengths_with mem (length sg)) (broken b mem) (view_with b mem (last_segment sg b.segments)) bytes

-- what a snapshot leaves where it is taken
abbrev pub accepted_parts : BookReconstructor → Memory → List Segment → ℕ → List Entry → Parts
accepted_parts b mem sg sequence line = put_back sg b.segments (accepted b mem (last_segment sg b.segments) sequence line)

-- a snapshot that meets no number
pub record Accepted (top : ℕ) (b : BookReconstructor) (mem : Memory) (sg : List Segment) (bytes : List ℕ) : Type 0 where
  pub snapshot : L3Snapshot
  pub read : read_snapshot bytes ≡ Ok snapshot
  pub is : bootstrapped top b mem sg bytes ≡ accepted_parts b mem sg snapshot.sequence (snapshot_line snapshot bytes)
  pub before : Usable top b mem (length sg)
  pub room : b.segments < length sg
  pub fits : SnapshotFits b.rules.max_orders b.rules.max_levels (snapshot_line snapshot bytes)

module _ (top : ℕ) (b : BookReconstructor) (mem : Memory) (sg : List Segment) (bytes : List ℕ) where
  abbrev last : Segment
  last = last_segment sg b.segments

  -- by what it is turned away for
  settles : (o : Option BootstrapError) → refusal_of top b mem sg bytes ≡ o
      → bootstrapped top b mem sg bytes ≡ put_back sg b.segments (unless_refused o b mem (length sg) last (taken (read_snapshot bytes) b mem (length sg) last bytes))
  unfolding bootstrapped bootstrapped_to
  settles o h = ap (λ x. put_back sg b.segments (unless_refused x b mem (length sg) last (taken (read_snapshot bytes) b mem (length sg) last bytes))) h

  pub is-accepted : refusal_of top b mem sg bytes ≡ None → Accepted top b mem sg bytes
  unfolding boot_refusal accept_refusal
  is-accepted h = go (read_snapshot bytes) refl (first-passed _ _ _ h).1
    where
      own : book_refusal top b mem (length sg) ≡ None
      own = (first-passed _ _ _ h).0

      u : Usable top b mem (length sg)
      u = usable top b mem (length sg) own

      go : (r : Result L3Snapshot PieceError) → read_snapshot bytes ≡ r → piece_refusal b.product_id b.rules (lengths_with mem (length sg)) (view_with b mem last) r bytes ≡ None → Accepted top b mem sg bytes
      go (Err e) q k = let z : ◌≡◌ {A = ℕ} 0 1 = cc in absurd (omega arith)
      go (Ok s) q k =
          let full = passed _ _ _ k in
          let vetted = first-passed _ _ _ full.1 in
          let differ : length sg ≡ b.segments → ⊥ = eqb-false (length sg) b.segments full.0 in
          record {
            snapshot = s;
            read = q;
            is = settles None h ∙ ap (λ r. put_back sg b.segments (taken r b mem (length sg) last bytes)) q;
            before = u;
            room = omega (arith, differ, segments-lent b mem (length sg) u.lent);
            fits = fits bytes s b q vetted.0;
          }

  -- the state, with what it is lent, passes 1, 2 and 3 at the next call
  pub accepted-usable : refusal_of top b mem sg bytes ≡ None
      → Usable top (bootstrapped top b mem sg bytes).book (bootstrapped top b mem sg bytes).memory (length (bootstrapped top b mem sg bytes).segments)
  accepted-usable h =
      let a = is-accepted h in
      let l : List Entry = snapshot_line a.snapshot bytes in
      let t = a.snapshot.sequence in
      let os : List Resting = map (snapshot_row t) l in
      let n : length os ≡ length l = length-map l (snapshot_row t) in
      let s = sound b mem a.before.sound in
      let m = rows-lent b mem (length sg) a.before.lent in
      let r : rows_of (stored mem.rows b.rows os) (length l) ≡ os = rw n at (rows-stored mem.rows b.rows os) in
      let d = length-set (relast sg b.segments (closed b.status last)) b.segments (started t) ∙ length-relast sg b.segments (closed b.status last) in
      let f = length-stored mem.rows b.rows os (omega (arith, s.few)) (omega (arith, a.fits.few)) in
      rw a.is
      (record {
        within = a.before.within;
        lent = or_both _ _ (le-ltb (length (stored mem.rows b.rows os)) (row_words * b.rules.max_orders) (omega (arith, f, m)))
            (le-ltb (length (accepted_parts b mem sg t l).segments) (b.segments + 1) (omega (arith, d, a.room)));
        sound = kept (booted_book b t (length l)) (memory (stored mem.rows b.rows os)) os r n
            (snapshot-kept b.rules.max_orders b.rules.max_levels t l a.fits)
            (ne_eqb (b.segments + 1) 0 (λ z. omega (arith, z)));
      })

-- ---- refusal

-- a refusal changes the counts at most
pub counts_alone : (x : Result ⊤ BootstrapError) (b : BookReconstructor) → refused_book x b ≡ with_counts b (refused_book x b).counts
counts_alone (Ok t) b = refl
counts_alone (Err (Unusable e)) b = refl
counts_alone (Err NotAPiece) b = refl
counts_alone (Err AmountOutOfRange) b = refl
counts_alone (Err ListFull) b = refl
counts_alone (Err (Rejected e)) b = refl

module _ (top : ℕ) (b : BookReconstructor) (mem : Memory) (sg : List Segment) (bytes : List ℕ) (x : BootstrapError) (h : refusal_of top b mem sg bytes ≡ Some x) where
  -- the last record rewritten with itself, and one past the end, leave the list
  same : set (relast sg b.segments (last_segment sg b.segments)) (length sg) no_segment ≡ sg
  same = ap (λ l. set l (length sg) no_segment) (relast-same sg b.segments) ∙ set_out sg (length sg) no_segment (omega arith)

  -- 01, bootstrap: "leave all else; a valid book stays valid"
  pub refused_is : bootstrapped top b mem sg bytes ≡ record { answer = Err x; book = refused_book (Err x) b; memory = mem; segments = sg }
  refused_is = settles top b mem sg bytes (Some x) h ∙ ap (λ (l : List Segment). record { answer = Err x; book = refused_book (Err x) b; memory = mem; segments = l }) same

  -- a usable state stays usable
  pub refused-usable : Usable top b mem (length sg)
      → Usable top (bootstrapped top b mem sg bytes).book (bootstrapped top b mem sg bytes).memory (length (bootstrapped top b mem sg bytes).segments)
  unfolding broken
  refused-usable u = rw (refused_is, counts_alone (Err x) b) (record { within = u.within; lent = u.lent; sound = u.sound })
