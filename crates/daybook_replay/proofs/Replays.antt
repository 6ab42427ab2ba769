-- A day, piece by piece: what the loop holds is the standing of the pieces so far, the last record being apart from the list.
-- Assumes nothing.
use Rattle.std.specs.Prelude.{Option, Some, None}
use Prim.Native.Nat.{ℕ, zero, suc, ◌+◌, ◌*◌, ◌-◌, ◌≤◌, ◌<◌}
use native.Mathlib.Nat.{sub-zero}
use native.Mathlib.Numerals.{add-one}
use native.Mathlib.Omega.{arith}
use mathlib.Core.Path.{◌≡◌, refl, sym, ap, ◌∙◌}
use mathlib.Core.Bool.{true, false, cond}
use mathlib.Core.List.{List}
use borrow.Author.Tests.{le-ltb}
use lib.ListN.{length, set, length-set, length-replicate}
use lib.Seq.{set_out, set-set, get_or-set_same}
use Rattle.laws.proofs.Bools.{or_both}
use Rattle.message.specs.declared.ProductId.{ProductId}
use Rattle.book.specs.Rows.{row_words, rows_from}
use Rattle.book.specs.Memory.{memory}
use Rattle.book_index.specs.declared.Bounds.{Bounds}
use Rattle.reconstructor_segments.specs.declared.Segment.{Segment}
use Rattle.reconstructor_segments.specs.Segments.{no_segment, last_segment, relast}
use Rattle.reconstructor_segments.proofs.Last.{length-relast}
use Rattle.reconstructor_state.specs.declared.BookReconstructor.{BookReconstructor}
use Rattle.reconstructor_state.specs.State.{ceiling}
use Rattle.reconstructor_checks.specs.StateChecks.{broken, Usable}
use Rattle.reconstructor_checks.proofs.StateChecks.{segments-lent}
use Rattle.daybook_pieces.specs.declared.Turn.{Turn}
use Rattle.daybook_segments.specs.DaySegments.{day_segments, no_segments}
use Rattle.daybook_pieces.specs.Played.{DayBook, played}
use Rattle.daybook_pieces.specs.Answers.{piece_answer_number}
use Rattle.daybook_pieces.specs.ByValue.{turned, played_to, Plays}
use Rattle.daybook_pieces.proofs.Pieces.{Starts, stays, begins, piece-starts, put_back, played_put}
use Rattle.daybook_file.specs.DayFile.{piece_count, pieces_from, piece_at, pieces_of, product_of}
use Rattle.daybook_file.proofs.Days.{pieces-next, pieces_none}
use Rattle.daybook_segments.specs.declared.Stop.{Stop}
use Rattle.daybook_replay.specs.Replay.{day_limit, fresh_rows, fresh_day, is_continued, ended_by, replayed, day_of}
use Rattle.daybook_replay.specs.ByValue.{ended_with}

-- ---- a list whose last record is held apart

relast-relast : (sg : List Segment) (n : ℕ) (g h : Segment) → relast (relast sg n g) n h ≡ relast sg n h
relast-relast sg zero g h = refl
relast-relast sg (suc n) g h = set-set sg n g h

last-held : (sg : List Segment) (n : ℕ) (g : Segment) → n ≤ length sg → (n ≡ 0 → g ≡ no_segment) → last_segment (relast sg n g) n ≡ g
last-held sg zero g h none = sym (none refl)
last-held sg (suc n) g h none = get_or-set_same sg n g no_segment (omega arith)

abbrev pub standing_of : BookReconstructor → List ℕ → List Segment → Segment → DayBook
standing_of b ws sg g = record { book = b; memory = memory ws; segments = relast sg b.segments g }

-- what the loop makes of list and record: a record that is started goes into the list with the one before it
pub data Keeps (sg : List Segment) (n : ℕ) (t : Turn) (sg' : List Segment) (g' : Segment) : Type 0 where
  filed : t.at < day_segments → sg' ≡ set (relast sg n t.segment) t.at t.started → g' ≡ t.started → Keeps sg n t sg' g'
  apart : day_segments ≤ t.at → sg' ≡ sg → g' ≡ t.segment → Keeps sg n t sg' g'

-- what a piece leaves, so held
pub record After (s : DayBook) (bytes : List ℕ) (t : Turn) (b' : BookReconstructor) (vs : List ℕ) (sg : List Segment) (g : Segment) : Type 0 where
  pub is : played s bytes ≡ record { number = piece_answer_number t.answer; after = standing_of b' vs sg g }
  pub full : length sg ≡ day_segments
  pub none : b'.segments ≡ 0 → g ≡ no_segment

module _ (b : BookReconstructor) (ws vs ps bytes : List ℕ) (bounds : Option Bounds) (sg sg' : List Segment) (g g' : Segment) (t : Turn) (b' : BookReconstructor) (plays : Plays b ws ps bounds) (whole : length sg ≡ day_segments) (unset : b.segments ≡ 0 → g ≡ no_segment)
    (e : turned t b' (memory vs) ≡ played_to b (memory ws) g bytes) where
  abbrev n : ℕ
  n = b.segments

  -- the list with the last record as the piece leaves it
  abbrev closed : List Segment
  closed = relast sg n t.segment

  length-closed : length closed ≡ day_segments
  length-closed = length-relast sg n t.segment ∙ whole

  few : n ≤ length sg
  few = omega (arith, whole, segments-lent b (memory ws) day_segments plays.usable.lent)

  starts : Starts b g (turned t b' (memory vs))
  starts = rw e (piece-starts b (memory ws) g bytes plays.usable)

  -- the piece, on the list as it is held
  turn_put : played (standing_of b ws sg g) bytes ≡ record { number = piece_answer_number t.answer; after = record { book = b'; memory = memory vs; segments = set closed t.at t.started } }
  turn_put =
      played_put b (memory ws) (relast sg n g) (length-relast sg n g ∙ whole) bytes
      ∙ ap (put_back (relast sg n g) n) (ap (λ (x : Segment). played_to b (memory ws) x bytes) (last-held sg n g few unset) ∙ sym e)
      ∙ ap (λ (l : List Segment). record { number = piece_answer_number t.answer; after = record { book = b'; memory = memory vs; segments = set l t.at t.started } }) (relast-relast sg n g t.segment)

  holds : set closed t.at t.started ≡ relast sg' b'.segments g' → played (standing_of b ws sg g) bytes ≡ record { number = piece_answer_number t.answer; after = standing_of b' vs sg' g' }
  holds q = turn_put ∙ ap (λ (l : List Segment). record { number = piece_answer_number t.answer; after = record { book = b'; memory = memory vs; segments = l } }) q

  pub after : Keeps sg n t sg' g' → After (standing_of b ws sg g) bytes t b' vs sg' g'
  after k = go starts k
    where
      go : Starts b g (turned t b' (memory vs)) → Keeps sg n t sg' g' → After (standing_of b ws sg g) bytes t b' vs sg' g'
      go (stays at same held) (filed l es eg) = absurd (omega arith)
      go (begins at room more) (apart l es eg) = absurd (omega arith)
      go (stays at same held) (apart l es eg) =
          record {
            is = holds (rw (es, eg, same) (set_out closed t.at t.started (omega (arith, length-closed))));
            full = rw es whole;
            none = λ z. let q : n ≡ 0 = omega arith in rw eg (held q ∙ unset q);
          }
      go (begins at room more) (filed l es eg) =
          record {
            is = holds (rw (es, eg, more, at, add-one n) (sym (set-set closed n t.started t.started)));
            full = rw es (length-set closed t.at t.started ∙ length-closed);
            none = λ z. absurd (omega arith);
          }

-- ---- the loop

-- what it keeps, before piece i, counted from 0
pub record Loops (f ws : List ℕ) (b : BookReconstructor) (g : Segment) (sg : List Segment) (i : ℕ) : Type 0 where
  pub few : i ≤ piece_count f
  pub full : length sg ≡ day_segments
  pub none : b.segments ≡ 0 → g ≡ no_segment
  pub rest : day_of f ≡ replayed (standing_of b ws sg g) (i + 1) (pieces_from f i (piece_count f - i))

-- a fresh book passes 1, 2 and 3
pub fresh-usable : (product : ProductId) → Usable ceiling (fresh_day product).book (memory fresh_rows) day_segments
unfolding broken rows_from fresh_rows
fresh-usable product =
    record {
      within = refl;
      lent = or_both _ _ (le-ltb (length fresh_rows) (row_words * day_limit) (omega (arith, length-replicate {A = ℕ} (row_words * day_limit) 0))) refl;
      sound = refl;
    }

-- and no row is to be indexed
pub fresh-plays : (product : ProductId) (ps : List ℕ) (bounds : Option Bounds) → length ps ≤ 65536 → Plays (fresh_day product).book fresh_rows ps bounds
unfolding rows_from
fresh-plays product ps bounds small = record { usable = fresh-usable product; index = record { few = small; marks = refl; within = refl; single = refl } }

pub length_none : length no_segments ≡ day_segments
unfolding no_segments
length_none = length-replicate day_segments no_segment

pub loop-start : (f : List ℕ) (b : BookReconstructor) → b ≡ (fresh_day (product_of (pieces_of f))).book → Loops f fresh_rows b no_segment no_segments 0
unfolding day_of pieces_of
loop-start f b e =
    rw e
    (record {
      few = omega arith;
      full = length_none;
      none = λ z. refl;
      rest = rw (sub-zero (piece_count f)) refl;
    })

-- the last record put back
ended-with : (b : BookReconstructor) (ws : List ℕ) (sg : List Segment) (g : Segment) (stop : Option Stop) → length sg ≡ day_segments → ended_with b sg g stop ≡ ended_by (standing_of b ws sg g) stop
ended-with b ws sg g stop full =
    ap (λ (l : List Segment). record { book = b; segments = l; stop = stop }) (set_out (relast sg b.segments g) day_segments no_segment (omega (arith, length-relast sg b.segments g)))

module _ (f ws : List ℕ) (b : BookReconstructor) (g : Segment) (sg : List Segment) (i : ℕ) (l : Loops f ws b g sg i) where
  -- with no piece left the day is over
  pub loop-ends : piece_count f ≤ i → ended_with b sg g None ≡ day_of f
  unfolding replayed
  loop-ends h = ended-with b ws sg g None l.full ∙ sym (l.rest ∙ rw (pieces_none f (piece_count f) i h))

  module _ (vs : List ℕ) (t : Turn) (b' : BookReconstructor) (sg' : List Segment) (g' : Segment) (h : i < piece_count f) (a : After (standing_of b ws sg g) (piece_at f i) t b' vs sg' g') where
    -- the next piece, and what comes after it
    next : day_of f ≡ cond (is_continued (piece_answer_number t.answer)) (replayed (standing_of b' vs sg' g') (i + 1 + 1) (pieces_from f (i + 1) (piece_count f - (i + 1)))) (ended_by (standing_of b' vs sg' g') (Some (record { piece = (i + 1); number = piece_answer_number t.answer })))
    unfolding replayed
    next = l.rest ∙ rw (pieces-next f (piece_count f) i h, a.is)

    pub loop-stops : is_continued (piece_answer_number t.answer) ≡ false → ended_with b' sg' g' (Some (record { piece = (i + 1); number = piece_answer_number t.answer })) ≡ day_of f
    loop-stops q = ended-with b' vs sg' g' (Some (record { piece = (i + 1); number = piece_answer_number t.answer })) a.full ∙ sym (next ∙ rw q)

    pub loop-next : is_continued (piece_answer_number t.answer) ≡ true → Loops f vs b' g' sg' (i + 1)
    loop-next q = record { few = omega arith; full = a.full; none = a.none; rest = next ∙ rw q }
