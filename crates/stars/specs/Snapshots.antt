-- The examples of 01's table that a snapshot can meet, computed from bytes on.
use Rattle.std.specs.Prelude.{ℕ, ◌≡◌, List, [], ◌∷◌, ◌++◌, pos, negsuc, replicate, take, set, Ok, Err}
use Rattle.message.specs.declared.SnapshotOrder.{SnapshotOrder}
use Rattle.book.specs.Memory.{memory}
use Rattle.reconstructor_segments.specs.declared.Segment.{Segment}
use Rattle.reconstructor_state.specs.declared.Status.TheVariants.{Valid}
use Rattle.reconstructor_counts.specs.Counts.{no_counts, counted}
use Rattle.reconstructor_counts.specs.declared.Counter.TheVariants.{RejectedSnapshots}
use Rattle.reconstructor_state.specs.State.{ceiling, limited_rules, with_counts}
use Rattle.reconstructor_bootstrap.specs.declared.SnapshotError.TheVariants.{Crossed}
use Rattle.reconstructor_bootstrap.specs.declared.BootstrapError.TheVariants.{Rejected}
use Rattle.reconstructor_bootstrap.specs.Numbers.{snapshot_told}
use Rattle.reconstructor_bootstrap.specs.Bootstrap.{Parts, bootstrapped}
use Rattle.stars.specs.E.{product_p, product_q, order, order_a, order_b, piece, fresh, segment, any_rows, any_record, snapshot_at, book_e, rows_e, memory_e, segments_e}

-- a call on E, and what becomes of E
abbrev on_e : List Segment → List ℕ → Parts
on_e sg bytes = bootstrapped ceiling book_e memory_e sg bytes

abbrev number : Parts → ℕ
number p = (snapshot_told p.answer).number

-- the number that a snapshot of P at 101 gets on E, by its bids and asks
abbrev number_e : List SnapshotOrder → List SnapshotOrder → ℕ
number_e bids asks = number (on_e segments_e (piece product_p 101 bids asks))

-- the same of a fresh book with limits of its own
abbrev number_fresh : ℕ → ℕ → List SnapshotOrder → List SnapshotOrder → ℕ
number_fresh orders levels bids asks =
    number (bootstrapped ceiling (fresh orders levels) any_rows (replicate 3 any_record) (piece product_p 100 bids asks))

pub record Examples : Type 0 where
  -- E is what its snapshot makes of a fresh book
  pub made : snapshot_at 100 ≡ record { answer = Ok tt; book = book_e; memory = memory_e; segments = segments_e }
  -- a second one supersedes its segment and zeroes the row that it no longer needs
  pub again : on_e segments_e (piece product_p 90 [] (order_a ∷ []))
      ≡ record {
        answer = Ok tt;
        book = record { product_id = product_p; rules = limited_rules 3 3; number = 1; status = Valid 90; rows = 1; segments = 2; counts = no_counts };
        memory = memory (0 ∷ 1 ∷ 10 ∷ 2 ∷ 1 ∷ 90 ∷ 0 ∷ 0 ∷ replicate 8 0 ++ replicate 9 7);
        segments = segment 100 100 1 0 0 0 0 0 ∷ segment 90 90 0 0 0 0 0 0 ∷ [];
      }
  -- 13*: a refused one ends no good segment
  pub kept : on_e segments_e (piece product_p 101 (order 1 (pos 5) (pos 1) ∷ []) (order 2 (pos 5) (pos 1) ∷ []))
      ≡ record { answer = Err (Rejected Crossed); book = with_counts book_e (counted no_counts RejectedSnapshots); memory = memory_e; segments = segments_e }
  -- 1, 2, 3, 4, 5, 6, 10, 11, 12, 14: the table's examples
  pub numbers : (
      number_fresh 4097 3 (order_a ∷ []) (order_b ∷ []) ∷
      number (bootstrapped ceiling book_e (memory (take 23 rows_e)) segments_e (piece product_p 101 [] [])) ∷
      number (bootstrapped ceiling book_e (memory (set rows_e 2 0)) segments_e (piece product_p 101 [] [])) ∷
      number (on_e segments_e []) ∷
      number_e (order 1 (pos 1000000000000001) (pos 2) ∷ []) [] ∷
      number (on_e (take 1 segments_e) (piece product_p 101 (order_a ∷ []) (order_b ∷ []))) ∷
      number (on_e segments_e (piece product_q 101 (order_a ∷ []) (order_b ∷ []))) ∷
      number_e (order_a ∷ []) (order_a ∷ []) ∷
      number_e (order 1 (pos 10) (pos 0) ∷ []) [] ∷
      number_e (order_a ∷ order 3 (pos 10) (pos 1) ∷ []) (order_b ∷ order 4 (pos 12) (pos 1) ∷ []) ∷
      []) ≡ 1 ∷ 2 ∷ 3 ∷ 4 ∷ 5 ∷ 6 ∷ 10 ∷ 11 ∷ 12 ∷ 14 ∷ []
  -- the order of the checks: 14 (orders) before 11; 11 before 12; 12 before 14 (levels); a level is a side and a price, so that 5 and 5 in one level
  -- is 14, and only then 13. C4: "amount 10^15 is accepted". An empty snapshot is accepted
  pub orders : (
      number_fresh 1 3 (order_a ∷ order_a ∷ []) [] ∷
      number_e (order_a ∷ order 1 (negsuc 0) (pos 1) ∷ []) [] ∷
      number_fresh 2 1 (order_a ∷ []) (order 2 (pos 12) (pos 0) ∷ []) ∷
      number_fresh 2 1 (order 1 (pos 5) (pos 1) ∷ []) (order 2 (pos 5) (pos 1) ∷ []) ∷
      number_fresh 2 2 (order 1 (pos 5) (pos 1) ∷ []) (order 2 (pos 5) (pos 1) ∷ []) ∷
      number_fresh 3 1 (order_a ∷ order 3 (pos 10) (pos 1) ∷ []) [] ∷
      number_e (order 1 (pos 10) (pos 1000000000000000) ∷ []) [] ∷
      number_e [] [] ∷
      []) ≡ 14 ∷ 11 ∷ 12 ∷ 14 ∷ 13 ∷ 0 ∷ 0 ∷ 0 ∷ []
