-- The book E of 01: "E is the book of product P, limits 3 and 3, snapshot at 100: buy A price 10 size 2, sell B price 12 size 3 (units)." Snapshots.antt
-- shows that its snapshot makes it.
use Rattle.std.specs.Prelude.{ℕ, List, [], ◌∷◌, ℤ, pos, replicate}
use Rattle.message.specs.declared.ProductId.{ProductId}
use Rattle.message.specs.declared.SnapshotOrder.{SnapshotOrder}
use Rattle.piece.specs.Encode.{snapshot_bytes}
use Rattle.book.specs.Memory.{Memory, memory}
use Rattle.reconstructor_state.specs.State.{ceiling}
use Rattle.reconstructor_segments.specs.declared.Segment.{Segment}
use Rattle.reconstructor_state.specs.declared.BookReconstructor.{BookReconstructor}
use Rattle.reconstructor_state.specs.State.{limited_rules, new_book}
use Rattle.reconstructor_bootstrap.specs.Bootstrap.{Parts, booted_book, bootstrapped}

abbrev pub product_p : ProductId
product_p = record { high = 80; low = 0 }

abbrev pub product_q : ProductId
product_q = record { high = 81; low = 0 }

abbrev pub order : ℕ → ℤ → ℤ → SnapshotOrder
order id price size = record { order_id = record { high = 0; low = id }; price = price; size = size }

abbrev pub order_a : SnapshotOrder
order_a = order 1 (pos 10) (pos 2)

abbrev pub order_b : SnapshotOrder
order_b = order 2 (pos 12) (pos 3)

abbrev pub piece : ProductId → ℕ → List SnapshotOrder → List SnapshotOrder → List ℕ
piece product sequence bids asks =
    snapshot_bytes (record { product_id = product; sequence = sequence; bids = bids; asks = asks })

-- a book of P before any snapshot, with limits of its own
abbrev pub fresh : ℕ → ℕ → BookReconstructor
fresh orders levels = new_book product_p (limited_rules orders levels) 1

-- a segment's record: start_seq, last_good_seq, the four fields of its end, first_us and last_us
abbrev pub segment : ℕ → ℕ → ℕ → ℕ → ℕ → ℕ → ℕ → ℕ → Segment
segment start good end end_good end_seq detail first last =
    record {
      start_seq = start;
      last_good_seq = good;
      end = end;
      end_good = end_good;
      end_seq = end_seq;
      end_detail = detail;
      first_us = first;
      last_us = last;
    }

-- its memory has words and records of any contents: three rows and a word past them, two records
abbrev pub any_record : Segment
any_record = segment 7 7 7 7 7 7 7 7

abbrev pub any_rows : Memory
any_rows = memory (replicate 25 7)

abbrev pub any_records : List Segment
any_records = replicate 2 any_record

-- what a snapshot of A and B at a sequence makes of a fresh book with E's limits
abbrev pub snapshot_at : ℕ → Parts
snapshot_at sequence = bootstrapped ceiling (fresh 3 3) any_rows any_records (piece product_p sequence (order_a ∷ []) (order_b ∷ []))

-- ---- E

abbrev pub book_e : BookReconstructor
book_e = booted_book (fresh 3 3) 100 2

abbrev pub rows_e : List ℕ
rows_e = 0 ∷ 1 ∷ 10 ∷ 2 ∷ 0 ∷ 100 ∷ 0 ∷ 0 ∷ 0 ∷ 2 ∷ 12 ∷ 3 ∷ 1 ∷ 100 ∷ 0 ∷ 0 ∷ replicate 9 7

abbrev pub memory_e : Memory
memory_e = memory rows_e

abbrev pub segments_e : List Segment
segments_e = segment 100 100 0 0 0 0 0 0 ∷ any_record ∷ []
