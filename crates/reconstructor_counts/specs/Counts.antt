-- The twelve counts. 01, apply: "Acceptance .. adds one to one counter. Counters stop at 2^64−1."
use Rattle.std.specs.Prelude.{ℕ, ◌+◌, cond, eqb, ltb}
use Rattle.reconstructor_counts.specs.declared.MessageCounts.{MessageCounts}
use Rattle.reconstructor_counts.specs.declared.Counter.{Counter}
use Rattle.reconstructor_counts.specs.declared.Counter.TheVariants.{Received, Open, Done, Matched, Stp, OffBookDone, OffBookChange, NoopChange, HandshakeDropped, SkippedWhileInvalid, WrongProduct, RejectedSnapshots}

-- the largest 64-bit number
abbrev pub largest : ℕ
largest = 18446744073709551615

-- one more, or the largest number
unfoldable pub saturated : ℕ → ℕ
saturated x = cond (ltb x largest) (x + 1) x

abbrev pub no_counts : MessageCounts
no_counts =
    record {
      received = 0;
      «open» = 0;
      done = 0;
      matched = 0;
      stp_decrease = 0;
      off_book_done = 0;
      off_book_change = 0;
      noop_change = 0;
      handshake_dropped = 0;
      skipped_while_invalid = 0;
      wrong_product = 0;
      rejected_snapshots = 0;
    }

-- the count at place n, where one is added at place k
abbrev pub raised_at : ℕ → ℕ → ℕ → ℕ
raised_at k n x = cond (eqb k n) (saturated x) x

-- one added to the count at place k, in the order of the fields
abbrev pub counted_at : ℕ → MessageCounts → MessageCounts
counted_at k c =
    record {
      received = raised_at k 0 c.received;
      «open» = raised_at k 1 c.«open»;
      done = raised_at k 2 c.done;
      matched = raised_at k 3 c.matched;
      stp_decrease = raised_at k 4 c.stp_decrease;
      off_book_done = raised_at k 5 c.off_book_done;
      off_book_change = raised_at k 6 c.off_book_change;
      noop_change = raised_at k 7 c.noop_change;
      handshake_dropped = raised_at k 8 c.handshake_dropped;
      skipped_while_invalid = raised_at k 9 c.skipped_while_invalid;
      wrong_product = raised_at k 10 c.wrong_product;
      rejected_snapshots = raised_at k 11 c.rejected_snapshots;
    }

-- a counter's place among the counts
abbrev pub place_of : Counter → ℕ
place_of Received = 0
place_of Open = 1
place_of Done = 2
place_of Matched = 3
place_of Stp = 4
place_of OffBookDone = 5
place_of OffBookChange = 6
place_of NoopChange = 7
place_of HandshakeDropped = 8
place_of SkippedWhileInvalid = 9
place_of WrongProduct = 10
place_of RejectedSnapshots = 11

abbrev pub counted : MessageCounts → Counter → MessageCounts
counted c k = counted_at (place_of k) c
