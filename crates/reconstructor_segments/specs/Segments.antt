-- Segment records. 01, Segments: "Each record has start_seq, last_good_seq, end, first_us and last_us (zero until a message is
-- accepted)." The end takes four fields: its code (0 open, 1 superseded, else the number of the reason), and of a reason the last good sequence,
-- the offending one, and which reason of 38.
use Rattle.std.specs.Prelude.{ℕ, zero, suc, ◌-◌, Bool, ◌&&◌, cond, List, eqb, get_or, set}
use Rattle.reconstructor_segments.specs.declared.Segment.{Segment}
use Rattle.reconstructor_segments.specs.declared.SegmentName.{SegmentName}
use Rattle.reconstructor_answers.specs.declared.Invalidation.{Invalidation}
use Rattle.reconstructor_counts.specs.Counts.{largest}
use Rattle.reconstructor_answers.specs.Numbers.{kind_number, kind_detail}

-- ---- a list of records

-- what stands past a list's end
abbrev pub no_segment : Segment
no_segment =
    record {
      start_seq = 0;
      last_good_seq = 0;
      end = 0;
      end_good = 0;
      end_seq = 0;
      end_detail = 0;
      first_us = 0;
      last_us = 0;
    }

-- record i
abbrev pub segment_at : List Segment → ℕ → Segment
segment_at sg i = get_or sg i no_segment

-- the last of the first n records; where n is 0 there is none
abbrev pub last_segment : List Segment → ℕ → Segment
last_segment sg zero = no_segment
last_segment sg (suc n) = segment_at sg n

-- that record rewritten; where n is 0 nothing is written
abbrev pub relast : List Segment → ℕ → Segment → List Segment
relast sg zero g = sg
relast sg (suc n) g = set sg n g

-- where it stands; where there is none, past any list's end
abbrev pub last_place : ℕ → ℕ
last_place zero = largest
last_place (suc n) = n

-- ---- what happens to a record

-- 01, bootstrap: "Acceptance .. adds a segment"
abbrev pub started : ℕ → Segment
started sequence =
    record {
      start_seq = sequence;
      last_good_seq = sequence;
      end = 0;
      end_good = 0;
      end_seq = 0;
      end_detail = 0;
      first_us = 0;
      last_us = 0;
    }

-- 01, bootstrap: "Acceptance ends an open segment as superseded"
abbrev pub superseded : Segment → Segment
superseded g =
    record {
      start_seq = g.start_seq;
      last_good_seq = g.last_good_seq;
      end = 1;
      end_good = g.end_good;
      end_seq = g.end_seq;
      end_detail = g.end_detail;
      first_us = g.first_us;
      last_us = g.last_us;
    }

-- 01, apply: "Acceptance sets .. the segment's last_good_seq". Segments: "time_us of the segment's first and latest accepted message". The first
-- is told by last_good_seq = start_seq
abbrev pub extended : Segment → ℕ → ℕ → Segment
extended g sequence time =
    record {
      start_seq = g.start_seq;
      last_good_seq = sequence;
      end = g.end;
      end_good = g.end_good;
      end_seq = g.end_seq;
      end_detail = g.end_detail;
      first_us = cond (eqb g.last_good_seq g.start_seq) time g.first_us;
      last_us = time;
    }

-- 01, apply: "16 with the last good sequence, the offending one and the reason"
abbrev pub ended : Segment → Invalidation → Segment
ended g i =
    record {
      start_seq = g.start_seq;
      last_good_seq = g.last_good_seq;
      end = kind_number i.kind;
      end_good = i.last_good_seq;
      end_seq = i.first_offending_seq;
      end_detail = kind_detail i.kind;
      first_us = g.first_us;
      last_us = g.last_us;
    }

-- ---- what a record says

-- "Its elapsed time is last_us less first_us, or 0 if negative": a difference of natural numbers is 0 there
abbrev pub elapsed : Segment → ℕ
elapsed g = g.last_us - g.first_us

-- "Accepted messages = last_good_seq − start_seq"
abbrev pub accepted_messages : Segment → ℕ
accepted_messages g = g.last_good_seq - g.start_seq

-- "A segment's name is the reconstructor's number (given by the host at creation) with its place in the list"
abbrev pub same_segment : SegmentName → SegmentName → Bool
same_segment a b = eqb a.number b.number && eqb a.place b.place
