-- Segment records as words, eight a record in the order of its fields: the form in which C lends a segment list.
use Rattle.std.specs.Prelude.{ℕ, zero, suc, ◌+◌, ◌*◌, ◌/◌, List, [], ◌∷◌, ◌++◌, length, get_or, take, drop}
use Rattle.reconstructor_segments.specs.declared.Segment.{Segment}

abbrev pub record_words : ℕ
record_words = 8

-- how many whole records the words hold
abbrev pub records_in : List ℕ → ℕ
records_in ws = length ws / record_words

-- ---- words to records

-- record i
abbrev pub record_at : List ℕ → ℕ → Segment
record_at ws i =
    record {
      start_seq = get_or ws (record_words * i) 0;
      last_good_seq = get_or ws (record_words * i + 1) 0;
      end = get_or ws (record_words * i + 2) 0;
      end_good = get_or ws (record_words * i + 3) 0;
      end_seq = get_or ws (record_words * i + 4) 0;
      end_detail = get_or ws (record_words * i + 5) 0;
      first_us = get_or ws (record_words * i + 6) 0;
      last_us = get_or ws (record_words * i + 7) 0;
    }

-- k records from record i on
unfoldable pub records_from : List ℕ → ℕ → ℕ → List Segment
records_from ws i zero = []
records_from ws i (suc k) = record_at ws i ∷ records_from ws (i + 1) k

-- the records of a list
abbrev pub records_of : List ℕ → List Segment
records_of ws = records_from ws 0 (records_in ws)

-- ---- records to words

abbrev pub encode_record : Segment → List ℕ
encode_record g =
    g.start_seq ∷ g.last_good_seq ∷ g.end ∷ g.end_good ∷ g.end_seq ∷ g.end_detail ∷ g.first_us ∷ g.last_us ∷ []

abbrev pub encode_records : List Segment → List ℕ
encode_records [] = []
encode_records (g ∷ gs) = encode_record g ++ encode_records gs

-- record i replaced
unfoldable pub set_record : List ℕ → ℕ → Segment → List ℕ
set_record ws i g = take (record_words * i) ws ++ encode_record g ++ drop (record_words * i + record_words) ws

-- the words once their records are `gs`; words past the last record are untouched
unfoldable pub relaid : List ℕ → List Segment → List ℕ
relaid ws gs = encode_records gs ++ drop (record_words * length gs) ws
