-- Records and their words. A record is eight words as a row is, so that the laws of rows serve it.
-- Assumes nothing.
use Prim.Native.Nat.{ℕ, zero, suc, ◌+◌, ◌*◌, ◌-◌, ◌/◌, ◌≤◌, ◌<◌, max}
use mathlib.Core.Path.{◌≡◌, refl, sym, ap, ◌∙◌}
use mathlib.Core.List.{List, [], ◌∷◌, ◌++◌, map}
use native.Mathlib.Omega.{arith}
use lib.ListN.{length, set, drop, length-set, length-map, get_or-eq_default, get_or-map}
use lib.Seq.{set_out, drop_at}
use Rattle.book.specs.declared.Resting.{Resting}
use Rattle.book.specs.Rows.{empty_row, row_at, rows_from, rows_of, encode_all, set_row, stored}
use Rattle.book.proofs.Rows.{length-rows, get_d_rows}
use Rattle.book.proofs.Stored.{rows-stored, length-stored, length_encode, stored_same, stored_set}
use Rattle.reconstructor_segments.specs.declared.Segment.{Segment}
use Rattle.reconstructor_segments.specs.Segments.{no_segment, segment_at, relast}
use Rattle.reconstructor_segments.proofs.Last.{relast_at}
use Rattle.host_records.specs.Records.{record_words, record_at, records_from, records_of, encode_record, encode_records, set_record, relaid}

-- the row of the same words, and back
abbrev row : Segment → Resting
row g =
    record {
      high = g.start_seq;
      low = g.last_good_seq;
      price = g.end;
      remaining = g.end_good;
      kind = g.end_seq;
      entered_at = g.end_detail;
      decreased = g.first_us;
      decreased_at = g.last_us;
    }

abbrev back : Resting → Segment
back o =
    record {
      start_seq = o.high;
      last_good_seq = o.low;
      end = o.price;
      end_good = o.remaining;
      end_seq = o.kind;
      end_detail = o.entered_at;
      first_us = o.decreased;
      last_us = o.decreased_at;
    }

rows-records : (ws : List ℕ) (i k : ℕ) → map row (records_from ws i k) ≡ rows_from ws i k
unfolding records_from rows_from
rows-records ws i zero = refl
rows-records ws i (suc k) = ap (λ (l : List Resting). row_at ws i ∷ l) (rows-records ws (i + 1) k)

back-rows : (gs : List Segment) → map back (map row gs) ≡ gs
back-rows [] = refl
back-rows (g ∷ gs) = ap (λ (l : List Segment). g ∷ l) (back-rows gs)

encode-rows : (gs : List Segment) → encode_records gs ≡ encode_all (map row gs)
encode-rows [] = refl
encode-rows (g ∷ gs) = ap (λ (l : List ℕ). encode_record g ++ l) (encode-rows gs)

map_set : (gs : List Segment) (i : ℕ) (g : Segment) → map row (set gs i g) ≡ set (map row gs) i (row g)
map_set [] i g = refl
map_set (x ∷ gs) zero g = refl
map_set (x ∷ gs) (suc i) g = ap (λ (l : List Resting). row x ∷ l) (map_set gs i g)

pub length-records : (ws : List ℕ) → length (records_of ws) ≡ length ws / 8
length-records ws = sym (length-map (records_of ws) row) ∙ ap length (rows-records ws 0 (length ws / 8)) ∙ length-rows ws 0 (length ws / 8)

-- as many records as before: the words are those of rows stored
relaid-stored : (ws : List ℕ) (gs : List Segment) → length gs ≡ length ws / 8 → relaid ws gs ≡ stored ws (length ws / 8) (map row gs)
unfolding relaid stored
relaid-stored ws gs e =
    let l : length (map row gs) ≡ length ws / 8 = length-map gs row ∙ e in
    let z : record_words * (length ws / 8 - length (map row gs)) ≡ 0 = omega arith in
    let x : max (length ws / 8) (length (map row gs)) ≡ length gs = omega arith in
    rw (z, x, encode-rows gs)

-- the records as they were leave the words as they were
pub relaid-same : (ws : List ℕ) → relaid ws (records_of ws) ≡ ws
relaid-same ws =
    relaid-stored ws (records_of ws) (length-records ws)
    ∙ ap (stored ws (length ws / 8)) (rows-records ws 0 (length ws / 8))
    ∙ sym (stored_same ws (length ws / 8) (omega arith))

pub length-relaid : (ws : List ℕ) (gs : List Segment) → length gs ≡ length ws / 8 → length (relaid ws gs) ≡ length ws
length-relaid ws gs e =
    let l : length (map row gs) ≡ length ws / 8 = length-map gs row ∙ e in
    ap length (relaid-stored ws gs e) ∙ length-stored ws (length ws / 8) (map row gs) (omega arith) (omega arith)

-- decode after encode
pub records-relaid : (ws : List ℕ) (gs : List Segment) → length gs ≡ length ws / 8 → records_of (relaid ws gs) ≡ gs
records-relaid ws gs e =
    let l : length (map row gs) ≡ length ws / 8 = length-map gs row ∙ e in
    let k : length (relaid ws gs) / 8 ≡ length (map row gs) = omega (arith, length-relaid ws gs e) in
    sym (back-rows (records_of (relaid ws gs)))
    ∙ ap (map back)
    (rows-records (relaid ws gs) 0 (length (relaid ws gs) / 8)
    ∙ ap (rows_of (relaid ws gs)) k
    ∙ ap (λ (vs : List ℕ). rows_of vs (length (map row gs))) (relaid-stored ws gs e)
    ∙ rows-stored ws (length ws / 8) (map row gs))
    ∙ back-rows gs

-- written over, the words are those of the last records
pub relaid-twice : (ws : List ℕ) (gs hs : List Segment) → length hs ≡ length gs → relaid (relaid ws gs) hs ≡ relaid ws hs
unfolding relaid
relaid-twice ws gs hs e =
    let l : length (encode_records gs) ≡ record_words * length hs = ap length (encode-rows gs) ∙ length_encode (map row gs) ∙ ap (λ (n : ℕ). record_words * n) (length-map gs row ∙ sym e) in
    let d : record_words * length gs ≡ record_words * length hs = ap (λ (n : ℕ). record_words * n) (sym e) in
    ap (λ (x : List ℕ). encode_records hs ++ x) (drop_at (encode_records gs) (drop (record_words * length gs) ws) (record_words * length hs) l ∙ ap (λ (n : ℕ). drop n ws) d)

-- ---- one record

module _ (ws : List ℕ) (i : ℕ) where
  pub read_record : (g : Segment) → i < length ws / 8 → g ≡ record_at ws i → g ≡ segment_at (records_of ws) i
  read_record g h e =
      let rows : records_of ws ≡ map back (rows_of ws (length ws / 8)) = sym (back-rows (records_of ws)) ∙ ap (map back) (rows-records ws 0 (length ws / 8)) in
      e
      ∙ sym
      (ap (λ (l : List Segment). segment_at l i) rows
      ∙ get_or-map back (rows_of ws (length ws / 8)) i empty_row
      ∙ ap back (get_d_rows ws (length ws / 8) i empty_row h))

  pub read_none : length ws / 8 ≤ i → no_segment ≡ segment_at (records_of ws) i
  read_none h = sym (get_or-eq_default (records_of ws) no_segment {n = i} (omega (arith, length-records ws, h)))

  pub put_record : (g : Segment) → i < length ws / 8 → set_record ws i g ≡ relaid ws (set (records_of ws) i g)
  unfolding set_record set_row
  put_record g h =
      stored_set ws (length ws / 8) i (row g) (omega arith) h
      ∙ sym (relaid-stored ws (set (records_of ws) i g) (length-set (records_of ws) i g ∙ length-records ws) ∙ ap (stored ws (length ws / 8)) (map_set (records_of ws) i g ∙ ap (λ (l : List Resting). set l i (row g)) (rows-records ws 0 (length ws / 8))))

  pub put-none : (g : Segment) → length ws / 8 ≤ i → ws ≡ relaid ws (set (records_of ws) i g)
  put-none g h = sym (ap (relaid ws) (set_out (records_of ws) i g (omega (arith, length-records ws, h))) ∙ relaid-same ws)

-- ---- the last of the first n

pub put_last : (ws : List ℕ) (n : ℕ) (g : Segment) → 0 < n → relaid ws (set (records_of ws) (n - 1) g) ≡ relaid ws (relast (records_of ws) n g)
put_last ws n g h = ap (relaid ws) (sym (relast_at (records_of ws) n g h))

pub put_no-last : (ws : List ℕ) (n : ℕ) (g : Segment) → n ≤ 0 → ws ≡ relaid ws (relast (records_of ws) n g)
put_no-last ws zero g h = sym (relaid-same ws)
put_no-last ws (suc n) g h = absurd (omega (arith, h))
