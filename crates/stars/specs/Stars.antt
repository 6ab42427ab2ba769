-- 01's table and figures on its book E, by computation: lists of calls with the number that each must give (stars: 13, 20, 21, 22, 30, 31, 33, 35, 36, 41),
-- and the figures C1, C2 and C3. Snapshots.antt has those that a snapshot can meet.
use Rattle.std.specs.Prelude.{ℕ, ◌≡◌, Bool, true, false, cond, List, [], ◌∷◌, map, eqb, pos, get_or, replicate, set, take, Some, None, Result, Ok, Err}
use Rattle.message.specs.Told.{Told, told}
use Rattle.message.specs.declared.OrderId.{OrderId}
use Rattle.message.specs.declared.ProductId.{ProductId}
use Rattle.message.specs.declared.L3Side.TheVariants.{Buy, Sell}
use Rattle.message.specs.declared.DoneReason.TheVariants.{Filled, Canceled}
use Rattle.message.specs.declared.ChangeReason.TheVariants.{Stp}
use Rattle.message.specs.declared.L3Event.{L3Event}
use Rattle.message.specs.declared.L3Event.TheVariants.{Received, Open, Done, Match, Change, Unsupported}
use Rattle.message.specs.declared.L3Message.{L3Message}
use Rattle.book.specs.Line.{volume}
use Rattle.book.specs.Memory.{Memory, memory, line_in}
use Rattle.reconstructor_state.specs.State.{ceiling}
use Rattle.reconstructor_counts.specs.Counts.{largest}
use Rattle.reconstructor_segments.specs.declared.Segment.{Segment}
use Rattle.reconstructor_state.specs.declared.Status.TheVariants.{Valid}
use Rattle.reconstructor_state.specs.declared.BookReconstructor.{BookReconstructor}
use Rattle.reconstructor_answers.specs.Numbers.{answer_told}
use Rattle.reconstructor.specs.Applied.{Parts, applied}
use Rattle.reconstructor_bootstrap.specs.Bootstrap.{Parts as SnapshotParts, booted_book, bootstrapped}
use Rattle.reconstructor_handshake.specs.declared.Handshake.{Handshake}
use Rattle.reconstructor_handshake.specs.declared.StepAnswer.{StepAnswer}
use Rattle.reconstructor_handshake.specs.Step.{StepParts, step_told, stepped}
use Rattle.reconstructor_view.specs.Numbers.{audited_told}
use Rattle.reconstructor_view.specs.ValueReads.{audit_read}
use Rattle.reconstructor_reads.specs.Numbers.{level_told}
use Rattle.reconstructor_reads.specs.LevelReads.{level_queue, l2}
use Rattle.queue.specs.declared.Assumption.TheVariants.{EntrySequenceIsPriority}
use Rattle.queue.specs.declared.QueueAhead.{QueueAhead}
use Rattle.queue.specs.Numbers.{estimate_told, ahead_told}
use Rattle.queue.specs.Estimates.{EstimateParts, queue_estimate, queue_estimate_own, volume_ahead}
use Rattle.stars.specs.E.{product_p, product_q, order_a, order_b, piece, fresh, segment, any_record, snapshot_at, book_e, rows_e, memory_e, segments_e}
use Rattle.stars.specs.Snapshots.{Examples}
use Rattle.queue.specs.declared.QueueEstimate.{QueueEstimate}
use Rattle.queue.specs.declared.QueueError.{QueueError}

abbrev id : ℕ → OrderId
id k = record { high = 0; low = k }

abbrev a : OrderId
a = id 1

abbrev o : OrderId
o = id 3

abbrev z : OrderId
z = id 26

-- a message of a product, at a sequence
abbrev of : ProductId → ℕ → L3Event → L3Message
of p seq e = record { product_id = p; sequence = seq; time_us = 5; event = e }

abbrev at : ℕ → L3Event → L3Message
at seq e = of product_p seq e

-- "Events are at 101 unless said"
abbrev at101 : L3Event → L3Message
at101 e = at 101 e

-- ---- calls

-- a state with what is lent to it, and a message
pub record Call : Type 0 where
  pub book : BookReconstructor
  pub memory : Memory
  pub list : List Segment
  pub message : L3Message

abbrev after : Call → Parts
after c = applied ceiling c.book c.memory c.list c.message

-- a state and rows, with E's list
abbrev given : BookReconstructor → Memory → L3Message → Call
given b mem m = record { book = b; memory = mem; list = segments_e; message = m }

abbrev on_e : L3Message → Call
on_e m = given book_e memory_e m

-- what one call left, with the next message
abbrev next : Call → L3Message → Call
next c m = record { book = (after c).book; memory = (after c).memory; list = (after c).segments; message = m }

-- what a snapshot left, with the next message
abbrev then : SnapshotParts → L3Message → Call
then p m = record { book = p.book; memory = p.memory; list = p.segments; message = m }

-- what a call was told
abbrev told_of : Call → Told
told_of c = answer_told (after c).answer

-- its number in the table: "Results 20 to 44 invalidate: the answer is 16 with the last good sequence, the offending one and the reason", so of 16 the third
-- value
abbrev number_of : Told → ℕ
number_of t = cond (eqb t.number 16) (get_or t.values 2 0) t.number

-- a change of A to a size
abbrev changed : ℕ → L3Event
changed n = Change a Buy Stp None None (Some (pos n)) None None None

abbrev opened : Call
opened = on_e (at101 (Open o Buy (pos 10) (pos 5)))

-- above last + 1, and at last
abbrev gap : Call
gap = on_e (at 102 (Received z Buy))

abbrev behind : Call
behind = on_e (at 100 (Received z Buy))

-- a row of 01's table: its number, and the example beside it
pub record Row : Type 0 where
  pub number : ℕ
  pub example : Call

abbrev row : ℕ → Call → Row
row n c = record { number = n; example = c }

abbrev table : List Row
table =
    row 1 (given (booted_book (fresh 4097 3) 100 2) memory_e (at101 (Received z Buy))) ∷
    row 2 (given book_e (memory (take 23 rows_e)) (at101 (Received z Buy))) ∷
    row 3 (given book_e (memory (set rows_e 2 0)) (at101 (Received z Buy))) ∷
    row 5 (on_e (at101 (Open o Buy (pos 1000000000000001) (pos 1)))) ∷
    row 10 (on_e (of product_q 101 (Open o Buy (pos 10) (pos 1)))) ∷
    row 15 (given (fresh 3 3) memory_e (at101 (Open o Buy (pos 10) (pos 1)))) ∷
    row 17 (next (on_e (at101 (Unsupported 7))) (at101 (Unsupported 7))) ∷
    row 20 gap ∷
    row 21 behind ∷
    row 22 (then (snapshot_at largest) (at 0 (Received z Buy))) ∷
    row 30 (on_e (at101 (Match z o Buy (pos 10) (pos 1)))) ∷
    row 31 (on_e (at101 (Match z a Buy (pos 10) (pos 1)))) ∷
    row 32 (on_e (at101 (Match a z Buy (pos 11) (pos 1)))) ∷
    row 33 (on_e (at101 (Match a z Buy (pos 10) (pos 3)))) ∷
    row 34 (on_e (at101 (Open a Buy (pos 10) (pos 1)))) ∷
    row 35 (on_e (at101 (Done a Buy None Filled None))) ∷
    row 36 (on_e (at101 (Done a Buy None Canceled None))) ∷
    row 37 (on_e (at101 (Done a Sell None Canceled (Some (pos 2))))) ∷
    row 38 (on_e (at101 (Change a Buy Stp None None None None None None))) ∷
    row 39 (on_e (at101 (Change a Buy Stp None (Some (pos 9)) (Some (pos 1)) None None None))) ∷
    row 40 (on_e (at101 (changed 3))) ∷
    row 41 (on_e (at101 (Open o Buy (pos 12) (pos 1)))) ∷
    row 42 (on_e (at101 (Open o Buy (pos 10) (pos 0)))) ∷
    row 43 (next opened (at 102 (Open (id 4) Buy (pos 10) (pos 1)))) ∷
    row 44 (on_e (at101 (Unsupported 7))) ∷
    []

-- ---- steps

-- a handshake for E's segment, that has ended or not, and one for another book's
abbrev handshake : ℕ → Bool → Handshake
handshake number ended = record { segment = record { number = number; place = 0 }; ended = ended; applied = 0 }

abbrev step_e : Handshake → L3Message → StepParts
step_e h m = stepped ceiling h book_e memory_e segments_e m

-- "step after 16": what the first step left, stepped again
abbrev again : StepParts → L3Message → StepParts
again p m = stepped ceiling p.handshake p.book p.memory p.segments m

-- 9, of a handshake that 16 ended, of one that is of another book; a message of before the snapshot is dropped, one of after it applied
abbrev steps : List StepAnswer
steps =
    (again (step_e (handshake 1 false) (at101 (Unsupported 7))) (at101 (Received z Buy))).answer ∷
    (step_e (handshake 2 false) (at101 (Received z Buy))).answer ∷
    (step_e (handshake 1 true) (at101 (Received z Buy))).answer ∷
    (step_e (handshake 1 false) (at 100 (Received z Buy))).answer ∷
    (step_e (handshake 1 false) (at101 (Received z Buy))).answer ∷
    []

-- ---- reads, on E and on what calls left

abbrev scratch : List ℕ
scratch = 5 ∷ 5 ∷ 5 ∷ []

abbrev own : BookReconstructor → Memory → OrderId → Result QueueEstimate QueueError
own b mem d = queue_estimate_own ceiling b mem d

-- the volume ahead that an estimate leads to
abbrev ahead_from : BookReconstructor → Memory → Result QueueEstimate QueueError → List ℕ → Result QueueAhead QueueError
ahead_from b mem (Ok q) l = volume_ahead ceiling b mem q l
ahead_from b mem (Err e) l = Err e

-- a hypothetical order's estimate on E, with the order ahead in its list
abbrev guess : EstimateParts
guess = queue_estimate ceiling book_e memory_e Buy (pos 10) (replicate 3 7)

-- a new snapshot of A and B, on a state and its memory
abbrev renewed : BookReconstructor → Memory → List Segment → SnapshotParts
renewed b mem sg = bootstrapped ceiling b mem sg (piece product_p 200 (order_a ∷ []) (order_b ∷ []))

-- on E, and on what the open of C left
abbrev new_e : SnapshotParts
new_e = renewed book_e memory_e segments_e

abbrev new_opened : SnapshotParts
new_opened = renewed (after opened).book (after opened).memory (after opened).segments

-- 7, 8, 15, 18; 50 of either estimate; 51, 52
abbrev reads : List Told
reads =
    level_told (level_queue ceiling book_e memory_e scratch Buy (pos 10) []).answer ∷
    ahead_told (ahead_from book_e memory_e guess.answer (take 2 guess.ahead)) ∷
    level_told (l2 ceiling (fresh 3 3) memory_e scratch Buy []).answer ∷
    audited_told (audit_read ceiling (after gap).book (after gap).memory) ∷
    ahead_told (ahead_from new_e.book new_e.memory guess.answer guess.ahead) ∷
    ahead_told (ahead_from new_opened.book new_opened.memory (own (after opened).book (after opened).memory o) []) ∷
    estimate_told (own book_e memory_e a) ∷
    estimate_told (own book_e memory_e z) ∷
    []

-- ---- C1, C2, C3

abbrev matched : Call
matched = next opened (at 102 (Match a z Buy (pos 10) (pos 2)))

abbrev canceled : Call
canceled = on_e (at101 (Done z Buy None Canceled None))

-- an own order's figure: when it was read, the volume ahead, all of it from the snapshot, and the number of orders
abbrev figure : ℕ → ℕ → ℕ → QueueAhead
figure at volume orders =
    record {
      at_seq = at;
      volume = volume;
      from_snapshot = volume;
      observed = 0;
      orders = orders;
      first_assumption = EntrySequenceIsPriority;
      keeps_priority = false;
    }

pub record Stars : Type 0 where
  -- every example of the table gives its number: of messages, of snapshots, of steps, of reads
  pub numbers : map (λ (r : Row). number_of (told_of r.example)) table ≡ map (λ (r : Row). r.number) table
  -- 17 and 18 carry what 16 does
  pub skipped : told_of (next gap (at 103 (Received z Buy))) ≡ told 17 (100 ∷ 102 ∷ 20 ∷ 101 ∷ 102 ∷ 0 ∷ [])
  pub unread : audited_told (audit_read ceiling (after gap).book (after gap).memory) ≡ told 18 (100 ∷ 102 ∷ 20 ∷ 101 ∷ 102 ∷ 0 ∷ [])
  -- 16 "with the last good sequence, the offending one and the reason": of 20 what was expected and what came, of 21 the last one and what came
  pub gap : told_of gap ≡ told 16 (100 ∷ 102 ∷ 20 ∷ 101 ∷ 102 ∷ 0 ∷ [])
  pub behind : told_of behind ≡ told 16 (100 ∷ 100 ∷ 21 ∷ 100 ∷ 100 ∷ 0 ∷ [])
  pub snapshots : Examples
  -- 9 three times; a drop, and a message without effect
  pub steps : map (λ (a : StepAnswer). (step_told a).number) steps ≡ 9 ∷ 9 ∷ 9 ∷ 512 ∷ 0 ∷ []
  pub reads : map (λ (t : Told). t.number) reads ≡ 7 ∷ 8 ∷ 15 ∷ 18 ∷ 50 ∷ 50 ∷ 51 ∷ 52 ∷ []
  -- C1: "E, open C buy 10 size 5 at 101: own estimate of C gives volume 2, from snapshot 2, observed 0, orders 1"
  pub c1 : ahead_from (after opened).book (after opened).memory (own (after opened).book (after opened).memory o) [] ≡ Ok (figure 101 2 1)
  -- C2: "E, open C buy 10 size 5 at 101 .. then match A size 2 at 102, taker Z: level 10 totals 5"
  pub c2 : volume Buy 10 (line_in (after matched).memory (after matched).book.rows) ≡ 5
  -- "C has 0 ahead", by the estimate that was made before the match
  pub c2-ahead : ahead_from (after matched).book (after matched).memory (own (after opened).book (after opened).memory o) [] ≡ Ok (figure 102 0 0)
  -- and the words: B and C move down, the freed row is zeroed, the word past it is untouched, the segment is good to 102
  pub c2-rows : (after matched).memory.rows ≡ 0 ∷ 2 ∷ 12 ∷ 3 ∷ 1 ∷ 100 ∷ 0 ∷ 0 ∷ 0 ∷ 3 ∷ 10 ∷ 5 ∷ 2 ∷ 101 ∷ 0 ∷ 0 ∷ 0 ∷ 0 ∷ 0 ∷ 0 ∷ 0 ∷ 0 ∷ 0 ∷ 0 ∷ 7 ∷ []
  pub c2-list : (after matched).segments ≡ segment 100 102 0 0 0 0 5 5 ∷ any_record ∷ []
  -- C3: "done canceled for Z at 101 changes no row, yet 101 is applied"
  pub c3-rows : (after canceled).memory.rows ≡ rows_e
  pub c3-applied : (after canceled).book.status ≡ Valid 101
