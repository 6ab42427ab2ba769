-- Against emptiness: a worked list of calls, with refusals, a re-sent message dropped in a handshake, an invalidation and a recovery, and what it comes to.
-- Assumes nothing.
use Rattle.std.specs.Prelude.{Ok}
use Prim.Native.Nat.{ℕ}
use mathlib.Core.Path.{◌≡◌, refl}
use mathlib.Core.Bool.{false}
use mathlib.Core.List.{List, [], ◌∷◌, ◌++◌}
use native.Mathlib.Omega.{arith}
use lib.IntN.{pos}
use lib.ListN.{length, replicate}
use Rattle.message.specs.declared.OrderId.{OrderId}
use Rattle.message.specs.declared.ProductId.{ProductId}
use Rattle.message.specs.declared.SnapshotOrder.{SnapshotOrder}
use Rattle.message.specs.declared.L3Side.TheVariants.{Buy}
use Rattle.message.specs.declared.L3Event.{L3Event}
use Rattle.message.specs.declared.L3Event.TheVariants.{Open, Match}
use Rattle.message.specs.declared.L3Message.{L3Message}
use Rattle.message.specs.Values.{in_range, optional_in_range, event_in_range, order_in_range, orders_in_range}
use Rattle.message.specs.Same.{same_id, same_product}
use Rattle.message.specs.Amounts.{differs, given_differs, absent_or_differs}
use Rattle.piece.specs.Bytes.{part, little, big, little_bytes, big_bytes}
use Rattle.piece.specs.Piece.{read_snapshot, snapshot_shaped, snapshot_of, bids_at, asks_at, orders_from, order_at, order_from, amount_at, word_at, order_id_at, product_id_at}
use Rattle.piece.specs.Encode.{snapshot_bytes}
use Rattle.book.specs.Rows.{rows_from, stored, side_of}
use Rattle.book.specs.Memory.{Memory, memory, extent_of}
use Rattle.book.specs.Broken.{row_broken}
use Rattle.reconstructor_counts.specs.Counts.{saturated}
use Rattle.reconstructor_segments.specs.declared.Segment.{Segment}
use Rattle.reconstructor_state.specs.Checks.{check, first}
use Rattle.reconstructor_state.specs.State.{ceiling, Lengths, limited_rules}
use Rattle.reconstructor_checks.specs.StateChecks.{broken, state_refusal}
use Rattle.reconstructor_plan.specs.Rules.{open_refusal, maker_refusal, event_refusal, effect, counter_of, event_deed}
use Rattle.reconstructor.specs.Refusals.{admit_refusal, gate_refusal, turn_refusal}
use Rattle.reconstructor.specs.Applied.{refused_reply, invalidated_reply, accepted_reply, accepted as accepted_core, decided, after_gate, applied_to, applied}
use Rattle.reconstructor_bootstrap.specs.Snapshot.{line_refusal, snapshot_refusal, accept_refusal, boot_refusal}
use Rattle.reconstructor_bootstrap.specs.Bootstrap.{bootstrapped_to, bootstrapped, closed}
use Rattle.reconstructor_handshake.specs.declared.Handshake.{Handshake}
use Rattle.reconstructor_handshake.specs.Step.{step_refusal, unless_refused, stepped_to, stepped}
use Rattle.reconstructor_view.specs.ValueReads.{view_refusal, read_refusal}
use Rattle.reconstructor_reads.specs.LevelReads.{shown, level_read, level_queue, stale_read, stale_l2}
use Rattle.ledger.specs.Ledger.{Config, Call, bootstrap, apply, step, read, level_queue as ask_queue, fresh, outcome_of, apply_outcome, step_outcome_of, step_outcome, tally, feed_view, feed_figure, feed_all}
use Rattle.ledger.specs.World.{perform, run, lent_memory, Lendable, fresh_world, volume_at}
use Rattle.ledger.specs.Kept.{kept_after, kept}
use Rattle.ledger.specs.Sum.{standing_at, valid, invalid, SumRule}
use Rattle.ledger.proofs.Sum.{sum-rule}

-- ---- a book of product P, limits 3 and 3, number 1; 26 words of rows and two segment records, all with something in them

abbrev product : ProductId
product = record { high = 80; low = 0 }

abbrev config : Config
config = record { product = product; rules = limited_rules 3 3; number = 1 }

abbrev words : Memory
words = memory (7 ∷ 7 ∷ 7 ∷ 7 ∷ 7 ∷ 7 ∷ 7 ∷ 7 ∷ 7 ∷ 7 ∷ 7 ∷ 7 ∷ 7 ∷ 7 ∷ 7 ∷ 7 ∷ 7 ∷ 7 ∷ 7 ∷ 7 ∷ 7 ∷ 7 ∷ 7 ∷ 7 ∷ 7 ∷ 7 ∷ [])

abbrev any_record : Segment
any_record =
    record {
      start_seq = 9;
      last_good_seq = 9;
      end = 9;
      end_good = 9;
      end_seq = 9;
      end_detail = 9;
      first_us = 9;
      last_us = 9;
    }

abbrev records : List Segment
records = any_record ∷ any_record ∷ []

abbrev id : ℕ → OrderId
id k = record { high = 0; low = k }

abbrev order : ℕ → ℕ → ℕ → SnapshotOrder
order k price size = record { order_id = id k; price = pos price; size = pos size }

abbrev snapshot : ℕ → List SnapshotOrder → List SnapshotOrder → List ℕ
snapshot seq bids asks = snapshot_bytes (record { product_id = product; sequence = seq; bids = bids; asks = asks })

abbrev at : ℕ → L3Event → L3Message
at seq e = record { product_id = product; sequence = seq; time_us = seq; event = e }

abbrev lent : ℕ → ℕ → Lengths
lent r s = record { memory = record { rows = r }; segments = s }

abbrev handshake : Handshake
handshake = record { segment = record { number = 1; place = 0 }; ended = false; applied = 0 }

-- C opens at 101; A is matched for 1 at 201
abbrev opened : L3Message
opened = at 101 (Open (id 3) Buy (pos 10) (pos 5))

abbrev matched : L3Message
matched = at 201 (Match (id 1) (id 26) Buy (pos 10) (pos 1))

-- up to the message that makes the book invalid
abbrev before : List Call
before =
    -- 15: no snapshot yet
    apply (lent 24 2) opened ∷
    -- 2: one word of rows too few; then it is taken
    bootstrap (lent 23 2) (snapshot 100 (order 1 10 2 ∷ []) (order 2 12 3 ∷ [])) ∷
    bootstrap (lent 24 2) (snapshot 100 (order 1 10 2 ∷ []) (order 2 12 3 ∷ [])) ∷
    -- re-sent from before the snapshot: dropped
    step (lent 24 2) handshake (at 100 (Open (id 3) Buy (pos 10) (pos 5))) ∷
    step (lent 24 2) handshake opened ∷
    read (ask_queue (lent 24 2).memory 3 Buy (pos 10) 10) ∷
    []

abbrev after : List Call
after =
    -- the same message again: 21
    step (lent 26 2) handshake opened ∷
    read (ask_queue (lent 24 2).memory 3 Buy (pos 10) 10) ∷
    -- 6: no room for a record; 17
    bootstrap (lent 24 1) (snapshot 200 (order 1 10 4 ∷ []) []) ∷
    apply (lent 24 2) matched ∷
    []

abbrev recovered : List Call
recovered = bootstrap (lent 24 2) (snapshot 200 (order 1 10 4 ∷ []) []) ∷ apply (lent 25 2) matched ∷ []

pub record Worked : Type 0 where
  -- the premise is met
  lendable : Lendable (extent_of words) (length records) (before ++ (after ++ recovered))
  -- A's 2 and C's 5
  before-volume : volume_at Buy 10 (run ceiling (fresh_world config words records) before) ≡ 7
  before-standing : standing_at (run ceiling (fresh_world config words records) before) ≡ valid
  -- stale, and the same
  after-volume : volume_at Buy 10 (run ceiling (fresh_world config words records) (before ++ after)) ≡ 7
  after-standing : standing_at (run ceiling (fresh_world config words records) (before ++ after)) ≡ invalid
  -- A's 4, less 1
  end-volume : volume_at Buy 10 (run ceiling (fresh_world config words records) (before ++ (after ++ recovered))) ≡ 3
  end-figure : (feed_all ceiling config fresh (before ++ (after ++ recovered))).figure Buy 10 ≡ 3
  -- a read of the one and a stale read of the other say so; another read of it is turned away
  before-read : (level_queue ceiling (run ceiling (fresh_world config words records) before).book (lent_memory (lent 24 2) (run ceiling (fresh_world config words records) before)) (5 ∷ 5 ∷ 5 ∷ []) Buy (pos 10) (replicate 10 4)).answer ≡ Ok 2
  after-stale : (stale_l2 ceiling (run ceiling (fresh_world config words records) (before ++ after)).book (lent_memory (lent 24 2) (run ceiling (fresh_world config words records) (before ++ after))) (5 ∷ 5 ∷ 5 ∷ []) Buy (replicate 3 4)).out ≡ 10 ∷ 7 ∷ 4 ∷ []
  -- what counts
  counts : kept ceiling config (before ++ (after ++ recovered)) ≡ recovered
  rule : SumRule ceiling config words records (before ++ (after ++ recovered))

fits : Lendable (extent_of words) 2 (before ++ (after ++ recovered))
fits = ((omega arith, omega arith), ((omega arith, omega arith), ((omega arith, omega arith), ((omega arith, omega arith), ((omega arith, omega arith), ((omega arith, omega arith), ((omega arith, omega arith), ((omega arith, omega arith), ((omega arith, omega arith), ((omega arith, omega arith), tt))))))))))

pub worked : Worked
unfolding perform applied applied_to stepped stepped_to unless_refused step_refusal bootstrapped bootstrapped_to after_gate decided accepted_core accepted_reply invalidated_reply refused_reply turn_refusal gate_refusal admit_refusal state_refusal broken event_deed counter_of effect event_refusal maker_refusal open_refusal check first saturated rows_from stored side_of row_broken in_range optional_in_range event_in_range differs given_differs absent_or_differs same_id same_product closed boot_refusal accept_refusal snapshot_refusal line_refusal read_snapshot snapshot_shaped snapshot_of bids_at asks_at orders_from order_at order_from amount_at word_at order_id_at product_id_at part little big little_bytes big_bytes order_in_range orders_in_range view_refusal read_refusal level_read stale_read shown feed_view feed_figure tally apply_outcome outcome_of step_outcome step_outcome_of kept_after
worked =
    record {
      lendable = fits;
      before-volume = refl;
      before-standing = refl;
      after-volume = refl;
      after-standing = refl;
      end-volume = refl;
      before-read = refl;
      after-stale = refl;
      end-figure = refl;
      counts = refl;
      rule = sum-rule ceiling (omega arith) config words records (before ++ (after ++ recovered)) fits;
    }
