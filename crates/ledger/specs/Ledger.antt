-- The ledger. 01: "It is fed the book's product, rules and number, then each call's arguments (a handshake value too), but nothing of the state, of lent memory only
-- the lengths, and no answers. It works the rules above on its own standing (no snapshot, valid or invalid), start_seq, last sequence, number of snapshots and
-- line of orders (id, side, price, remaining), with a figure for each side and price, all empty at first; 3 never arises here."
use Rattle.std.specs.Prelude.{ℕ, ◌+◌, ◌-◌, Bool, false, cond, List, [], ◌∷◌, ℤ, Option, Some, None, Result, Ok, Err}
use Rattle.message.specs.declared.L3Side.{L3Side}
use Rattle.message.specs.declared.OrderId.{OrderId}
use Rattle.message.specs.declared.ProductId.{ProductId}
use Rattle.message.specs.declared.L3Event.{L3Event}
use Rattle.message.specs.declared.L3Event.TheVariants.{Received, Open, Done, Match, Change, Unsupported}
use Rattle.message.specs.declared.L3Message.{L3Message}
use Rattle.message.specs.declared.L3Snapshot.{L3Snapshot}
use Rattle.message.specs.Amounts.{nat_of}
use Rattle.piece.specs.Piece.{read_snapshot}
use Rattle.book.specs.Line.{Entry, find, same_level}
use Rattle.book.specs.Memory.{Extent, snapshot, line_by}
use Rattle.reconstructor_answers.specs.declared.InvalidationKind.{InvalidationKind}
use Rattle.reconstructor_segments.specs.declared.SegmentName.{SegmentName}
use Rattle.reconstructor_state.specs.declared.Status.TheVariants as statuses
use Rattle.reconstructor_state.specs.declared.VenueRules.{VenueRules}
use Rattle.reconstructor_state.specs.State.{View, Lengths, last_of}
use Rattle.reconstructor_plan.specs.Rules.{size_given, effect}
use Rattle.reconstructor.specs.Refusals.{gate_refusal, turn_refusal}
use Rattle.reconstructor.specs.Applied.{invalidation}
use Rattle.reconstructor_bootstrap.specs.declared.BootstrapError.{BootstrapError}
use Rattle.reconstructor_bootstrap.specs.Snapshot.{snapshot_line, boot_refusal}
use Rattle.reconstructor_handshake.specs.declared.Handshake.{Handshake}
use Rattle.reconstructor_handshake.specs.declared.StepAnswer.{StepAnswer}
use Rattle.reconstructor_handshake.specs.Step.{step_refusal}
use Rattle.reconstructor_handshake_rules.specs.Drops.{drops}
use Rattle.queue.specs.declared.QueueEstimate.{QueueEstimate}
use Rattle.piece.specs.declared.PieceError.{PieceError}

-- ---- what it is fed

-- "the book's product, rules and number"
pub record Config : Type 0 where
  pub product : ProductId
  pub rules : VenueRules
  pub number : ℕ

-- the reads: how much of the memory each is lent, words of scratch where it takes some, what is asked, and words of output
pub data Read : Type 0 where
  last_sequence : Extent → Read
  best : Extent → Read
  audit : Extent → Read
  level_queue : Extent → ℕ → L3Side → ℤ → ℕ → Read
  priority_profile : Extent → ℕ → L3Side → ℕ → Read
  l2 : Extent → ℕ → L3Side → ℕ → Read
  stale_l2 : Extent → ℕ → L3Side → ℕ → Read
  queue_estimate : Extent → L3Side → ℤ → ℕ → Read
  queue_estimate_own : Extent → OrderId → Read
  volume_ahead : Extent → QueueEstimate → ℕ → Read

-- "then each call's arguments (a handshake value too) .. of lent memory only the lengths": every public call of 01
pub data Call : Type 0 where
  bootstrap : Lengths → List ℕ → Call
  apply : Lengths → L3Message → Call
  step : Lengths → Handshake → L3Message → Call
  read : Read → Call

-- ---- what it holds

abbrev pub Figure : Type 0
Figure = L3Side → ℕ → ℕ

pub record Ledger : Type 0 where
  pub view : View
  pub figure : Figure

-- "all empty at first"
abbrev pub blank : View
blank = record { status = statuses.Empty; start_seq = 0; segments = 0; line = [] }

abbrev pub nought : Figure
nought = λ s p. 0

abbrev pub fresh : Ledger
fresh = record { view = blank; figure = nought }

-- ---- what becomes of a message

pub data Outcome : Type 0 where
  refused : Outcome
  invalidates : InvalidationKind → Outcome
  dropped : Outcome
  accepted : Outcome

-- by why it is turned away before its turn, and at its turn
unfoldable pub outcome_of : {A : Type 0} → Option A → Option InvalidationKind → Outcome
outcome_of (Some a) t = refused
outcome_of None (Some k) = invalidates k
outcome_of None None = accepted

-- "A snapshot or message is accepted if, worked in the order above, it meets no number and isn't dropped"; `three` is false here,
-- and `top`, the ceiling of the limits, is an argument of all that goes by it
unfoldable pub apply_outcome : ℕ → Config → Lengths → Bool → View → L3Message → Outcome
apply_outcome top c n three w m =
    outcome_of (gate_refusal top c.product c.rules n three w m) (turn_refusal c.rules w.line (last_of w.status) m)

unfoldable pub step_outcome_of : Option StepAnswer → Bool → Outcome → Outcome
step_outcome_of (Some a) d o = refused
step_outcome_of None d o = cond d dropped o

abbrev pub name_of : Config → View → SegmentName
name_of c w = record { number = c.number; place = w.segments - 1 }

unfoldable pub step_outcome : ℕ → Config → Lengths → Bool → View → Handshake → L3Message → Outcome
step_outcome top c n three w h m =
    step_outcome_of (step_refusal top c.rules n three w (name_of c w) h m) (drops c.product w.start_seq m) (apply_outcome top c n three w m)

-- ---- the figures

-- x at a side and price, and nothing elsewhere
abbrev pub on : L3Side → ℕ → L3Side → ℕ → ℕ → ℕ
on s p s' p' x = cond (same_level s p s' p') x 0

abbrev pub plus : L3Side → ℕ → ℕ → Figure → Figure
plus s p x f = λ s' p'. f s' p' + on s p s' p' x

abbrev pub less : L3Side → ℕ → ℕ → Figure → Figure
less s p x f = λ s' p'. f s' p' - on s p s' p' x

abbrev pub less_of : Option Entry → (Entry → ℕ) → Figure → Figure
less_of None x f = f
less_of (Some e) x f = less e.side e.price (x e) f

-- "an open adds its size to its figure, a match takes its size off, a `canceled` done of an order in the line takes off what remains, a change of one what
-- remains less the new size"
unfoldable pub tally : VenueRules → List Entry → L3Event → Figure → Figure
tally v l (Received d s) f = f
tally v l (Open d s p q) f = plus s (nat_of p) (nat_of q) f
tally v l (Done d s p why r) f = less_of (find d l) (λ (e : Entry). e.remaining) f
tally v l (Match m t s p q) f = less s (nat_of p) (nat_of q) f
tally v l (Change d s why p old_size new_size old_price new_price funds) f = less_of (find d l) (λ (e : Entry). e.remaining - size_given new_size) f
tally v l (Unsupported k) f = f

-- "its sizes, summed, the figures"
abbrev pub tallied : List Entry → Figure → Figure
tallied [] f = f
tallied (e ∷ l) f = tallied l (plus e.side e.price e.remaining f)

-- ---- one call

-- "the line follows the rules. 20 to 44 make it invalid, no more. Any other refusal, read or drop: nothing"
abbrev pub view_by : VenueRules → L3Message → Outcome → View → View
view_by v m refused w = w
view_by v m (invalidates k) w =
    record {
      status = statuses.Invalidated (invalidation (last_of w.status) m.sequence k);
      start_seq = w.start_seq;
      segments = w.segments;
      line = w.line;
    }
view_by v m dropped w = w
view_by v m accepted w =
    record {
      status = statuses.Valid m.sequence;
      start_seq = w.start_seq;
      segments = w.segments;
      line = line_by (effect v w.line m.sequence m.event) w.line;
    }

abbrev pub figure_by : VenueRules → L3Message → Outcome → View → Figure → Figure
figure_by v m refused w f = f
figure_by v m (invalidates k) w f = f
figure_by v m dropped w f = f
figure_by v m accepted w f = tally v w.line m.event f

-- "Once accepted, a snapshot's bids, then asks, are the line"
abbrev pub snap_view : L3Snapshot → List ℕ → View → View
snap_view s bytes w =
    record {
      status = statuses.Valid s.sequence;
      start_seq = s.sequence;
      segments = w.segments + 1;
      line = line_by (snapshot s.sequence (snapshot_line s bytes)) w.line;
    }

abbrev pub view_boot : Option BootstrapError → Result L3Snapshot PieceError → List ℕ → View → View
view_boot (Some e) s bytes w = w
view_boot None (Err e) bytes w = w
view_boot None (Ok s) bytes w = snap_view s bytes w

abbrev pub figure_boot : Option BootstrapError → Result L3Snapshot PieceError → List ℕ → Figure → Figure
figure_boot (Some e) s bytes f = f
figure_boot None (Err e) bytes f = f
figure_boot None (Ok s) bytes f = tallied (snapshot_line s bytes) nought

module _ (top : ℕ) (c : Config) where
  abbrev pub boot_outcome : Lengths → View → List ℕ → Option BootstrapError
  boot_outcome n w bytes = boot_refusal top c.product c.rules n false w bytes

  unfoldable pub feed_view : View → Call → View
  feed_view w (bootstrap n bytes) = view_boot (boot_outcome n w bytes) (read_snapshot bytes) bytes w
  feed_view w (apply n m) = view_by c.rules m (apply_outcome top c n false w m) w
  feed_view w (step n h m) = view_by c.rules m (step_outcome top c n false w h m) w
  feed_view w (read q) = w

  unfoldable pub feed_figure : View → Call → Figure → Figure
  feed_figure w (bootstrap n bytes) f = figure_boot (boot_outcome n w bytes) (read_snapshot bytes) bytes f
  feed_figure w (apply n m) f = figure_by c.rules m (apply_outcome top c n false w m) w f
  feed_figure w (step n h m) f = figure_by c.rules m (step_outcome top c n false w h m) w f
  feed_figure w (read q) f = f

  abbrev pub feed : Ledger → Call → Ledger
  feed l k = record { view = feed_view l.view k; figure = feed_figure l.view k l.figure }

  abbrev pub feed_all : Ledger → List Call → Ledger
  feed_all l [] = l
  feed_all l (k ∷ ks) = feed_all (feed l k) ks
