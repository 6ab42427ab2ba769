-- The rules of one message, over a line of orders: why it is refused, what it does, which counter it adds to. 01, One message, from the entry
-- down; "venue" is docs/venue-full-channel.md.
use Rattle.std.specs.Prelude.{ℕ, ◌-◌, Bool, true, false, not, ◌&&◌, ◌||◌, cond, List, leb, ltb, eqb, ℤ, length, Option, Some, None}
use Rattle.message.specs.declared.L3Side.{L3Side}
use Rattle.message.specs.declared.OrderId.{OrderId}
use Rattle.message.specs.declared.DoneReason.{DoneReason}
use Rattle.message.specs.declared.DoneReason.TheVariants.{Filled, Canceled}
use Rattle.message.specs.declared.ChangeReason.{ChangeReason}
use Rattle.message.specs.declared.ChangeReason.TheVariants.{Stp, ModifyOrder}
use Rattle.message.specs.declared.L3Event.{L3Event}
use Rattle.message.specs.declared.L3Event.TheVariants.{Received, Open, Done, Match, Change, Unsupported}
use Rattle.message.specs.Same.{same_side}
use Rattle.message.specs.Amounts.{nat_of, negative, differs, given_differs, absent_or_differs}
use Rattle.book.specs.Line.{Entry, find, rests, has_level, levels, would_cross}
use Rattle.book.specs.Memory.{Effect, keep, join, cut_to, snapshot}
use Rattle.reconstructor_state.specs.declared.VenueRules.{VenueRules}
use Rattle.reconstructor_counts.specs.declared.Counter.{Counter}
use Rattle.reconstructor_counts.specs.declared.Counter.TheVariants as counters
use Rattle.reconstructor_answers.specs.declared.Applied.{Applied}
use Rattle.reconstructor_answers.specs.declared.Applied.TheVariants.{BookChanged, NoBookEffect}
use Rattle.reconstructor_answers.specs.declared.MalformedReason.{MalformedReason}
use Rattle.reconstructor_answers.specs.declared.MalformedReason.TheVariants.{Funds, NoSize}
use Rattle.reconstructor_answers.specs.declared.Discrepancy.{Discrepancy}
use Rattle.reconstructor_answers.specs.declared.Discrepancy.TheVariants.{UnknownMaker, TakerResting, MatchMismatch, MatchExceedsRemaining, DuplicateOpen, MissingMatch, RemainingMismatch, DoneMismatch, MalformedChange, ChangeMismatch, UnsupportedModification, CrossedAfterApply, InvalidValue, CapacityExceeded, UnsupportedInput}
use Rattle.reconstructor_state.specs.Checks.{check}

-- ---- Open. Venue: "The part of a limit order that was not filled at once now rests on the book .. It joins the back of its price."

abbrev pub entry_for : OrderId → L3Side → ℕ → ℕ → Entry
entry_for d s p q = record { id = d; side = s; price = p; remaining = q }

-- "43 levels (only if the price has no level)"
abbrev pub no_room : VenueRules → List Entry → L3Side → ℕ → Bool
no_room v l s p = not (has_level s p l) && leb v.max_levels (levels l)

-- "Order of checks 34, 42 price, 42 size, 41, 43 orders, 43 levels"
unfoldable pub open_refusal : VenueRules → List Entry → OrderId → L3Side → ℕ → ℕ → Option Discrepancy
open_refusal v l d s p q =
    check (rests d l) DuplicateOpen
    (check (eqb p 0) InvalidValue
    (check (eqb q 0) InvalidValue
    (check (would_cross s p l) CrossedAfterApply
    (check (leb v.max_orders (length l)) CapacityExceeded
    (check (no_room v l s p) CapacityExceeded None)))))

-- ---- Done. Venue: "The order's life is over, whether it rested or not .. remaining_size is what went unfilled: 0 for `filled`."

-- "37 (side differs, or a given price differs)"
abbrev pub done_differs : Entry → L3Side → Option ℤ → Bool
done_differs e s p = not (same_side e.side s) || given_differs p e.price

abbrev pub is_filled : DoneReason → Bool
is_filled Filled = true
is_filled Canceled = false

-- "Id not resting: no effect .. Else 37; `filled` is 35; `canceled` is 36 if remaining is absent or differs"
unfoldable pub done_refusal : Option Entry → L3Side → Option ℤ → DoneReason → Option ℤ → Option Discrepancy
done_refusal None s p why r = None
done_refusal (Some e) s p why r =
    check (done_differs e s p) DoneMismatch
    (check (is_filled why) MissingMatch (check (absent_or_differs r e.remaining) RemainingMismatch None))

-- "else removed"
abbrev pub done_effect : OrderId → Option Entry → Effect
done_effect d None = keep
done_effect d (Some e) = cut_to d 0 None

-- "counts off_book_done"
abbrev pub done_counter : Option Entry → Counter
done_counter None = counters.OffBookDone
done_counter (Some e) = counters.Done

-- ---- Match. Venue: "A trade between a resting maker and an incoming taker. `side` is the maker's. The price is the maker's."

abbrev pub match_differs : Entry → L3Side → ℤ → Bool
match_differs e s p = not (same_side e.side s) || differs p e.price

-- "30, 32, 42, 33": what is left once the taker does not rest
unfoldable pub maker_refusal : Option Entry → L3Side → ℤ → ℕ → Option Discrepancy
maker_refusal None s p q = Some UnknownMaker
maker_refusal (Some e) s p q =
    check (match_differs e s p) MatchMismatch
    (check (eqb q 0) InvalidValue (check (ltb e.remaining q) MatchExceedsRemaining None))

-- "31" comes first
abbrev pub match_refusal : List Entry → OrderId → OrderId → L3Side → ℤ → ℕ → Option Discrepancy
match_refusal l m t s p q = check (rests t l) TakerResting (maker_refusal (find m l) s p q)

-- "the maker loses the size and leaves at zero .. A match never marks a decrease."
abbrev pub match_effect : OrderId → Option Entry → ℕ → Effect
match_effect d None q = keep
match_effect d (Some e) q = cut_to d (e.remaining - q) None

-- ---- Change. Venue: "Reason `STP` (self-trade prevention): size, or a market order's funds, only falls. Reason `modify_order`: a client changed
-- the price or the size of its order"

abbrev pub is_modify : ChangeReason → Bool
is_modify Stp = false
is_modify ModifyOrder = true

-- "39 (side, given price, old size or old price differs)"
abbrev pub change_differs : Entry → L3Side → Option ℤ → Option ℤ → Option ℤ → Bool
change_differs e s p old_size old_price =
    not (same_side e.side s) ||
    (given_differs p e.price || (given_differs old_size e.remaining || given_differs old_price e.price))

-- "38 .. (reason "funds" if new_funds is given, else "no size")"
abbrev pub reason_of : Option ℤ → MalformedReason
reason_of None = NoSize
reason_of (Some x) = Funds

-- "38 without new size ..; 42 negative; 40 larger"
unfoldable pub size_refusal : ℕ → Option ℤ → Option ℤ → Option Discrepancy
size_refusal left None funds = Some (MalformedChange (reason_of funds))
size_refusal left (Some x) funds =
    check (negative x) InvalidValue (check (ltb left (nat_of x)) UnsupportedModification None)

-- "Id not resting: no effect .. Else `modify_order` 40; 39; 40 (new price differs)"
unfoldable pub change_refusal : Option Entry → L3Side → ChangeReason → Option ℤ → Option ℤ → Option ℤ → Option ℤ → Option ℤ → Option ℤ → Option Discrepancy
change_refusal None s why p old_size new_size old_price new_price funds = None
change_refusal (Some e) s why p old_size new_size old_price new_price funds =
    check (is_modify why) UnsupportedModification
    (check (change_differs e s p old_size old_price) ChangeMismatch
    (check (given_differs new_price e.price) UnsupportedModification (size_refusal e.remaining new_size funds)))

abbrev pub size_given : Option ℤ → ℕ
size_given None = 0
size_given (Some x) = nat_of x

-- "equal counts noop_change; zero removes; smaller reduces and sets decreased_at", to its sequence
abbrev pub change_effect : ℕ → OrderId → Option Entry → ℕ → Effect
change_effect seq d None r = keep
change_effect seq d (Some e) r = cond (eqb r e.remaining) keep (cut_to d r (Some seq))

abbrev pub change_counter : Option Entry → ℕ → Counter
change_counter None r = counters.OffBookChange
change_counter (Some e) r = cond (eqb r e.remaining) counters.NoopChange counters.Stp

-- ---- any event. "Received has no effect but is counted and advances the sequence."; 44: "unsupported event"

unfoldable pub event_refusal : VenueRules → List Entry → L3Event → Option Discrepancy
event_refusal v l (Received d s) = None
event_refusal v l (Open d s p q) = open_refusal v l d s (nat_of p) (nat_of q)
event_refusal v l (Done d s p why r) = done_refusal (find d l) s p why r
event_refusal v l (Match m t s p q) = match_refusal l m t s p (nat_of q)
event_refusal v l (Change d s why p old_size new_size old_price new_price funds) =
    change_refusal (find d l) s why p old_size new_size old_price new_price funds
event_refusal v l (Unsupported k) = Some UnsupportedInput

-- what an accepted event does, at this sequence; an unsupported one never is accepted
unfoldable pub effect : VenueRules → List Entry → ℕ → L3Event → Effect
effect v l seq (Received d s) = keep
effect v l seq (Open d s p q) = join seq (entry_for d s (nat_of p) (nat_of q))
effect v l seq (Done d s p why r) = done_effect d (find d l)
effect v l seq (Match m t s p q) = match_effect m (find m l) (nat_of q)
effect v l seq (Change d s why p old_size new_size old_price new_price funds) = change_effect seq d (find d l) (size_given new_size)
effect v l seq (Unsupported k) = keep

-- which counter it adds to
unfoldable pub counter_of : VenueRules → List Entry → L3Event → Counter
counter_of v l (Received d s) = counters.Received
counter_of v l (Open d s p q) = counters.Open
counter_of v l (Done d s p why r) = done_counter (find d l)
counter_of v l (Match m t s p q) = counters.Matched
counter_of v l (Change d s why p old_size new_size old_price new_price funds) = change_counter (find d l) (size_given new_size)
counter_of v l (Unsupported k) = counters.Received

-- the Rust's Applied
abbrev pub answer_by : Effect → Applied
answer_by keep = NoBookEffect
answer_by (join seq e) = BookChanged
answer_by (cut_to d r mark) = BookChanged
answer_by (snapshot seq es) = BookChanged

-- what an accepted event does, and where it is counted
pub record Deed : Type 0 where
  pub effect : Effect
  pub counter : Counter

unfoldable pub event_deed : VenueRules → List Entry → ℕ → L3Event → Deed
event_deed v l seq e = record { effect = effect v l seq e; counter = counter_of v l e }
