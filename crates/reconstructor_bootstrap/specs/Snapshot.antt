-- The rules of a snapshot. 01, bootstrap: "Checks 1, 2, 3, 4, 5, 6, 10, 14 (orders), then each bid and then each ask in turn: 11, 12, 14 (levels);
-- last 13."
use Rattle.std.specs.Prelude.{ℕ, ◌+◌, Bool, not, ◌||◌, ◌&&◌, List, [], ◌∷◌, ◌++◌, map, eqb, ltb, leb, Option, Some, None, Result, Ok, Err}
use Rattle.message.specs.declared.L3Side.{L3Side}
use Rattle.message.specs.declared.L3Side.TheVariants.{Buy, Sell}
use Rattle.message.specs.declared.ProductId.{ProductId}
use Rattle.message.specs.declared.SnapshotOrder.{SnapshotOrder}
use Rattle.message.specs.declared.L3Snapshot.{L3Snapshot}
use Rattle.piece.specs.declared.PieceError.{PieceError}
use Rattle.piece.specs.declared.PieceError.TheVariants as pieces
use Rattle.message.specs.Same.{same_product}
use Rattle.message.specs.Amounts.{nat_of}
use Rattle.piece.specs.Piece.{orders_from, read_snapshot}
use Rattle.book.specs.Line.{Entry, rests, has_level, levels, crossed}
use Rattle.reconstructor_state.specs.declared.VenueRules.{VenueRules}
use Rattle.reconstructor_state.specs.Checks.{check, first}
use Rattle.reconstructor_state.specs.State.{View, Lengths}
use Rattle.reconstructor_checks.specs.StateChecks.{state_refusal}
use Rattle.reconstructor_bootstrap.specs.declared.SnapshotError.{SnapshotError}
use Rattle.reconstructor_bootstrap.specs.declared.SnapshotError.TheVariants.{WrongProduct, DuplicateId, InvalidValue, Crossed, CapacityExceeded}
use Rattle.reconstructor_bootstrap.specs.declared.BootstrapError.{BootstrapError}
use Rattle.reconstructor_bootstrap.specs.declared.BootstrapError.TheVariants.{Unusable, NotAPiece, AmountOutOfRange, ListFull, Rejected}

-- ---- the line of a snapshot

abbrev pub listed : L3Side → SnapshotOrder → Entry
listed s o = record { id = o.order_id; side = s; price = nat_of o.price; remaining = nat_of o.size }

-- 01, The ledger: "a snapshot's bids, then asks, are the line"
abbrev pub snapshot_line : L3Snapshot → List ℕ → List Entry
snapshot_line s bytes =
    map (listed Buy) (orders_from bytes 0 s.bids) ++ map (listed Sell) (orders_from bytes s.bids s.asks)

-- ---- 10 to 14

-- 12: "snapshot price or size ≤ 0"
abbrev pub not_positive : Entry → Bool
not_positive e = eqb e.price 0 || eqb e.remaining 0

-- 14, of levels: the order's level, a side and a price, is new, and the orders before it have as many levels as the limit
abbrev pub no_room : ℕ → List Entry → Entry → Bool
no_room max_levels before e = not (has_level e.side e.price before) && leb max_levels (levels before)

-- "then each bid and then each ask in turn: 11, 12, 14 (levels)", and then what `last` says
abbrev pub in_turn : ℕ → List Entry → List Entry → Option SnapshotError → Option SnapshotError
in_turn max_levels before [] last = last
in_turn max_levels before (e ∷ es) last =
    check (rests e.id before) DuplicateId
    (check (not_positive e) InvalidValue
    (check (no_room max_levels before e) CapacityExceeded
    (in_turn max_levels (before ++ (e ∷ [])) es last)))

-- 11 to 14 of the orders; "last 13": "snapshot bid ≥ ask"
unfoldable pub line_refusal : ℕ → List Entry → Option SnapshotError
line_refusal max_levels line = in_turn max_levels [] line (check (crossed line) Crossed None)

-- 10: "other product"; 14, of orders: "snapshot above a limit"; then the orders
unfoldable pub snapshot_refusal : ProductId → VenueRules → L3Snapshot → List Entry → Option SnapshotError
snapshot_refusal product v s line =
    check (not (same_product s.product_id product)) WrongProduct
    (check (ltb v.max_orders (s.bids + s.asks)) CapacityExceeded (line_refusal v.max_levels line))

-- ---- 1 to 14

-- 4 and 5, said by the reader
abbrev pub piece_error : PieceError → BootstrapError
piece_error pieces.NotAPiece = NotAPiece
piece_error pieces.OutOfRange = AmountOutOfRange

-- 6: "list length equals its count"; then 10 to 14
unfoldable pub accept_refusal : ProductId → VenueRules → Lengths → View → L3Snapshot → List Entry → Option BootstrapError
accept_refusal product v lent w s line =
    check (eqb lent.segments w.segments) ListFull (first (snapshot_refusal product v s line) Rejected None)

abbrev pub piece_refusal : ProductId → VenueRules → Lengths → View → Result L3Snapshot PieceError → List ℕ → Option BootstrapError
piece_refusal product v lent w (Err e) bytes = Some (piece_error e)
piece_refusal product v lent w (Ok s) bytes = accept_refusal product v lent w s (snapshot_line s bytes)

-- all of them, over a view; `three` says whether number 3 arises
unfoldable pub boot_refusal : ℕ → ProductId → VenueRules → Lengths → Bool → View → List ℕ → Option BootstrapError
boot_refusal top product v lent three w bytes =
    first (state_refusal top v lent three w.segments) Unusable (piece_refusal product v lent w (read_snapshot bytes) bytes)
