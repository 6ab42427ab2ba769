-- The first loop keeps the first `i` rows those of the orders, the second the rows up to `k` those with blank ones behind, and both the words beyond as
-- they were. Blank rows are zeros, so the end is `stored`.
use Prim.Native.Nat.{◌≤◌, ◌-◌, max}
use mathlib.Core.List.{◌++◌}
use Rattle.reconstructor_bootstrap.specs.Places.{rows_at}
use Rattle.reconstructor_bootstrap.proofs.Filled.{Filled, blanks}
use Rattle.reconstructor_snapshot.proofs.store_rows.Given as goal

abbrev pub invariant-loop-i : goal.invariant-loop-i
invariant-loop-i l = (l.i ≤ l.n) × Filled l.initial.rows l.rows l.i (rows_at l.bids l.bytes l.i l.sequence)

abbrev pub invariant-loop-k : goal.invariant-loop-k
invariant-loop-k l = (l.n ≤ l.k) × (l.k ≤ max l.former l.n) × Filled l.initial.rows l.rows l.k (rows_at l.bids l.bytes l.n l.sequence ++ blanks (l.k - l.n))
