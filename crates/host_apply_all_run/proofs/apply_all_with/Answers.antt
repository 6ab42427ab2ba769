-- A usable state lends its rows, so they can be marked and bounded. All rows marked, all within the bounds and all ids distinct is an index of them
-- (`runs-start`), which is what `apply_all_from` asks for besides what `Ready` has.
use native.Mathlib.Omega.{arith}
use Rattle.book.specs.Memory.{memory}
use Rattle.reconstructor_state.specs.State.{ceiling}
use Rattle.host_records.specs.Records.{records_in}
use Rattle.reconstructor_checks.proofs.StateChecks.{rows-ready, trusted}
use Rattle.host_apply_all_run.proofs.Runs.{runs-start}
use Rattle.host_apply_all_run.proofs.apply_all_with.Goals as goal

pub invariant_of-lent : goal.invariant_of-lent
invariant_of-lent g c =
    let a = c.args in
    let b = c.load_book in
    record { lent = rows-ready ceiling b.result (memory a.rows.now) (omega arith) (trusted ceiling b.result (memory a.rows.now) (records_in a.segments.now) (rw b.ensures c.requires.ready.usable)) }

pub apply_all_from-requires : goal.apply_all_from-requires
apply_all_from-requires g c =
    let a = c.args in
    let b = c.load_book in
    let k = c.mark_rows in
    record { runs = runs-start a.state.now a.rows.now a.segments.now _ _ b.result b.ensures c.requires.ready.whole c.requires.ready.book c.requires.ready.usable (omega (arith, k.auto.places, c.requires.places_in_bounds)) k.ensures c.bounds_of.ensures; messages_in_bounds = c.requires.ready.answered }
