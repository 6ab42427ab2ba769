-- What is foreseen of the message tells the index beforehand, so that `apply_indexed` may go by it; what the message did is noted in it afterwards.
use native.Mathlib.Omega.{arith}
use Rattle.book.specs.Rows.{most_rows}
use Rattle.book.specs.Memory.{memory}
use Rattle.reconstructor_checks.proofs.StateChecks.{rows-ready}
use Rattle.reconstructor.proofs.Laws.{trusted-ready}
use Rattle.reconstructor_apply_run.proofs.Runs.{foreseen, noted_indexed}
use Rattle.reconstructor_apply_run.proofs.apply_in_run.Goals as goal

pub invariant_of-lent : goal.invariant_of-lent
invariant_of-lent c = record { lent = rows-ready most_rows c.args.book (memory c.args.rows.now) (omega arith) c.requires.trusted }

pub foresee-next-requires : goal.foresee-next-requires
foresee-next-requires c = c.requires.indexed.within

pub apply_indexed-work-requires : goal.apply_indexed-work-requires
apply_indexed-work-requires c = record { ready = trusted-ready c.args.book (memory c.args.rows.now) c.requires.trusted; indexed = foreseen _ _ _ _ c.requires.indexed c.foresee-next.ensures.0 }

pub note-requires : goal.note-requires
note-requires c = (c.requires.indexed.few, (rows-ready most_rows c.args.book (memory c.args.rows.now) (omega arith) c.requires.trusted).few)

pub returns : goal.returns
returns c =
    let a = c.args in
    record { applies = c.apply_indexed-work.ensures; indexes = noted_indexed a.book a.rows.now _ a.places.now _ a.last a.message c.foresee-next.result c.apply_indexed-work.result c.requires.trusted (foreseen _ _ _ _ c.requires.indexed c.foresee-next.ensures.0) c.foresee-next.ensures.1 c.apply_indexed-work.ensures c.note.ensures c.note.auto.places }
