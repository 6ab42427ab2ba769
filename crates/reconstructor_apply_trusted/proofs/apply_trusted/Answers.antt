use Rattle.book.specs.Rows.{rows_of}
use Rattle.book.specs.Memory.{memory}
use Rattle.book_index.proofs.Index.{unindexed}
use Rattle.reconstructor_checks.proofs.StateChecks.{sound}
use Rattle.reconstructor.proofs.Laws.{trusted-ready}
use Rattle.reconstructor_apply_trusted.proofs.apply_trusted.Goals as goal

pub apply_indexed-requires : goal.apply_indexed-requires
apply_indexed-requires c =
    let a = c.args in
    record { ready = trusted-ready a.book (memory a.rows.now) c.requires; indexed = unindexed (rows_of a.rows.now a.book.rows) (sound a.book (memory a.rows.now) c.requires.sound).formed.single }
