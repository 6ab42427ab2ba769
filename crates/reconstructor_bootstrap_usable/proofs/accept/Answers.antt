use mathlib.Core.Path.{refl, sym, ap, ◌∙◌}
use mathlib.Core.List.{map}
use Rattle.book.specs.Rows.{stored, snapshot_row}
use Rattle.book.specs.Memory.{memory}
use Rattle.reconstructor_bootstrap.specs.Bootstrap.{booted_book}
use Rattle.reconstructor_bootstrap.proofs.Places.{line-places}
use Rattle.reconstructor_bootstrap.proofs.Whole.{booted_path, length-snapshot}
use Rattle.reconstructor_bootstrap_usable.proofs.accept.Goals as goal

pub returns : goal.returns
returns c =
    let a = c.args in
    booted_path refl (c.booted_book-next.ensures ∙ ap (booted_book a.book a.snapshot.sequence) (sym (length-snapshot a.snapshot a.bytes.now)))
    (ap memory (c.store_rows.ensures ∙ ap (λ l. stored a.rows.now a.book.rows (map (snapshot_row a.snapshot.sequence) l)) (sym (line-places a.snapshot a.bytes.now))))
    c.close_last-segment.ensures refl c.started-started.ensures
