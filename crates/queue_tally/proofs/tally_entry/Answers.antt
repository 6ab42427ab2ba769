use mathlib.Core.Path.{sym, ◌∙◌}
use Rattle.book.specs.Rows.{rows_of}
use Rattle.queue.specs.Ahead.{row_with}
use Rattle.queue.proofs.Ahead.{size_most, with-sound, entered-some}
use Rattle.queue_tally.proofs.tally_entry.Goals as goal

pub tally_with-requires : goal.tally_with-requires
tally_with-requires c = let w = sym c.resting_since.ensures ∙ c.in-Some.is in (size_most _ (with-sound c.args.id (rows_of c.args.sound.rows.words.now c.args.sound.rows.count) _ c.args.sound.sound (entered-some c.args.entered_at (row_with c.args.id (rows_of c.args.sound.rows.words.now c.args.sound.rows.count)) _ w)), c.requires)
