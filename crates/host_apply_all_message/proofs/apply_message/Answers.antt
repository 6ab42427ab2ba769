-- A usable state passes 1, 2 and 3, so work that trusts it is the work of `apply_call` (`applies`). It stays usable, and `apply_in_run` leaves an index of the
-- rows (`runs_on`).
use Rattle.host_apply_all_message.proofs.Message.{loaded, applies, runs_on}
use Rattle.host_apply_all_message.proofs.apply_message.Goals as goal

pub apply_in_run-run-requires : goal.apply_in_run-run-requires
apply_in_run-run-requires c =
    let a = c.args in
    let l = loaded a.state.now a.rows.now a.segments.now a.places.now a.bounds.now c.load_book-book.result c.load_book-book.ensures c.requires.runs_2 in
    record { trusted = l.0; indexed = l.1 }

pub store_book-requires : goal.store_book-requires
store_book-requires c = c.requires.runs_2.whole

pub returns : goal.returns
returns c =
    let a = c.args in
    let runs = c.requires.runs_2 in
    let st = a.state.now in
    let ws = a.rows.now in
    let sg = a.segments.now in
    let w = c.apply_in_run-run in
    let at = rw c.load_book-book.ensures at c.last_record-last.ensures in
    let e = rw (c.load_book-book.ensures, c.load_message-message.ensures) at w.ensures.applies in
    let eg = rw c.load_book-book.ensures at c.rewrite_record.ensures in
    let eu = rw c.sets_status.ensures at c.store_book.ensures in
    record {
      applies = rw c.answer_number.ensures (applies st ws sg a.message.now w.result.work _ _ _ _ at e eg eu runs.whole runs.book runs.usable c.requires.message_words_in_bounds c.requires.message_value);
      runs = runs_on st ws sg a.message.now w.result.work _ _ _ _ at e eg eu runs.whole runs.book runs.usable _ w.result.bounds c.store_book.auto.words c.rewrite_record.auto.words w.ensures.indexes;
    }
