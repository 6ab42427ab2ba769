-- The loop keeps what the whole run comes to: the answers written, then the run of the messages left on the words as they are now. A turn moves one call
-- from that run to the answers, since `apply_next` is `apply_call` and leaves an index for the next; with no message left the words are the result.
use Prim.Native.Nat.{◌*◌}
use mathlib.Core.Path.{sym, ◌∙◌}
use native.Mathlib.Omega.{arith}
use lib.ListN.{length-drop}
use Rattle.host_apply_all_run.specs.Run.{count_of}
use Rattle.host_apply_all_run.proofs.Runs.{loop-start, loop-next, message-at, left-last}
use Rattle.host_apply_all_run.proofs.apply_all_from.Goals as goal

pub loop-i-init : goal.loop-i-init
loop-i-init c =
    let a = c.args in
    loop-start a.state.now a.rows.now a.segments.now a.messages.now a.answers.now a.places.now a.bounds c.requires.runs

pub apply_next-requires : goal.apply_next-requires
apply_next-requires c = record { runs_2 = c.loop-i.invariant.runs; message_words_in_bounds = rw (message-at c.args.messages.now c.loop-i.i) (omega (arith, length-drop (21 * c.loop-i.i) c.args.messages.now, c.loop-i-test.true)) }

pub loop-i-preserved : goal.loop-i-preserved
loop-i-preserved c =
    let k = c.apply_next in
    let l = c.loop-i in
    let a = c.args in
    loop-next a.state.now a.rows.now a.segments.now a.messages.now a.answers.now a.places.now l.state l.rows l.segments l.answers l.places l.bounds l.i l.invariant
    _ _ _ _ _ _ k.ensures.applies k.ensures.runs k.auto.state k.auto.rows k.auto.segments k.auto.places c.loop-i-test.true c.requires.messages_in_bounds

pub returns : goal.returns
returns c =
    let l = c.loop-i in
    let a = c.args in
    sym (l.invariant.rest ∙ left-last l.state l.rows l.segments a.messages.now l.answers (count_of a.messages.now) l.i 0 l.state l.rows l.segments c.loop-i-test.false)
