-- The reader's number and words are those of the definition, which reads into 21 zeros too. A number other than 0 is the answer and nothing is touched; at 0
-- the words are the message, and the call applies it.
use Rattle.host_calls.specs.Calls.{called, apply_call}
use Rattle.recorded_pieces.proofs.Read.{turned-away, goes_on}
use Rattle.recorded_pieces.proofs.apply_piece.Goals as goal

pub returns-then-number-ne0 : goal.returns-then-number-ne0
returns-then-number-ne0 c =
    turned-away c.args.piece.now
    (apply_call c.args.state.now c.args.rows.now c.args.segments.now)
    (λ k. called k c.args.state.now c.args.rows.now c.args.segments.now)
    c.pinuglaw_read_message-number.result
    c.pinuglaw_read_message-number.ensures.number
    c.if-number-ne0.true

pub returns : goal.returns
returns c =
    goes_on c.args.piece.now
    (apply_call c.args.state.now c.args.rows.now c.args.segments.now)
    (λ k. called k c.args.state.now c.args.rows.now c.args.segments.now)
    c.pinuglaw_read_message-number.result
    c.pinuglaw_read_message-number.new.out
    (called c.pinuglaw_apply.result c.pinuglaw_apply.new.state c.pinuglaw_apply.new.rows c.pinuglaw_apply.new.segments)
    c.pinuglaw_read_message-number.ensures.number
    c.if-number-ne0.false
    c.pinuglaw_read_message-number.ensures.words
    c.pinuglaw_apply.ensures
