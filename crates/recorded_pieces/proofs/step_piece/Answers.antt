-- The reader writes to the blank words that `if_read` reads into, so its number and words are the definition's. Another number than 0 is the answer, with
-- nothing touched; at 0 `pinuglaw_step` is called with these words.
use Rattle.host_calls.specs.Calls.{step_called, step_call}
use Rattle.recorded_pieces.proofs.Read.{turned-away, goes_on}
use Rattle.recorded_pieces.proofs.step_piece.Goals as goal

pub returns-then-number-ne0 : goal.returns-then-number-ne0
returns-then-number-ne0 c =
    turned-away c.args.piece.now
    (step_call c.args.state.now c.args.rows.now c.args.segments.now c.args.handshake.now)
    (λ k. step_called k c.args.state.now c.args.rows.now c.args.segments.now c.args.handshake.now)
    c.pinuglaw_read_message-number.result
    c.pinuglaw_read_message-number.ensures.number
    c.if-number-ne0.true

pub returns : goal.returns
returns c =
    goes_on c.args.piece.now
    (step_call c.args.state.now c.args.rows.now c.args.segments.now c.args.handshake.now)
    (λ k. step_called k c.args.state.now c.args.rows.now c.args.segments.now c.args.handshake.now)
    c.pinuglaw_read_message-number.result
    c.pinuglaw_read_message-number.new.out
    (step_called c.pinuglaw_step.result c.pinuglaw_step.new.state c.pinuglaw_step.new.rows c.pinuglaw_step.new.segments c.pinuglaw_step.new.handshake)
    c.pinuglaw_read_message-number.ensures.number
    c.if-number-ne0.false
    c.pinuglaw_read_message-number.ensures.words
    c.pinuglaw_step.ensures
