use mathlib.Core.Path.{sym, ◌∙◌}
use Rattle.host_apply_all_message.proofs.Message.{no-apply}
use Rattle.host_apply_all_message.proofs.apply_next.Goals as goal

pub returns-then-no_message : goal.returns-then-no_message
returns-then-no_message c = record { applies = no-apply c.args.state.now c.args.rows.now c.args.segments.now c.args.message.now c.requires.runs_2.whole c.requires.message_words_in_bounds (sym c.no_message.ensures ∙ c.if-no_message.true); runs = c.requires.runs_2 }

pub apply_message-requires : goal.apply_message-requires
apply_message-requires c = record { runs_2 = c.requires.runs_2; message_words_in_bounds = c.requires.message_words_in_bounds; message_value = sym c.no_message.ensures ∙ c.if-no_message.false }

pub returns : goal.returns
returns c = record { applies = c.apply_message.ensures.applies; runs = c.apply_message.ensures.runs }
