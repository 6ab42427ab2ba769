-- A refusal of the reader has its number and writes nothing. A message has 21 words, so with fewer lent it is 7; else the five of the header and the sixteen
-- of the event, put one behind the other, are all of them (`two-puts`).
use Rattle.host_answers.specs.Answers.{Answered, answered, told_in}
use Rattle.piece.specs.Piece.{piece_number, read_message}
use Rattle.piece.specs.Words.{message_list, read_message_told}
use Rattle.host_pieces.proofs.Told.{given-none, given_all, length-message, piece-refused}
use mathlib.Core.List.{[], ◌∷◌, ◌++◌}
use mathlib.Core.Path.{◌≡◌, refl, sym, ap, ◌∙◌}
use lib.ListN.{length, drop}
use Rattle.host_words.proofs.Puts.{length-event, two-puts}
use Rattle.host_pieces_message.proofs.read_message.Goals as goal

pub returns-then-out-lt-MESSAGE_WORDS : goal.returns-then-out-lt-MESSAGE_WORDS
returns-then-out-lt-MESSAGE_WORDS c =
    let t : told_in (read_message_told (read_message c.args.bytes.now)) c.args.out.now ≡ answered 7 c.args.out.now =
    ap (λ x. told_in (read_message_told x) c.args.out.now) (sym c.read_message.ensures.value ∙ c.in-Ok.is) ∙ given-none (message_list c.in-Ok.m) c.args.out.now 21 (length-message c.in-Ok.m) c.if-out-lt-MESSAGE_WORDS.true in
    record { number = ap (λ (x : Answered). x.number) (sym t); words = ap (λ (x : Answered). x.out) (sym t) }

pub returns-else-out-lt-MESSAGE_WORDS : goal.returns-else-out-lt-MESSAGE_WORDS
returns-else-out-lt-MESSAGE_WORDS c =
    let header = c.kind_word.result ∷ c.in-Ok.m.product_id.high ∷ c.in-Ok.m.product_id.low ∷ c.in-Ok.m.sequence ∷ c.in-Ok.m.time_us ∷ [] in
    let sized = ap length c.event_words.ensures ∙ length-event c.in-Ok.m.event in
    let pair = two-puts c.args.out.now c.put.new.out header c.event_words.result c.put.ensures refl sized in
    let t : told_in (read_message_told (read_message c.args.bytes.now)) c.args.out.now ≡ answered 0 (message_list c.in-Ok.m ++ drop 21 c.args.out.now) =
    ap (λ x. told_in (read_message_told x) c.args.out.now) (sym c.read_message.ensures.value ∙ c.in-Ok.is) ∙ given_all (message_list c.in-Ok.m) c.args.out.now 21 (length-message c.in-Ok.m) c.if-out-lt-MESSAGE_WORDS.false in
    record { number = ap (λ (x : Answered). x.number) (sym t); words = (c.put-in-Ok.ensures ∙ pair ∙ rw (c.event_words.ensures, c.kind_word.ensures)) ∙ ap (λ (x : Answered). x.out) (sym t) }

pub returns-in-Err : goal.returns-in-Err
returns-in-Err c =
    let t : told_in (read_message_told (read_message c.args.bytes.now)) c.args.out.now ≡ answered (piece_number c.in-Err.e) c.args.out.now =
    ap (λ x. told_in (read_message_told x) c.args.out.now) (sym c.read_message.ensures.value ∙ c.in-Err.is) ∙ piece-refused c.in-Err.e c.args.out.now in
    record { number = c.number.ensures ∙ ap (λ (x : Answered). x.number) (sym t); words = ap (λ (x : Answered). x.out) (sym t) }
