-- An estimate from words: as `estimate_values` of crate `queue` gives them. Any words are read as some estimate; a side or an anchor that none has is turned away
-- before (crate `host_boundary`). The last word does not matter of a hypothetical order.
use Rattle.std.specs.Prelude.{ℕ, cond, List, eqb, get_or, Result, Ok, Err}
use Rattle.std.specs.Int.{w64}
use Rattle.std.proofs.Common.{to_z}
use Rattle.piece.specs.Piece.{side_of}
use Rattle.queue.specs.declared.Anchor.{Anchor}
use Rattle.queue.specs.declared.Anchor.TheVariants.{Hypothetical, Own}
use Rattle.queue.specs.declared.QueueEstimate.{QueueEstimate}
use Rattle.queue.specs.declared.QueueError.{QueueError}
use Rattle.queue.specs.Numbers.{queue_error_told}
use Rattle.message.specs.Told.{Told, told}

-- words of an estimate
abbrev pub estimate_words : ℕ
estimate_words = 8

unfoldable pub anchor_of : List ℕ → Anchor
anchor_of ws =
    cond (eqb (get_or ws 4 0) 0) (Hypothetical (get_or ws 5 0) (get_or ws 6 0))
    (Own (record { high = get_or ws 5 0; low = get_or ws 6 0 }) (get_or ws 7 0))

unfoldable pub estimate_of : List ℕ → QueueEstimate
estimate_of ws =
    record {
      side = side_of (get_or ws 0 0);
      price = to_z w64 (get_or ws 1 0);
      segment = record { number = get_or ws 2 0; place = get_or ws 3 0 };
      anchor = anchor_of ws;
    }

-- what a queue call that answers these values tells
abbrev pub values_told : Result (List ℕ) QueueError → Told
values_told (Ok values) = told 0 values
values_told (Err e) = queue_error_told e
