-- A handshake from words and as words. Any words are read as some handshake; an end that is neither 0 nor 1 is turned away before (crate `host_boundary`).
use Rattle.std.specs.Prelude.{ℕ, Bool, false, not, cond, List, ◌∷◌, eqb, get_or, drop}
use Rattle.reconstructor_handshake.specs.declared.Handshake.{Handshake}
use Rattle.reconstructor_handshake.specs.declared.StepAnswer.{StepAnswer}
use Rattle.reconstructor_handshake.specs.declared.StepAnswer.TheVariants.{Stepped, Dropped, OtherSegment}
use Rattle.host_words.specs.Block.{sets_status}

-- ---- A handshake: four words
--   0, 1  its segment's name: the reconstructor's number, and the place in the list
--   2     1 once it has ended, before that 0
--   3     the number of messages applied

abbrev pub handshake_words : ℕ
handshake_words = 4

unfoldable pub handshake_of : List ℕ → Handshake
handshake_of ws =
    record {
      segment = record { number = get_or ws 0 0; place = get_or ws 1 0 };
      ended = not (eqb (get_or ws 2 0) 0);
      applied = get_or ws 3 0;
    }

abbrev pub ended_word : Bool → ℕ
ended_word ended = cond ended 1 0

-- what a call leaves of the words lent for a handshake; those past 3 stay
unfoldable pub handshake_left : List ℕ → Handshake → List ℕ
handshake_left ws h = h.segment.number ∷ h.segment.place ∷ ended_word h.ended ∷ h.applied ∷ drop handshake_words ws

-- ---- An answer

-- whether the status is set: only where `apply` sets it
abbrev pub step_sets : StepAnswer → Bool
step_sets (Stepped a) = sets_status a
step_sets Dropped = false
step_sets OtherSegment = false
