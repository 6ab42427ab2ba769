-- The exported call that makes a handshake: what it answers and leaves.
use Rattle.std.specs.Prelude.{ℕ, List, cond, ltb, length}
use Rattle.host_words.specs.Block.{book_of}
use Rattle.host_boundary.specs.Boundary.{own_boundary, unless_turned}
use Rattle.reconstructor_state.specs.State.{segment_of}
use Rattle.reconstructor_handshake.specs.Step.{new_handshake}
use Rattle.host_answers.specs.Answers.{Answered, answered}
use Rattle.host_handshake.specs.HandshakeWords.{handshake_words, handshake_left}

-- 7: fewer words than a handshake's
unfoldable pub handshake_call : List ℕ → List ℕ → Answered
handshake_call st hs =
    unless_turned (own_boundary st) (λ (k : ℕ). answered k hs)
    (cond (ltb (length hs) handshake_words) (answered 7 hs) (answered 0 (handshake_left hs (new_handshake (segment_of (book_of st)) (book_of st).segments))))
