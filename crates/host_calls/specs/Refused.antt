-- What a refusal leaves of a host's words. 01: "Save for the counts named above and what 16 and a handshake's end record, a
-- refusal changes no state and no buffer." The theorems are `apply-refused` and `bootstrap-refused` (proofs/Blocks), `step-refused` and `step-dropped` (proofs/Steps).
use Rattle.std.specs.Prelude.{ℕ, List, Bool, true, cond, ◌||◌, eqb, ltb}
use Rattle.reconstructor_handshake.specs.Step.{with}
use Rattle.host_words.specs.Block.{raised}
use Rattle.host_handshake.specs.HandshakeWords.{handshake_of, handshake_left}
use Rattle.host_calls.specs.Calls.{BookCall, called, StepCall, step_called}

-- the numbers of a message that this does not speak of: 0 and 256 accept it, 16 records an invalidation
abbrev pub acts : ℕ → Bool
acts k = eqb k 0 || (eqb k 256 || eqb k 16)

-- 10 raises the count in word 25, 17 the one in word 24
abbrev pub refused_state : ℕ → List ℕ → List ℕ
refused_state k st = cond (eqb k 10) (raised st 25) (cond (eqb k 17) (raised st 24) st)

abbrev pub refusal_leaves : ℕ → List ℕ → List ℕ → List ℕ → BookCall
refusal_leaves k st ws sg = called k (refused_state k st) ws sg

-- of a snapshot, any number but 0 is a refusal's, and 10 to 14 raise the count in word 26
abbrev pub snapshot_leaves : ℕ → List ℕ → List ℕ → List ℕ → BookCall
snapshot_leaves k st ws sg = called k (cond (ltb k 10 || ltb 14 k) st (raised st 26)) ws sg

-- of a step, 512, a drop, is no refusal either
abbrev pub step_acts : ℕ → Bool
step_acts k = acts k || eqb k 512

-- 01: "16 or 17 ends the handshake"
abbrev pub refused_handshake : ℕ → List ℕ → List ℕ
refused_handshake k hs = cond (eqb k 17) (handshake_left hs (with (handshake_of hs) true (handshake_of hs).applied)) hs

abbrev pub step_refusal_leaves : ℕ → List ℕ → List ℕ → List ℕ → List ℕ → StepCall
step_refusal_leaves k st ws sg hs = step_called k (refused_state k st) ws sg (refused_handshake k hs)
