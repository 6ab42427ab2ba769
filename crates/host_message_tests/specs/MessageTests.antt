-- Words that no message has: 4 (Boundary.antt of `host_boundary` says when).
use Rattle.std.specs.Prelude.{ℕ, Bool, true, ◌||◌, cond, List, eqb, ltb, get_or}
use Rattle.host_word_tests.specs.WordTests.{no_bit}

unfoldable pub no_done : List ℕ → Bool
no_done ws = no_bit (get_or ws 7 0) || (no_bit (get_or ws 8 0) || (no_bit (get_or ws 10 0) || no_bit (get_or ws 11 0)))

unfoldable pub no_change : List ℕ → Bool
no_change ws =
    no_bit (get_or ws 7 0) ||
    (no_bit (get_or ws 8 0) ||
    (no_bit (get_or ws 9 0) ||
    (no_bit (get_or ws 11 0) || (no_bit (get_or ws 13 0) || (no_bit (get_or ws 15 0) || (no_bit (get_or ws 17 0) || no_bit (get_or ws 19 0)))))))

-- by its kind; 01: "an unsupported kind a 32-bit number"
unfoldable pub no_message : List ℕ → Bool
no_message ws =
    cond (eqb (get_or ws 0 0) 1) (no_bit (get_or ws 7 0))
    (cond (eqb (get_or ws 0 0) 2) (no_bit (get_or ws 7 0))
    (cond (eqb (get_or ws 0 0) 3) (no_done ws)
    (cond (eqb (get_or ws 0 0) 4) (no_bit (get_or ws 9 0))
    (cond (eqb (get_or ws 0 0) 5) (no_change ws) (cond (eqb (get_or ws 0 0) 6) (ltb 4294967295 (get_or ws 5 0)) true)))))
