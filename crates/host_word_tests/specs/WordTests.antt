-- Words that no handshake, estimate or book has: 4, and 3 of a state block (Boundary.antt of `host_boundary` says when).
use Rattle.std.specs.Prelude.{ℕ, Bool, ◌||◌, ◌&&◌, cond, List, eqb, ltb, get_or}

-- a side, a reason, a presence, an anchor and a flag are 0 or 1
abbrev pub no_bit : ℕ → Bool
no_bit w = ltb 1 w

abbrev pub no_handshake : List ℕ → Bool
no_handshake hs = no_bit (get_or hs 2 0)

abbrev pub no_estimate : List ℕ → Bool
no_estimate e = no_bit (get_or e 0 0) || no_bit (get_or e 4 0)

-- a reason is 20 to 22 or 30 to 44, and 38 is of one of two
abbrev pub no_reason : ℕ → ℕ → Bool
no_reason k detail = cond (eqb k 38) (no_bit detail) (ltb k 20 || ((ltb 22 k && ltb k 30) || ltb 44 k))

unfoldable pub no_book : List ℕ → Bool
no_book st = no_bit (get_or st 2 0) || (ltb 2 (get_or st 6 0) || (eqb (get_or st 6 0) 2 && no_reason (get_or st 9 0) (get_or st 12 0)))
