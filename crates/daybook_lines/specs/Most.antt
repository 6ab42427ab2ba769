-- How long the parts of a listing can be, a 64-bit number having twenty digits at most.
use Rattle.std.specs.Prelude.{ℕ, ◌+◌, ◌*◌}
use Rattle.text.specs.Lines.{most_spaced}

-- `segment` and five words
abbrev pub most_segment : ℕ
most_segment = 7 + 5 * most_spaced + 1

-- `stop` and two numbers
abbrev pub most_stop : ℕ
most_stop = 4 + 2 * most_spaced + 1

-- `counts` and twelve numbers, and a stop
abbrev pub most_ending : ℕ
most_ending = (6 + 12 * most_spaced + 1) + most_stop

-- more than the lines of 64 segments and that ending: a listing is never longer
abbrev pub listing_bytes : ℕ
listing_bytes = 8192
