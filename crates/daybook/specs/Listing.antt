-- The listing of a day file, and what a host that asks for it gets.
use Rattle.std.specs.Prelude.{ℕ, cond, List, ◌++◌, ltb, length, drop, Some}
use Rattle.reconstructor_counts.specs.Counts.{no_counts}
use Rattle.daybook_file.specs.DayFile.{day_shaped}
use Rattle.daybook_replay.specs.Replay.{day_of}
use Rattle.daybook_lines.specs.Listed.{ending, listed}

-- 02, paper 1: "60, a file that breaks these rules or is longer"
abbrev pub not_a_day_file : ℕ
not_a_day_file = 60

-- such a one is "listed as zero counts and `stop 0 60` before any piece is read"
unfoldable pub listing : List ℕ → List ℕ
listing f = cond (day_shaped f) (listed (day_of f)) (ending no_counts (Some (record { piece = 0; number = not_a_day_file })))

-- what the call answers, and the host's slice afterwards
pub record ReplayCall : Type 0 where
  pub number : ℕ
  pub slice : List ℕ

abbrev pub replay_called : ℕ → List ℕ → ReplayCall
replay_called k out = record { number = k; slice = out }

-- "7 instead when the listing exceeds the host's slice. The host gets its length or 7." Bytes past the listing are as they were
unfoldable pub replay_call : List ℕ → List ℕ → ReplayCall
replay_call f out =
    cond (ltb (length out) (length (listing f))) (replay_called 7 out)
    (replay_called (length (listing f)) (listing f ++ drop (length (listing f)) out))
