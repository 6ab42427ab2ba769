use native.Mathlib.Omega.{arith}
use Rattle.daybook_file.specs.DayFile.{four_at}
use Rattle.daybook_file.proofs.Days.{pairs-inside}
use Rattle.daybook_file.proofs.DayFile.piece_count.Goals as goal

pub read_le32-requires : goal.read_le32-requires
read_le32-requires c = omega (arith, pairs-inside c.args.self.bytes.now c.args.self.shaped)

pub returns : goal.returns
unfolding four_at
returns c = c.read_le32.ensures.0
