use native.Mathlib.Omega.{arith}
use Rattle.piece.proofs.Parts.{little_four}
use Rattle.piece.proofs.read_le32.Goals as goal

pub returns : goal.returns
returns c = (rw (c.from.ensures, c.from_le_bytes.ensures, c.bytes_at.ensures) (little_four c.args.s.now c.args.at c.requires), omega arith)
