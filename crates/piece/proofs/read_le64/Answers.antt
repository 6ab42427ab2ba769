use Rattle.piece.specs.Piece.{word_at}
use Rattle.piece.proofs.Parts.{little_eight}
use Rattle.piece.proofs.read_le64.Goals as goal

pub returns : goal.returns
unfolding word_at
returns c = rw (c.from_le_bytes.ensures, c.bytes_at.ensures) (little_eight c.args.s.now c.args.at c.requires)
