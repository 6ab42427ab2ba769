use Rattle.piece.proofs.Parts.{big_eight}
use Rattle.piece.proofs.read_be64.Goals as goal

pub returns : goal.returns
returns c = rw (c.from_be_bytes.ensures, c.bytes_at.ensures) (big_eight c.args.s.now c.args.at c.requires)
