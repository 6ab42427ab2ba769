-- A file that keeps the rules holds its pairs (`pairs-inside`) and its pieces (`piece_inside`), so the piece is cut from it (`piece_cut`).
use native.Mathlib.Omega.{arith}
use Rattle.daybook_file.proofs.Days.{pairs-inside, piece_inside, piece_cut}
use Rattle.daybook_file.proofs.DayFile.piece.Goals as goal

pub piece_start-requires : goal.piece_start-requires
piece_start-requires c = omega (arith, pairs-inside c.args.self.bytes.now c.args.self.shaped, c.requires)

pub piece_end-requires : goal.piece_end-requires
piece_end-requires c = omega (arith, pairs-inside c.args.self.bytes.now c.args.self.shaped, c.requires)

pub slice_bounds-result-end : goal.slice_bounds-result-end
slice_bounds-result-end c =
    let inside = piece_inside c.args.self.bytes.now c.args.self.shaped c.args.i c.requires in
    omega (arith, c.piece_end.ensures)

pub returns : goal.returns
returns c = rw (c.piece_end.ensures, c.piece_start.ensures.0) (piece_cut c.args.self.bytes.now c.args.i)
