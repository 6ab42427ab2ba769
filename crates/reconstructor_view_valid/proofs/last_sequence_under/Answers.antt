use Rattle.reconstructor_view_valid.proofs.last_sequence_under.Goals as goal

pub returns : goal.returns
returns c = c.valid_book.ensures
