use native.Mathlib.Omega.{arith}
use Rattle.text.proofs.Decimals.{printed}
use Rattle.text.proofs.put_decimal.Goals as goal

pub returns-clause-writes : goal.returns-clause-writes
returns-clause-writes c = rw (c.as_bytes.ensures.value, c.format.ensures.text, printed c.args.n (omega arith)) at c.put_bytes.ensures
