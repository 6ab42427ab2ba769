use mathlib.Core.Path.{ap}
use Rattle.queue.specs.Numbers.{ahead_told}
use Rattle.queue_ahead.proofs.volume_ahead.Goals as goal

pub returns : goal.returns
returns c =
    let e = c.volume_ahead_under.ensures in
    record { value = e; told = ap ahead_told e }
