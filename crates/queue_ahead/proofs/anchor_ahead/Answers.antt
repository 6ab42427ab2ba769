-- By the estimate's kind; where it has a list, 8 passed says that the entries are there and few enough to count.
use Prim.Native.Nat.{◌*◌}
use mathlib.Core.Path.{◌≡◌, ◌∙◌, ap}
use mir.Syntax.{w64}
use mir.Val.{to_z, of_z}
use lib.Dec.{ltb}
use lib.ListN.{length}
use borrow.Author.Tests.{ltb-false}
use Rattle.laws.proofs.Bools.{or_no}
use Rattle.message.specs.Amounts.{nat_of}
use Rattle.queue.specs.Ahead.{ahead_entry_words}
use Rattle.queue.specs.Estimates.{list_bound}
use borrow.Author.Rules.{rules}
use Rattle.queue_ahead.proofs.anchor_ahead.Goals as goal

pub ahead_of_list-requires : goal.ahead_of_list-requires
ahead_of_list-requires c =
    let h = rw c.in-Hypothetical.is at c.requires in
    let s = or_no (ltb list_bound c.in-Hypothetical.orders) (ltb (length c.args.ahead.now) (ahead_entry_words * c.in-Hypothetical.orders)) h in
    (ltb-false _ _ s.1, ltb-false _ _ s.0)

pub returns-in-Hypothetical : goal.returns-in-Hypothetical
returns-in-Hypothetical c = rw c.in-Hypothetical.is c.ahead_of_list.ensures

pub returns-in-Own : goal.returns-in-Own
returns-in-Own c =
    let p = c.args.estimate.price in
    let b : to_z w64 (of_z w64 p) ≡ p = search rules in
    let z = c.size_of-at.ensures ∙ ap nat_of b in
    rw (c.in-Own.is, ← z) c.ahead_of_own.ensures
