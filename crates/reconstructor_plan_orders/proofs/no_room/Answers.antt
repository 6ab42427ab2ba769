use Rattle.reconstructor_plan.proofs.Found.{room_enough}
use Rattle.reconstructor_plan_orders.proofs.no_room.Goals as goal

pub returns-then-rows-rules : goal.returns-then-rows-rules
returns-then-rows-rules c =
    let a = c.args in
    room_enough a.rules a.rows.words.now a.rows.count a.side a.price c.if-rows-rules.true
