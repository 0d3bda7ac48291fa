use Rattle.std.proofs.Common.{arith}
use Rattle.day_sheet.proofs.Runs.{begins_room, spelt_more}
use Rattle.day_sheet.proofs.fields.check_run.Goals as goal

pub loop-number-smaller : goal.loop-number-smaller
loop-number-smaller c =
    let n = c.in-Ok.ensures in
    let room = begins_room c.args.bytes.now c.loop-number.at _ c.in-Ok.number.length n.0 n.1 in
    omega arith

pub loop-number-preserved : goal.loop-number-preserved
loop-number-preserved c =
    let n = c.in-Ok.ensures in
    (_, spelt_more c.loop-number.invariant.0 c.args.bytes.now c.loop-number.at _ c.in-Ok.number.length c.loop-number.invariant.1 n.0 n.1)
