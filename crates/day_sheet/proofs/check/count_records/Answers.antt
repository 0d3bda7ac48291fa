use Rattle.day_sheet.proofs.Courses.{along_more}
use Rattle.day_sheet.proofs.check.count_records.Goals as goal

pub loop-placed-preserved : goal.loop-placed-preserved
loop-placed-preserved c =
    let passed = rw c.in_ok-records.was at c.in-Some.ensures.steps in
    (along_more c.args.sheet.now c.loop-placed.placed-iterator c.next.new.self c.loop-placed.records c.in_ok-records.field-0 c.loop-placed.invariant.0 passed, tt, tt)
