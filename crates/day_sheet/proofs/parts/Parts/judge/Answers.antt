use Rattle.std.proofs.Common.{arith}
use Rattle.day_sheet.proofs.Spelling.{groups-most}
use Rattle.day_sheet.proofs.parts.Parts.judge.Goals as goal

pub overflow_add-length : goal.overflow_add-length
overflow_add-length c = omega (arith, c.count.ensures, groups-most c.in_ok-size.size, c.in_ok-size.ensures.1)

pub overflow_add-length-2 : goal.overflow_add-length-2
overflow_add-length-2 c = omega (arith, c.count.ensures, groups-most c.in_ok-size.size, c.in_ok-size.ensures.1)
