use Rattle.std.proofs.Common.{◌/◌, length, sym, ap, arith}
use Rattle.day_sheet.proofs.Spelling.{groups-small, groups-large, groups-most}
use Rattle.day_sheet.proofs.groups.+count.Goals as goal

pub overflow_add-result : goal.overflow_add-result
overflow_add-result t c = omega (arith, c.count.ensures, groups-most (c.args.number / 128))

pub returns-then-number-lt128 : goal.returns-then-number-lt128
returns-then-number-lt128 t c = sym (ap length (groups-small c.args.number (omega arith)))

pub returns-else-number-lt128 : goal.returns-else-number-lt128
returns-else-number-lt128 t c = omega (arith, c.count.ensures, ap length (groups-large c.args.number (omega arith)))
