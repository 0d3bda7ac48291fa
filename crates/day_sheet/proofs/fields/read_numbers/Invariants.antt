use Rattle.std.proofs.Common.{take}
use Rattle.day_sheet.specs.Fields.{ReadOff}
use Rattle.day_sheet.proofs.fields.read_numbers.Given as goal

abbrev pub invariant-loop-number : goal.invariant-loop-number
invariant-loop-number l = ReadOff (take l.number-index l.number-items) l.bytes l.at
