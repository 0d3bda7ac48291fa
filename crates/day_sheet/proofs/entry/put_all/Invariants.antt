use Rattle.std.proofs.Common.{◌≡◌, ◌+◌, length, take}
use Rattle.day_sheet.specs.Writings.{spellings, written_at}
use Rattle.day_sheet.proofs.entry.put_all.Given as goal

abbrev pub invariant-loop-number : goal.invariant-loop-number
invariant-loop-number l = (l.next ≡ l.at + length (spellings (take l.number-index l.numbers))) × (l.out ≡ written_at l.initial.out l.at (spellings (take l.number-index l.numbers)))
