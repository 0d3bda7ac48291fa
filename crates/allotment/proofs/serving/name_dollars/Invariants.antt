use Rattle.std.proofs.Common.{◌≡◌, map, take}
use Rattle.rules.specs.Allotment.{named}
use Rattle.allotment.proofs.serving.name_dollars.Given as goal

abbrev pub invariant-loop-i : goal.invariant-loop-i
invariant-loop-i l = take l.i l.amounts ≡ map named (take l.i l.group)
