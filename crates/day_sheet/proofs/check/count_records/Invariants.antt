use Rattle.day_sheet.proofs.Courses.{Along}
use Rattle.day_sheet.proofs.check.count_records.Given as goal

abbrev pub invariant-loop-placed : goal.invariant-loop-placed
invariant-loop-placed l = Along l.sheet l.placed-iterator l.records × (goal.iterator-loop-placed).can_next l.placed-iterator × (goal.iterator-loop-placed).is_finite l.placed-iterator
