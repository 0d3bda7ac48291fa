use Rattle.std.proofs.Common.{ℕ, ◌-◌, List, length}
use Rattle.day_sheet.specs.Fields.{Spelt}
use Rattle.day_sheet.proofs.fields.check_run.Given as goal

abbrev pub invariant-loop-number : goal.invariant-loop-number
invariant-loop-number l = (ns : List ℕ) × Spelt ns l.bytes l.at

abbrev pub decreases-loop-number : goal.decreases-loop-number
decreases-loop-number l = length l.bytes - l.at
