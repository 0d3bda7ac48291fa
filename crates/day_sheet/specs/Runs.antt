-- The numbers of a run, one after another. Assumes nothing.
use Rattle.std.specs.Prelude.{◌≡◌, ℕ, ◌+◌, List, length, ℤ, pos, Some, None, Option}
use Rattle.day_sheet.specs.declared.record.Numbers.{Numbers}
use Rattle.day_sheet.specs.Groups.{groups, Begins}

-- the number that the run begins with, and the run after it, which lies after that number's spelling; none where it begins with none, and then the run stays as it is
abbrev pub FirstIn : (run : Numbers) → Option ℤ → (after : Numbers) → Type 0
FirstIn run None after = ((n : ℕ) (rest : List ℕ) → Begins run.bytes.now n rest → ⊥) × (after ≡ run)
FirstIn run (Some z) after =
    (n : ℕ)
    × (z ≡ pos n)
    × Begins run.bytes.now n after.bytes.now
    × (after.bytes.ref_ptr ≡ (run.bytes.ref_ptr.0, run.bytes.ref_ptr.1 + length (groups n)))
