-- What the reading of a record's fields answers. Assumes nothing.
use Rattle.std.specs.Prelude.{◌≡◌, ℕ, ◌<◌, List, [], ◌++◌, map, length, take, drop, ℤ, pos, Ok, Err, Result}
use Rattle.std.specs.List.{flat_map, AllByRecursion}
use Rattle.day_sheet.specs.declared.letter.Ending.{Ending}
use Rattle.day_sheet.specs.declared.letter.Ending.TheVariants.{Nothing, Holidays, Reference}
use Rattle.day_sheet.specs.declared.fault.Stop.{Stop}
use Rattle.day_sheet.specs.declared.fault.Stop.TheVariants.{Record, Number}
use Rattle.day_sheet.specs.declared.fields.Numbered.{Numbered}
use Rattle.day_sheet.specs.Groups.{groups, Short, Broken}
use Rattle.day_sheet.specs.Records.{Run, Ends}

-- the bytes up to a place spell these numbers
pub record Spelt (numbers bytes : List ℕ) (at : ℕ) : Type 0 where
  pub short : AllByRecursion Short numbers
  pub front : bytes ≡ flat_map groups numbers ++ drop at bytes
  pub place : at ≡ length (flat_map groups numbers)

-- the bytes up to a place spell numbers, and these are those
abbrev pub ReadOff : (read : List ℤ) (bytes : List ℕ) (at : ℕ) → Type 0
ReadOff read bytes at = (ns : List ℕ) × (read ≡ map pos ns) × Spelt ns bytes at

-- so many numbers from the front on, or where they stop
abbrev pub NumbersFrom : (bytes : List ℕ) (count : ℕ) → Result Numbered Stop → Type 0
NumbersFrom bytes count (Ok n) = (length n.numbers ≡ 4) × ReadOff (take count n.numbers) bytes n.length
NumbersFrom bytes count (Err Record) = (ns : List ℕ) × (length ns < count) × AllByRecursion Short ns × (bytes ≡ flat_map groups ns)
NumbersFrom bytes count (Err (Number at)) = (ns : List ℕ) × (length ns < count) × Spelt ns bytes at × Broken (drop at bytes)

-- a run of numbers to the end, or the number where it stops
abbrev pub RunFrom : (bytes : List ℕ) → Result Unit Stop → Type 0
RunFrom bytes (Ok u) = Run bytes
RunFrom bytes (Err Record) = ⊥
RunFrom bytes (Err (Number at)) = (ns : List ℕ) × Spelt ns bytes at × Broken (drop at bytes)

-- an end is as it should be, or at fault
abbrev pub EndFault : Ending → (tail : List ℕ) → Stop → Type 0
EndFault Nothing tail Record = tail ≡ [] → ⊥
EndFault Nothing tail (Number at) = ⊥
EndFault Holidays tail s = RunFrom tail (Err s)
EndFault Reference tail Record = 24 < length tail
EndFault Reference tail (Number at) = ⊥

abbrev pub EndIn : Ending → (tail : List ℕ) → Result Unit Stop → Type 0
EndIn ending tail (Ok u) = Ends ending tail
EndIn ending tail (Err s) = EndFault ending tail s
