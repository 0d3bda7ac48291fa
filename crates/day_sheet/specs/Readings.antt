-- What the reading of a number answers. Assumes nothing.
use Rattle.std.specs.Prelude.{◌≡◌, ℕ, zero, suc, ◌+◌, ◌-◌, ◌*◌, ◌≤◌, cond, List, [], ◌∷◌, length, drop, Some, None, Ok, Err, Option, Result, ◌==◌, nat_lt}
use Rattle.day_sheet.specs.declared.fault.Stop.{Stop}
use Rattle.day_sheet.specs.declared.fault.Stop.TheVariants as stop
use Rattle.day_sheet.specs.declared.groups.Number.{Number}
use Rattle.day_sheet.specs.declared.groups.NoNumber.{NoNumber}
use Rattle.day_sheet.specs.declared.groups.NoNumber.TheVariants as why
use Rattle.day_sheet.specs.Groups.{groups, Begins, Broken}

-- what stands at a place: a number with the length of its spelling, no byte, or a broken number
abbrev pub NumberAt : (bytes : List ℕ) (at : ℕ) → Result Number NoNumber → Type 0
NumberAt bytes at (Ok n) = Begins (drop at bytes) n.value (drop (at + n.length) bytes) × (n.length ≡ length (groups n.value))
NumberAt bytes at (Err why.NoByte) = length bytes ≤ at
NumberAt bytes at (Err why.Broken) = Broken (drop at bytes)

-- what a record finds where it asks for a number: one; no byte, and then the record is at fault; or a broken number, so far after the record's letter
abbrev pub AskedAt : (bytes : List ℕ) (at after : ℕ) → Result Number Stop → Type 0
AskedAt bytes at after (Ok n) = NumberAt bytes at (Ok n)
AskedAt bytes at after (Err stop.Record) = NumberAt bytes at (Err why.NoByte)
AskedAt bytes at after (Err (stop.Number place)) = NumberAt bytes at (Err why.Broken) × (place ≡ after)

-- a group that goes on, before a number already read: nought may not follow
abbrev pub goes_on : (group : ℕ) → Option (ℕ × ℕ) → Option (ℕ × ℕ)
goes_on group None = None
goes_on group (Some rest) = cond (rest.0 == 0) None (Some (group - 128 + 128 * rest.0, rest.1 + 1))

-- the number in at most so many groups at the front, with the length of its spelling
abbrev pub number_by : (most : ℕ) (bytes : List ℕ) → Option (ℕ × ℕ)
number_by zero bytes = None
number_by (suc most) [] = None
number_by (suc most) (b ∷ bytes) = cond (nat_lt b 128) (Some (b, 1)) (cond (nat_lt b 256) (goes_on b (number_by most bytes)) None)
