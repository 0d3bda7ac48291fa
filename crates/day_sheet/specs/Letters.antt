-- The letters of the records, and what each record holds. Assumes nothing.
use Rattle.std.specs.Prelude.{◌≡◌, ℕ, Bool, true, false, Ok, Err, Result, ◌≢◌}
use Rattle.day_sheet.specs.declared.fault.Stop.{Stop}
use Rattle.day_sheet.specs.declared.fault.Stop.TheVariants.{Record}
use Rattle.day_sheet.specs.declared.letter.Letter.{Letter}
use Rattle.day_sheet.specs.declared.letter.Letter.TheVariants.{Start, Admit, Announce, Bid, Seal, Publish, Void, Fix, Lodge, Release, Terminate}
use Rattle.day_sheet.specs.declared.letter.Ending.{Ending}
use Rattle.day_sheet.specs.declared.letter.Ending.TheVariants.{Nothing, Holidays, Reference}

-- the letter's byte: S, I, A, B, C, P, V, F, G, R, T
abbrev pub byte_of : Letter → ℕ
byte_of Start = 83
byte_of Admit = 73
byte_of Announce = 65
byte_of Bid = 66
byte_of Seal = 67
byte_of Publish = 80
byte_of Void = 86
byte_of Fix = 70
byte_of Lodge = 71
byte_of Release = 82
byte_of Terminate = 84

-- how many numbers its record begins with
abbrev pub numbers_in : Letter → ℕ
numbers_in Start = 2
numbers_in Admit = 1
numbers_in Announce = 4
numbers_in Bid = 3
numbers_in Seal = 0
numbers_in Publish = 0
numbers_in Void = 0
numbers_in Fix = 2
numbers_in Lodge = 2
numbers_in Release = 2
numbers_in Terminate = 1

-- what follows them to the record's end: holidays, a reference, or nothing
abbrev pub ending_of : Letter → Ending
ending_of Start = Holidays
ending_of Bid = Reference
ending_of _ = Nothing

-- S, which is first on a sheet and only first
abbrev pub is_start : Letter → Bool
is_start Start = true
is_start _ = false

-- a byte is the letter's, or no letter's, and then the record is at fault
abbrev pub LetterOf : (byte : ℕ) → Result Letter Stop → Type 0
LetterOf byte (Ok l) = byte_of l ≡ byte
LetterOf byte (Err s) = (s ≡ Record) × ((l : Letter) → byte_of l ≢ byte)
