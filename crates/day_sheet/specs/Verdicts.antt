-- What a whole sheet is, and what is said of one that is none. Assumes nothing.
use Rattle.std.specs.Prelude.{◌≡◌, ℕ, ◌+◌, ◌<◌, ◌≤◌, Bool, true, false, ◌⊎◌, List, [], ◌∷◌, ◌++◌, length, Ok, Err, Result, ◌==◌}
use Rattle.std.specs.List.{flat_map, AllByRecursion}
use Rattle.day_sheet.specs.declared.fault.Stop.{Stop}
use Rattle.day_sheet.specs.declared.fault.Fault.{Fault}
use Rattle.day_sheet.specs.Letters.{is_start}
use Rattle.day_sheet.specs.Faults.{fault_of, too_long}
use Rattle.day_sheet.specs.Records.{Entry, spell, Sound, RecordFault}

-- S is first, and only first
abbrev pub StartFirst : List Entry → Type 0
StartFirst [] = Unit {0}
StartFirst (e ∷ es) = (is_start e.letter ≡ true) × AllByRecursion (λ e. is_start e.letter ≡ false) es

-- a sheet of these records: their spellings one after another, in at most 65,536 bytes
pub record SheetOf (es : List Entry) (sheet : List ℕ) : Type 0 where
  pub some : 1 ≤ length es
  pub order : StartFirst es
  pub sound : AllByRecursion Sound es
  pub spelled : sheet ≡ flat_map spell es
  pub size : length sheet ≤ 65536

-- these records stand on the sheet, and the next one is at fault
pub record FaultAfter (es : List Entry) (sheet : List ℕ) (f : Fault) : Type 0 where
  pub order : StartFirst es
  pub sound : AllByRecursion Sound es
  pub rest : List ℕ
  pub spelled : sheet ≡ flat_map spell es ++ rest
  pub size : length sheet ≤ 65536
  pub stop : Stop
  pub fault : RecordFault (length es == 0) rest stop
  pub told : f ≡ fault_of (length es + 1) (length (flat_map spell es)) stop

-- so many records make up the sheet; or it is too long, or it has a first fault
abbrev pub Verdict : (sheet : List ℕ) → Result ℕ Fault → Type 0
Verdict sheet (Ok n) = (es : List Entry) × SheetOf es sheet × (n ≡ length es)
Verdict sheet (Err f) = ((65536 < length sheet) × (f ≡ too_long)) ⊎ ((es : List Entry) × FaultAfter es sheet f)

-- a sheet has one verdict
abbrev pub OneVerdict : Type 0
OneVerdict = (sheet : List ℕ) (r s : Result ℕ Fault) → Verdict sheet r → Verdict sheet s → r ≡ s

-- and it is the sheet of one list of records
abbrev pub OneList : Type 0
OneList = (sheet : List ℕ) (es fs : List Entry) → SheetOf es sheet → SheetOf fs sheet → es ≡ fs

-- at a place of a sheet stands one record with one rest, or it has one fault, and never both
pub record OneReading (first : Bool) (bytes : List ℕ) : Type 0 where
  pub record_alone : (d e : Entry) (x y : List ℕ) → Sound d → Sound e → is_start d.letter ≡ first → is_start e.letter ≡ first → bytes ≡ spell d ++ x → bytes ≡ spell e ++ y → (d ≡ e) × (x ≡ y)
  pub fault_alone : (s t : Stop) → RecordFault first bytes s → RecordFault first bytes t → s ≡ t
  pub never_both : (e : Entry) (x : List ℕ) (s : Stop) → Sound e → is_start e.letter ≡ first → bytes ≡ spell e ++ x → RecordFault first bytes s → ⊥

abbrev pub OneReadings : Type 0
OneReadings = (first : Bool) (bytes : List ℕ) → OneReading first bytes
