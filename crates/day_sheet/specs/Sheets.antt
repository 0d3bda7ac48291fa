-- How a sheet is read, record after record. Assumes nothing.
use Rattle.std.specs.Prelude.{◌≡◌, ℕ, ◌+◌, ◌-◌, ◌<◌, ◌≤◌, true, false, cond, ◌⊎◌, List, length, drop, Some, None, Ok, Err, Option, Result, ◌==◌}
use Rattle.std.specs.Borrow.{Bor}
use Rattle.day_sheet.specs.declared.fault.Stop.{Stop}
use Rattle.day_sheet.specs.declared.fault.Fault.{Fault}
use Rattle.day_sheet.specs.declared.reader.Reader.{Reader}
use Rattle.day_sheet.specs.declared.reader.Placed.{Placed}
use Rattle.day_sheet.specs.Faults.{fault_of, too_long}
use Rattle.day_sheet.specs.Records.{RecordFault}
use Rattle.day_sheet.specs.Heads.{Stands}

-- a reader at the front of a sheet
pub record OpenedOn (sheet : Bor (List ℕ)) (d : Reader) : Type 0 where
  pub bytes : d.sheet.now ≡ sheet.now
  pub place : d.sheet.ref_ptr ≡ sheet.ref_ptr
  pub at : d.at ≡ 0
  pub records : d.records ≡ 0
  pub over : d.over ≡ false

-- there is more to read: no fault was met, and there are bytes left or no record has been read
abbrev pub Goes : Reader → Type 0
Goes d = (d.over ≡ false) × ((d.records ≡ 0) ⊎ (d.at < length d.sheet.now))

-- the reader after a record, which ends before the next place
pub record Passed (d after : Reader) (p : Placed) : Type 0 where
  pub goes : Goes d
  pub size : length d.sheet.now ≤ 65536
  pub number : p.number ≡ d.records + 1
  pub place : p.place ≡ d.at
  pub stands : Stands d.sheet.now d.sheet.ref_ptr d.at (d.records == 0) p.«record» after.at
  pub sheet : after.sheet ≡ d.sheet
  pub records : after.records ≡ d.records + 1
  pub over : after.over ≡ false

-- the fault that is told: the sheet is longer than 65,536 bytes, or the next record is at fault
abbrev pub Tells : Reader → Fault → Type 0
Tells d f =
    ((65536 < length d.sheet.now) × (f ≡ too_long))
    ⊎ ((length d.sheet.now ≤ 65536) × ((s : Stop) × RecordFault (d.records == 0) (drop d.at d.sheet.now) s × (f ≡ fault_of (d.records + 1) d.at s)))

-- the reader after a fault
pub record Failed (d after : Reader) (f : Fault) : Type 0 where
  pub goes : Goes d
  pub told : Tells d f
  pub sheet : after.sheet ≡ d.sheet
  pub at : after.at ≡ d.at
  pub records : after.records ≡ d.records
  pub over : after.over ≡ true

-- the reader where there is nothing more to read
pub record Ended (d after : Reader) : Type 0 where
  pub ended : Goes d → ⊥
  pub same : after ≡ d

-- what the next reading answers
abbrev pub NextIn : (d : Reader) → Option (Result Placed Fault) → (after : Reader) → Type 0
NextIn d None after = Ended d after
NextIn d (Some (Ok p)) after = Passed d after p
NextIn d (Some (Err f)) after = Failed d after f

-- a record is read, or a fault is told and the reader stays as it is
abbrev pub ReadOn : (d after : Reader) → Result Placed Fault → Type 0
ReadOn d after (Ok p) = Passed d after p
ReadOn d after (Err f) = Tells d f × (after ≡ d)

-- how many answers are left at most: none after a fault, else one for each byte ahead and one more
abbrev pub answers_left : Reader → ℕ
answers_left d = cond d.over 0 (length d.sheet.now - d.at + 1)
