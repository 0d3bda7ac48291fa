-- What the reading of one record at a place of the sheet answers. Assumes nothing.
use Rattle.std.specs.Prelude.{◌≡◌, ℕ, ◌+◌, ◌-◌, ◌≤◌, Bool, List, ◌∷◌, ◌++◌, length, drop, Ok, Err, Result}
use Rattle.day_sheet.specs.declared.fault.Stop.{Stop}
use Rattle.day_sheet.specs.declared.record.Record.{Record}
use Rattle.day_sheet.specs.declared.heads.Head.{Head}
use Rattle.day_sheet.specs.declared.heads.Found.{Found}
use Rattle.day_sheet.specs.Groups.{groups, Short}
use Rattle.day_sheet.specs.Letters.{byte_of, is_start}
use Rattle.day_sheet.specs.Records.{Entry, spell, Sound, RecordFault}
use Rattle.day_sheet.specs.Holdings.{Says, BorrowsTail}

-- a known letter in its place, and a length that stays within the sheet
pub record Headed (sheet : List ℕ) (at : ℕ) (first : Bool) (h : Head) : Type 0 where
  pub placed : is_start h.letter ≡ first
  pub order : h.start ≤ h.«end»
  pub within : h.«end» ≤ length sheet
  pub size : Short (h.«end» - h.start)
  pub start : h.start ≡ at + 1 + length (groups (h.«end» - h.start))
  pub spelled : drop at sheet ≡ byte_of h.letter ∷ (groups (h.«end» - h.start) ++ drop h.start sheet)

abbrev pub HeadIn : (sheet : List ℕ) (at : ℕ) (first : Bool) → Result Head Stop → Type 0
HeadIn sheet at first (Ok h) = Headed sheet at first h
HeadIn sheet at first (Err s) = RecordFault first (drop at sheet) s

-- the record whose spelling stands at the place; what it borrows is the last part of that spelling, where it lies in memory
pub record Stands (sheet : List ℕ) (start : ℕ × ℕ) (at : ℕ) (first : Bool) (r : Record) (next : ℕ) : Type 0 where
  pub entry : Entry
  pub says : Says r entry
  pub sound : Sound entry
  pub placed : is_start entry.letter ≡ first
  pub spelled : drop at sheet ≡ spell entry ++ drop next sheet
  pub length-is : next ≡ at + length (spell entry)
  pub within : next ≤ length sheet
  pub borrows : BorrowsTail r entry.tail (start.0, start.1 + (next - length entry.tail))

abbrev pub RecordIn : (sheet : List ℕ) (start : ℕ × ℕ) (at : ℕ) (first : Bool) → Result Found Stop → Type 0
RecordIn sheet start at first (Ok f) = Stands sheet start at first f.«record» f.next
RecordIn sheet start at first (Err s) = RecordFault first (drop at sheet) s
