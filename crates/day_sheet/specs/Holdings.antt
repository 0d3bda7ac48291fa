-- What a record of the program holds. Assumes nothing.
use Rattle.std.specs.Prelude.{◌≡◌, ℕ, ◌+◌, List, [], ◌∷◌, map, length, ℤ, pos, ◌+ℤ◌, Ok, Err, Result}
use Rattle.std.specs.List.{flat_map}
use Rattle.day_sheet.specs.declared.fault.Stop.{Stop}
use Rattle.day_sheet.specs.declared.letter.Letter.{Letter}
use Rattle.day_sheet.specs.declared.letter.Letter.TheVariants as letter
use Rattle.day_sheet.specs.declared.record.Record.{Record}
use Rattle.day_sheet.specs.declared.record.Record.TheVariants.{Start, Admit, Announce, Bid, Seal, Publish, Void, Fix, Lodge, Release, Terminate}
use Rattle.day_sheet.specs.Groups.{groups}
use Rattle.day_sheet.specs.Records.{Entry, fields, Complete, FieldsFault}

abbrev pub letter_of : Record → Letter
letter_of (Start day percent holidays) = letter.Start
letter_of (Admit institution) = letter.Admit
letter_of (Announce kind offer cap maturity) = letter.Announce
letter_of (Bid institution price millions reference) = letter.Bid
letter_of Seal = letter.Seal
letter_of Publish = letter.Publish
letter_of Void = letter.Void
letter_of (Fix day rate) = letter.Fix
letter_of (Lodge institution centavos) = letter.Lodge
letter_of (Release institution centavos) = letter.Release
letter_of (Terminate hedge) = letter.Terminate

-- its numbers as they stand on a sheet: a price with 10,000 added
abbrev pub numbers_of : Record → List ℤ
numbers_of (Start day percent holidays) = day ∷ percent ∷ []
numbers_of (Admit institution) = institution ∷ []
numbers_of (Announce kind offer cap maturity) = kind ∷ offer ∷ cap ∷ maturity ∷ []
numbers_of (Bid institution price millions reference) = institution ∷ (price +ℤ pos 10000) ∷ millions ∷ []
numbers_of Seal = []
numbers_of Publish = []
numbers_of Void = []
numbers_of (Fix day rate) = day ∷ rate ∷ []
numbers_of (Lodge institution centavos) = institution ∷ centavos ∷ []
numbers_of (Release institution centavos) = institution ∷ centavos ∷ []
numbers_of (Terminate hedge) = hedge ∷ []

-- the bytes that follow them
abbrev pub record_tail : Record → List ℕ
record_tail (Start day percent holidays) = holidays.bytes.now
record_tail (Bid institution price millions reference) = reference.now
record_tail _ = []

-- a record says what an entry says
pub record Says (r : Record) (e : Entry) : Type 0 where
  pub letter : letter_of r ≡ e.letter
  pub numbers : numbers_of r ≡ map pos e.numbers
  pub tail : record_tail r ≡ e.tail

-- the bytes that it borrows, if it borrows any, and where they start in memory
abbrev pub BorrowsTail : Record → (tail : List ℕ) (place : ℕ × ℕ) → Type 0
BorrowsTail (Start day percent holidays) tail place = (holidays.bytes.now ≡ tail) × (holidays.bytes.ref_ptr ≡ place)
BorrowsTail (Bid institution price millions reference) tail place = (reference.now ≡ tail) × (reference.ref_ptr ≡ place)
BorrowsTail _ tail place = Unit {0}

-- a record is read off its fields, which start at a place of memory: what it borrows is a part of them
pub record ReadAs (l : Letter) (body : List ℕ) (start : ℕ × ℕ) (r : Record) : Type 0 where
  pub entry : Entry
  pub letter : entry.letter ≡ l
  pub says : Says r entry
  pub complete : Complete entry
  pub spelled : body ≡ fields entry
  pub borrows : BorrowsTail r entry.tail (start.0, start.1 + length (flat_map groups entry.numbers))

abbrev pub FieldsIn : (l : Letter) (body : List ℕ) (start : ℕ × ℕ) → Result Record Stop → Type 0
FieldsIn l body start (Ok r) = ReadAs l body start r
FieldsIn l body start (Err s) = FieldsFault l body s
