-- How a record is spelled, and when it can be read. Assumes nothing.
use Rattle.std.specs.Prelude.{◌≡◌, ℕ, ◌+◌, ◌<◌, ◌≤◌, Bool, true, List, [], ◌∷◌, ◌++◌, length, ◌≢◌}
use Rattle.std.specs.List.{flat_map, AllByRecursion}
use Rattle.day_sheet.specs.declared.letter.Letter.{Letter}
use Rattle.day_sheet.specs.declared.letter.Ending.{Ending}
use Rattle.day_sheet.specs.declared.letter.Ending.TheVariants.{Nothing, Holidays, Reference}
use Rattle.day_sheet.specs.declared.fault.Stop.{Stop}
use Rattle.day_sheet.specs.declared.fault.Stop.TheVariants.{Record, Number}
use Rattle.day_sheet.specs.Groups.{groups, Short, Broken}
use Rattle.day_sheet.specs.Faults.{later}
use Rattle.day_sheet.specs.Letters.{byte_of, numbers_in, ending_of, is_start}

-- what a record says: its letter, its numbers, and the bytes that follow them
pub record Entry : Type 0 where
  pub letter : Letter
  pub numbers : List ℕ
  pub tail : List ℕ

-- its fields stand side by side
abbrev pub fields : Entry → List ℕ
fields e = flat_map groups e.numbers ++ e.tail

-- its spelling: the letter, the length of the fields, and the fields
abbrev pub spell : Entry → List ℕ
spell e = byte_of e.letter ∷ (groups (length (fields e)) ++ fields e)

-- a run of numbers, spelled side by side
abbrev pub Run : List ℕ → Type 0
Run bytes = (numbers : List ℕ) × AllByRecursion Short numbers × (bytes ≡ flat_map groups numbers)

-- what may follow the numbers: nothing, holidays, or a reference of at most 24 bytes
abbrev pub Ends : Ending → List ℕ → Type 0
Ends Nothing tail = tail ≡ []
Ends Holidays tail = Run tail
Ends Reference tail = length tail ≤ 24

-- it has the numbers and the end that its letter asks for, each number in at most nine groups
pub record Complete (e : Entry) : Type 0 where
  pub count : length e.numbers ≡ numbers_in e.letter
  pub short : AllByRecursion Short e.numbers
  pub ends : Ends (ending_of e.letter) e.tail

-- a record that can stand on a sheet: it is complete, and its length too has at most nine groups
pub record Sound (e : Entry) : Type 0 where
  pub complete : Complete e
  pub size : Short (length (fields e))

-- the first fault in the fields of a record of this letter
pub data FieldsFault (l : Letter) (body : List ℕ) : Stop → Type 0 where
  -- the fields end before the letter's numbers do
  missing : (ns : List ℕ) → AllByRecursion Short ns → body ≡ flat_map groups ns → length ns < numbers_in l → FieldsFault l body Record
  -- one of them is broken
  broken : (ns rest : List ℕ) → AllByRecursion Short ns → body ≡ flat_map groups ns ++ rest → length ns < numbers_in l → Broken rest → FieldsFault l body (Number (length (flat_map groups ns)))
  -- bytes are left over
  left_over : (ns rest : List ℕ) → AllByRecursion Short ns → body ≡ flat_map groups ns ++ rest → length ns ≡ numbers_in l → ending_of l ≡ Nothing → (rest ≢ []) → FieldsFault l body Record
  -- the reference is too long
  long : (ns rest : List ℕ) → AllByRecursion Short ns → body ≡ flat_map groups ns ++ rest → length ns ≡ numbers_in l → ending_of l ≡ Reference → 24 < length rest → FieldsFault l body Record
  -- a holiday is broken
  holiday : (ns rest : List ℕ) → AllByRecursion Short ns → body ≡ flat_map groups ns ++ rest → numbers_in l ≤ length ns → ending_of l ≡ Holidays → Broken rest → FieldsFault l body (Number (length (flat_map groups ns)))

-- the first fault of a record, as the sheet goes on from its letter; S has to be the first record, and no other
pub data RecordFault (first : Bool) (bytes : List ℕ) : Stop → Type 0 where
  -- there is no first record
  none : first ≡ true → bytes ≡ [] → RecordFault first bytes Record
  -- the letter is unknown
  unknown : (b : ℕ) (rest : List ℕ) → bytes ≡ b ∷ rest → ((l : Letter) → byte_of l ≢ b) → RecordFault first bytes Record
  -- S is missing or repeated
  misplaced : (l : Letter) (rest : List ℕ) → bytes ≡ byte_of l ∷ rest → (is_start l ≢ first) → RecordFault first bytes Record
  -- there is no length
  no_length : (l : Letter) → bytes ≡ byte_of l ∷ [] → is_start l ≡ first → RecordFault first bytes Record
  -- the length is broken
  bad_length : (l : Letter) (rest : List ℕ) → bytes ≡ byte_of l ∷ rest → is_start l ≡ first → Broken rest → RecordFault first bytes (Number 1)
  -- the length runs past the sheet
  past : (l : Letter) (n : ℕ) (rest : List ℕ) → bytes ≡ byte_of l ∷ (groups n ++ rest) → is_start l ≡ first → Short n → length rest < n → RecordFault first bytes Record
  -- the record or one of its numbers is at fault in its fields
  in_fields : (l : Letter) (body rest : List ℕ) (s : Stop) → bytes ≡ byte_of l ∷ (groups (length body) ++ (body ++ rest)) → is_start l ≡ first → Short (length body) → FieldsFault l body s → RecordFault first bytes (later (1 + length (groups (length body))) s)
