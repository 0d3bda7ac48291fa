-- What the writing of a record answers. Assumes nothing.
use Rattle.std.specs.Prelude.{◌≡◌, ℕ, ◌+◌, ◌<◌, min, Bool, false, not, ◌&&◌, ◌||◌, ltb, List, [], ◌∷◌, ◌++◌, length, ℤ, Ok, Err, Option, Result, ◌==◌, nat_lt}
use Rattle.std.specs.Bool.{beq}
use Rattle.std.specs.List.{list_all}
use Rattle.terms.specs.declared.refusal.Refusal.{Refusal}
use Rattle.terms.specs.declared.refusal.Refusal.TheVariants.{WrongLength, BadNumber, BadRecord}
use Rattle.terms.specs.Refusals.{first}
use Rattle.day_sheet.specs.declared.letter.Letter.{Letter}
use Rattle.day_sheet.specs.declared.letter.Ending.TheVariants.{Nothing, Holidays, Reference}
use Rattle.day_sheet.specs.Groups.{groups}
use Rattle.day_sheet.specs.Letters.{byte_of, ending_of, is_start}
use Rattle.day_sheet.specs.Writings.{spellings, holdable}

-- the fields: the letter's numbers, more of them, and bytes as they are
abbrev pub body : (numbers more : List ℤ) (tail : List ℕ) → List ℕ
body numbers more tail = spellings numbers ++ (spellings more ++ tail)

-- the record
abbrev pub spelled : (l : Letter) (numbers more : List ℤ) (tail : List ℕ) → List ℕ
spelled l numbers more tail = byte_of l ∷ (groups (length (body numbers more tail)) ++ body numbers more tail)

-- a reference of more than 24 bytes
abbrev pub is_long : Letter → (tail : List ℕ) → Bool
is_long l tail = elim (ending_of l) [ Nothing ↦ false | Holidays ↦ false | Reference ↦ ltb 24 (length tail) ]

-- why a record is not written on a sheet of which so many bytes are used: a number cannot be held, the reference is too long, S is not first or another is, or there is no room among the first 65,536 bytes
abbrev pub entry_refusal : (room used : ℕ) (l : Letter) (numbers more : List ℤ) (tail : List ℕ) → Option Refusal
entry_refusal room used l numbers more tail =
    first (
    (BadNumber, not (list_all holdable numbers && list_all holdable more))
    ∷ (BadRecord, is_long l tail || not (beq (is_start l) (used == 0)))
    ∷ (WrongLength, nat_lt (min room 65536) (used + length (spelled l numbers more tail)))
    ∷ [])

-- the size of the fields, unless they are too many for any sheet
abbrev pub SizeWithin : (fields : List ℕ) → Result ℕ Refusal → Type 0
SizeWithin fields (Ok n) = (n ≡ length fields) × (n < 1000000)
SizeWithin fields (Err e) = (e ≡ WrongLength) × (65536 < length fields)
