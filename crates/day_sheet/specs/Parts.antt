-- What a record is written from. Assumes nothing.
use Rattle.std.specs.Prelude.{◌≡◌, ℕ, ◌+◌, ◌≤◌, Bool, true, false, ◌&&◌, List, [], length, take, ℤ, Some, None, Ok, Err, Option, Result}
use Rattle.std.specs.List.{list_all}
use Rattle.terms.specs.declared.refusal.Refusal.{Refusal}
use Rattle.terms.specs.declared.refusal.Refusal.TheVariants.{BadNumber}
use Rattle.day_sheet.specs.declared.letter.Letter.{Letter}
use Rattle.day_sheet.specs.declared.letter.Ending.TheVariants.{Nothing, Holidays, Reference}
use Rattle.day_sheet.specs.declared.record.Record.{Record}
use Rattle.day_sheet.specs.declared.parts.Parts.{Parts}
use Rattle.day_sheet.specs.Letters.{numbers_in, ending_of}
use Rattle.day_sheet.specs.Records.{Run}
use Rattle.day_sheet.specs.Entries.{body, spelled, entry_refusal}
use Rattle.day_sheet.specs.Writings.{holdable}
use Rattle.day_sheet.specs.Holdings.{letter_of, numbers_of, record_tail}

-- the numbers that its letter asks for
abbrev pub asked : Parts → List ℤ
asked p = take (numbers_in p.letter) p.numbers

-- a sheet can hold each of its numbers
abbrev pub held : Parts → Bool
held p = list_all holdable (asked p) && list_all holdable p.more.now

-- its fields, its spelling, and why it is not written
abbrev pub body_of : Parts → List ℕ
body_of p = body (asked p) p.more.now p.tail.now

abbrev pub spelling_of : Parts → List ℕ
spelling_of p = spelled p.letter (asked p) p.more.now p.tail.now

abbrev pub refusal_of : (room used : ℕ) → Parts → Option Refusal
refusal_of room used p = entry_refusal room used p.letter (asked p) p.more.now p.tail.now

-- what the judgement finds: why the record is refused, or the size of its fields, with what then holds
abbrev pub Judged : (room used : ℕ) → Parts → Result ℕ Refusal → Type 0
Judged room used p (Ok size) = (refusal_of room used p ≡ None) × (size ≡ length (body_of p)) × (held p ≡ true) × (used + length (spelling_of p) ≤ room)
Judged room used p (Err e) = refusal_of room used p ≡ Some e

-- a record's numbers at the front of four, or one of them cannot be held
abbrev pub NumbersOf : Record → Result (List ℤ) Refusal → Type 0
NumbersOf r (Ok ns) = (length ns ≡ 4) × (take (numbers_in (letter_of r)) ns ≡ numbers_of r)
NumbersOf r (Err e) = (e ≡ BadNumber) × (list_all holdable (numbers_of r) ≡ false) × (ending_of (letter_of r) ≡ Reference)

-- a record's letter, numbers and tail, or one of its numbers cannot be held
abbrev pub PartsOf : Record → Result Parts Refusal → Type 0
PartsOf r (Ok p) = (p.letter ≡ letter_of r) × (length p.numbers ≡ 4) × (asked p ≡ numbers_of r) × (p.more.now ≡ []) × (p.tail.now ≡ record_tail r)
PartsOf r (Err e) = NumbersOf r (Err e)

-- the holidays of S are a run of numbers
abbrev pub RunOf : Letter → (tail : List ℕ) → Type 0
RunOf l tail = elim (ending_of l) [ Nothing ↦ Unit {0} | Holidays ↦ Run tail | Reference ↦ Unit {0} ]
