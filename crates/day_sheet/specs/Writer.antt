-- What the writing of a record on a sheet answers. Assumes nothing.
use Rattle.std.specs.Prelude.{◌≡◌, ℕ, ◌+◌, min, Bool, not, ◌&&◌, ◌||◌, List, [], ◌∷◌, map, length, ℤ, None, Decides, Option, Result, ◌==◌, nat_lt, unsigned_abs}
use Rattle.std.specs.Bool.{beq}
use Rattle.std.specs.List.{list_all}
use Rattle.terms.specs.declared.refusal.Refusal.{Refusal}
use Rattle.terms.specs.declared.refusal.Refusal.TheVariants.{WrongLength, BadNumber, BadRecord}
use Rattle.terms.specs.Refusals.{first, answered, unless_refused}
use Rattle.day_sheet.specs.declared.letter.Letter.TheVariants as letter
use Rattle.day_sheet.specs.declared.writer.Sheet.{Sheet}
use Rattle.day_sheet.specs.declared.record.Record.{Record}
use Rattle.day_sheet.specs.declared.parts.Parts.{Parts}
use Rattle.day_sheet.specs.Letters.{is_start}
use Rattle.day_sheet.specs.Records.{Entry, spell, Sound}
use Rattle.day_sheet.specs.Entries.{is_long}
use Rattle.day_sheet.specs.Parts.{RunOf, spelling_of, refusal_of}
use Rattle.day_sheet.specs.Writings.{holdable, spellings, written_at}
use Rattle.day_sheet.specs.Holdings.{letter_of, numbers_of, record_tail, Says}

-- what a record says, as it stands on a sheet
abbrev pub entry_of : Record → Entry
entry_of r = record { letter = letter_of r; numbers = map unsigned_abs (numbers_of r); tail = record_tail r }

-- S with a list of holidays
abbrev pub start_entry : (day percent : ℤ) (holidays : List ℤ) → Entry
start_entry day percent holidays = record { letter = letter.Start; numbers = unsigned_abs day ∷ unsigned_abs percent ∷ []; tail = spellings holidays }

-- why an entry is not written on a sheet of which so many bytes are used: first its numbers, then a reference of more than 24 bytes, or S on a sheet that is not empty, or another record on an empty one, then the room among the first 65,536 bytes
abbrev pub refusal : (held : Bool) (room used : ℕ) (e : Entry) → Option Refusal
refusal held room used e =
    first (
    (BadNumber, not held)
    ∷ (BadRecord, is_long e.letter e.tail || not (beq (is_start e.letter) (used == 0)))
    ∷ (WrongLength, nat_lt (min room 65536) (used + length (spell e)))
    ∷ [])

-- the same of a record in its parts
pub record Spells (before after : Sheet) (p : Parts) (a : Result Unit Refusal) : Type 0 where
  pub answer : a ≡ answered (refusal_of (length before.bytes.now) before.used p) tt
  pub bytes : after.bytes.now ≡ unless_refused (refusal_of (length before.bytes.now) before.used p) (written_at before.bytes.now before.used (spelling_of p)) before.bytes.now
  pub used : after.used ≡ unless_refused (refusal_of (length before.bytes.now) before.used p) (before.used + length (spelling_of p)) before.used

-- an entry is written after the used bytes, or refused, and then nothing has changed
pub record Written (before after : Sheet) (held : Bool) (e : Entry) (a : Result Unit Refusal) : Type 0 where
  pub answer : a ≡ answered (refusal held (length before.bytes.now) before.used e) tt
  pub bytes : after.bytes.now ≡ unless_refused (refusal held (length before.bytes.now) before.used e) (written_at before.bytes.now before.used (spell e)) before.bytes.now
  pub used : after.used ≡ unless_refused (refusal held (length before.bytes.now) before.used e) (before.used + length (spell e)) before.used

-- what the writing of a record answers: its numbers and holidays have to be such as a sheet can hold
pub record Appended (before after : Sheet) (r : Record) (a : Result Unit Refusal) : Type 0 where
  pub run : Bool
  pub decides : Decides run (RunOf (letter_of r) (record_tail r))
  pub written : Written before after (list_all holdable (numbers_of r) && run) (entry_of r) a

-- the same of S with a list of holidays
abbrev pub AppendedStart : (before after : Sheet) (day percent : ℤ) (holidays : List ℤ) (a : Result Unit Refusal) → Type 0
AppendedStart before after day percent holidays a = Written before after (list_all holdable (day ∷ percent ∷ []) && list_all holdable holidays) (start_entry day percent holidays) a

-- what the writer accepts can stand at its place on a sheet, and says what the record says
pub record StandsAgain (used : ℕ) (r : Record) : Type 0 where
  pub sound : Sound (entry_of r)
  pub says : Says r (entry_of r)
  pub placed : is_start (letter_of r) ≡ (used == 0)

-- so the reader, which reads what stands there, reads the same record back
abbrev pub ReadsBack : Type 0
ReadsBack = (r : Record) (run : Bool) (room used : ℕ) → Decides run (RunOf (letter_of r) (record_tail r)) → refusal (list_all holdable (numbers_of r) && run) room used (entry_of r) ≡ None → StandsAgain used r

-- and what the reader reads, the writer spells with the same bytes
abbrev pub WritesAgain : Type 0
WritesAgain = (r : Record) (e : Entry) → Says r e → spell (entry_of r) ≡ spell e
