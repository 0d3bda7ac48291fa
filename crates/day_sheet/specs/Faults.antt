-- What a fault names. Assumes nothing.
use Rattle.std.specs.Prelude.{ℕ, ◌+◌}
use Rattle.terms.specs.declared.refusal.Refusal.TheVariants.{WrongLength, BadNumber, BadRecord}
use Rattle.day_sheet.specs.declared.fault.Fault.{Fault}
use Rattle.day_sheet.specs.declared.fault.Layer.TheVariants.{Groups, Record}
use Rattle.day_sheet.specs.declared.fault.Stop.{Stop}
use Rattle.day_sheet.specs.declared.fault.Stop.TheVariants as stop

-- the fault of a record at a place: 8 at its letter, or 7 at the broken number's first byte
abbrev pub fault_of : (number place : ℕ) → Stop → Fault
fault_of number place stop.Record = record { «record» = number; place = place; why = BadRecord; layer = Record }
fault_of number place (stop.Number after) = record { «record» = number; place = place + after; why = BadNumber; layer = Groups }

-- how far after the letter the fault lies
abbrev pub place_in : Stop → ℕ
place_in stop.Record = 0
place_in (stop.Number at) = at

-- the same fault, counted from so many bytes before
abbrev pub later : (by : ℕ) → Stop → Stop
later by stop.Record = stop.Record
later by (stop.Number at) = stop.Number (by + at)

-- the fault of a sheet that is too long, met before any record
abbrev pub too_long : Fault
too_long = record { «record» = 0; place = 0; why = WrongLength; layer = Record }
