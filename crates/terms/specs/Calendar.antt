-- Dates, day numbers and weekdays from 1 January 2017, day 0, to 31 December 2099, day 30,314. Assumes nothing.
use Rattle.std.specs.Prelude.{◌≡◌, ℕ, ◌+◌, ◌-◌, ◌*◌, ◌/◌, ◌%◌, Bool, true, false, cond, ◌&&◌, [], ◌∷◌, ℤ, Ok, Err, Result, ◌==◌, nat_le, nat_lt, slice_index, unsigned_abs}
use Rattle.terms.specs.declared.refusal.Refusal.{Refusal}
use Rattle.terms.specs.declared.refusal.Refusal.TheVariants.{NoSuchDay}
use Rattle.terms.specs.declared.calendar.Date.{Date}
use Rattle.terms.specs.declared.calendar.Weekday.{Weekday}
use Rattle.terms.specs.declared.calendar.Weekday.TheVariants.{Sunday, Monday, Tuesday, Wednesday, Thursday, Friday, Saturday}
use Rattle.terms.specs.Ranges.{is_day}

-- one more day in every fourth year (2100 lies past the calendar)
abbrev pub leap_day : ℕ → ℕ
leap_day year = cond (year % 4 == 0) 1 0

-- days of a plain year before each month, months counted from 0
abbrev pub before : ℕ → ℕ
before month = slice_index (0 ∷ 31 ∷ 59 ∷ 90 ∷ 120 ∷ 151 ∷ 181 ∷ 212 ∷ 243 ∷ 273 ∷ 304 ∷ 334 ∷ []) month

-- days of the year before a month: the leap day comes before March
abbrev pub month_start : ℕ → ℕ → ℕ
month_start leap month = cond (nat_lt month 2) (before month) (before month + leap)

-- days of the year up to a month's end
abbrev pub month_end : ℕ → ℕ → ℕ
month_end leap month = cond (nat_lt month 11) (month_start leap (month + 1)) (365 + leap)

-- a date of the calendar: year, month and a day that the month has
abbrev pub is_date : Date → Bool
is_date d =
    nat_le 2017 d.year && nat_le d.year 2099 && nat_le 1 d.month && nat_le d.month 12 && nat_le 1 d.day
    && nat_le (month_start (leap_day d.year) (d.month - 1) + d.day) (month_end (leap_day d.year) (d.month - 1))

-- the days before a date: of whole years, of whole months, of the month
abbrev pub day_number : Date → ℕ
day_number d = 365 * (d.year - 2017) + (d.year - 2017) / 4 + month_start (leap_day d.year) (d.month - 1) + d.day - 1

-- the date with this number, and the only one
pub record DateNumbered (n : ℕ) (d : Date) : Type 0 where
  pub date : is_date d ≡ true
  pub number : day_number d ≡ n
  pub only : (e : Date) → is_date e ≡ true → day_number e ≡ n → e ≡ d

-- the date of a day, or a refusal where it is no day
abbrev pub DateOfDay : ℤ → Result Date Refusal → Type 0
DateOfDay day (Ok d) = (is_day day ≡ true) × DateNumbered (unsigned_abs day) d
DateOfDay day (Err e) = (is_day day ≡ false) × (e ≡ NoSuchDay)

-- weekdays count from Sunday, as day numbers do
abbrev pub weekday_number : Weekday → ℕ
weekday_number Sunday = 0
weekday_number Monday = 1
weekday_number Tuesday = 2
weekday_number Wednesday = 3
weekday_number Thursday = 4
weekday_number Friday = 5
weekday_number Saturday = 6

-- Saturday and Sunday
abbrev pub is_weekend : Weekday → Bool
is_weekend Sunday = true
is_weekend Monday = false
is_weekend Tuesday = false
is_weekend Wednesday = false
is_weekend Thursday = false
is_weekend Friday = false
is_weekend Saturday = true
