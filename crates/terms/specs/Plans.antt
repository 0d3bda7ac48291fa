-- Plans and business days. Assumes nothing.
use Rattle.std.specs.Prelude.{◌≡◌, ℕ, ◌%◌, Bool, true, false, not, ◌&&◌, ◌||◌, List, [], ◌∷◌, length, take, ℤ, pos, negsuc, Some, None, Ok, Err, Result, ◌==◌, int_le, int_lt, nat_lt, unsigned_abs}
use Rattle.terms.specs.declared.refusal.Refusal.{Refusal}
use Rattle.terms.specs.declared.refusal.Refusal.TheVariants.{AmountOutOfRange, NoSuchDay, WrongLength}
use Rattle.terms.specs.declared.percent.Percent.{Percent}
use Rattle.terms.specs.declared.plan.Plan.{Plan}
use Rattle.terms.specs.Ranges.{is_day, is_percent}
use Rattle.terms.specs.Refusals.{first}

-- days of the calendar, each after the one before, the first after `last`
abbrev pub ascend : ℤ → List ℤ → Bool
ascend last [] = true
ascend last (x ∷ xs) = (int_lt last x && is_day x) && ascend x xs

-- a day of the calendar that is no Sunday and no Saturday: day 0 is a Sunday
abbrev pub is_workday : ℤ → Bool
is_workday day = is_day day && not (unsigned_abs day % 7 == 0) && not (unsigned_abs day % 7 == 6)

-- two numbers are equal
abbrev pub same : ℤ → ℤ → Bool
same a b = int_le a b && int_le b a

-- whether the day is among the holidays
abbrev pub is_among : ℤ → List ℤ → Bool
is_among day [] = false
is_among day (x ∷ xs) = same x day || is_among day xs

-- a business day is no Saturday, no Sunday and no holiday
abbrev pub is_business_day : List ℤ → ℤ → Bool
is_business_day holidays day = is_workday day && not (is_among day holidays)

-- a plan's refusals: a part outside 0 to 100 percent; a start that is no business day, or holidays that are no days or do not ascend; more than 64 holidays
abbrev pub plan_tests : ℤ → ℤ → List ℤ → List (Refusal × Bool)
plan_tests start percent holidays =
    (AmountOutOfRange, not (is_percent percent))
    ∷ (NoSuchDay, not (ascend (negsuc 0) holidays && is_business_day holidays start))
    ∷ (WrongLength, nat_lt 64 (length holidays))
    ∷ []

-- the holidays of a plan: the first of its fixed list
abbrev pub holidays_of : Plan → List ℤ
holidays_of p = take p.count p.holidays

-- the number of percent that was answered, or the refusal
abbrev pub percent_answer : Result Percent Refusal → Result ℕ Refusal
percent_answer (Ok p) = Ok p.value
percent_answer (Err e) = Err e

-- a plan as it was named
pub record Planned (start percent : ℤ) (holidays : List ℤ) (p : Plan) : Type 0 where
  pub start_is : pos p.start ≡ start
  pub part_is : pos p.part.value ≡ percent
  pub holidays_are : holidays_of p ≡ holidays

-- what the check of a plan answers: the plan as named where no test holds, otherwise the first refusal
abbrev pub PlanAnswer : ℤ → ℤ → List ℤ → Result Plan Refusal → Type 0
PlanAnswer start percent holidays (Ok p) = (first (plan_tests start percent holidays) ≡ None) × Planned start percent holidays p
PlanAnswer start percent holidays (Err e) = first (plan_tests start percent holidays) ≡ Some e
