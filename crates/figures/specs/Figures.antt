-- Worked figures, reckoned by the definitions that the contracts cite. Assumes nothing.
use Rattle.std.specs.Prelude.{◌≡◌, ℕ, ◌%◌, List, [], ◌∷◌, map, ℤ, pos, negsuc, ◌*ℤ◌, Some, None}
use Rattle.terms.specs.declared.refusal.Refusal.TheVariants.{BadNumber}
use Rattle.terms.specs.Refusals.{number_of}
use Rattle.day_sheet.specs.Groups.{groups}
use Rattle.day_sheet.specs.Readings.{number_by}
use Rattle.terms.specs.declared.calendar.Weekday.TheVariants.{Friday}
use Rattle.terms.specs.Calendar.{day_number, weekday_number}
use Rattle.terms.specs.Rounding.{rounded, penalty_of}
use Rattle.tie_rules.specs.Rules.{shares_pro_rata, shares_by_receipt}

-- a figure: what the definitions give, and what it has to be
pub record Figure : Type 0 where
  pub reckoned : List ℤ
  pub stated : List ℤ

-- natural numbers as signed ones
abbrev numbers : List ℕ → List ℤ
numbers = map pos

-- a single number
abbrev one : ℤ → List ℤ
one z = z ∷ []

-- amounts of 1, 2 and 4 million dollars
abbrev millions : List ℕ
millions = 1000000 ∷ 2000000 ∷ 4000000 ∷ []

-- the number that bytes spell, or the refusal's
abbrev number_read : List ℕ → ℕ
number_read bytes = elim (number_by 9 bytes) [ Some r ↦ r.0 | None ↦ number_of BadNumber ]

-- the figures that are proved
abbrev pub table : List Figure
table =
    -- 24 February 2017 is day 54, a Friday
    record { reckoned = numbers (day_number (record { year = 2017; month = 2; day = 24 }) ∷ 54 % 7 ∷ []); stated = numbers (54 ∷ weekday_number Friday ∷ []) }
    -- 5,000,000 dollars left for amounts of 1, 2 and 4 million, pro rata and by receipt
    ∷ record { reckoned = numbers (shares_pro_rata millions 5000000); stated = numbers (714286 ∷ 1428572 ∷ 2857142 ∷ []) }
    ∷ record { reckoned = numbers (shares_by_receipt millions 5000000); stated = numbers (1000000 ∷ 2000000 ∷ 2000000 ∷ []) }
    -- 714,286 dollars at a rise of 75 units, and at a fall of 75
    ∷ record { reckoned = one (rounded (pos 714286 *ℤ pos 75)); stated = one (pos 535715) }
    ∷ record { reckoned = one (rounded (pos 714286 *ℤ negsuc 74)); stated = one (negsuc 535714) }
    -- the penalties for shortfalls of 49 and of 50 centavos
    ∷ record { reckoned = one (penalty_of 49); stated = one (pos 0) }
    ∷ record { reckoned = one (penalty_of 50); stated = one (pos 1) }
    -- 210,000 in groups of seven bits is D0 E8 0C; 80 00 is refused with 7
    ∷ record { reckoned = numbers (groups 210000); stated = numbers (208 ∷ 232 ∷ 12 ∷ []) }
    ∷ record { reckoned = one (pos (number_read (128 ∷ 0 ∷ []))); stated = one (pos 7) }
    ∷ []

-- each figure is as stated
abbrev pub FiguresAsStated : Type 0
FiguresAsStated = map (λ f. f.reckoned) table ≡ map (λ f. f.stated) table
