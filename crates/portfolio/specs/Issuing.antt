-- What a hedge that is issued is judged by, and its deal. Assumes nothing.
use Rattle.std.specs.Prelude.{ℕ, suc, Bool, not, List, [], ◌∷◌, length, pos, nat_le}
use Rattle.terms.specs.declared.refusal.Refusal.{Refusal}
use Rattle.terms.specs.declared.refusal.Refusal.TheVariants.{UnknownParty, AmountOutOfRange, HedgePlacesFull, NumbersUsedUp}
use Rattle.terms.specs.Ranges.{within, is_institution}
use Rattle.rules.specs.declared.hedge.Deal.{Deal}
use Rattle.portfolio.specs.declared.portfolio.Portfolio.{Portfolio}
use Rattle.portfolio.specs.View.{placed_of}

-- its institution, its dollars, a free place and a free number
abbrev pub issue_tests : ℕ → ℕ → Portfolio → List (Refusal × Bool)
issue_tests institution dollars p =
    (UnknownParty, not (is_institution (pos institution))) ∷ (AmountOutOfRange, not (within (pos 1) (pos 2000000000) (pos dollars)))
    ∷ (HedgePlacesFull, nat_le 128 (length (placed_of p))) ∷ (NumbersUsedUp, nat_le 100000 p.numbered) ∷ []

-- it gets the next number
abbrev pub next_deal : ℕ → ℕ → ℕ → ℕ → Portfolio → Deal
next_deal institution dollars assigned maturity p = record { number = suc p.numbered; institution = institution; dollars = dollars; assigned = assigned; maturity = maturity }
