-- What a rate is checked by. Assumes nothing.
use Rattle.std.specs.Prelude.{ℕ, Bool, not, List, [], ◌∷◌, ℤ, Ok, Err, Result}
use Rattle.terms.specs.declared.refusal.Refusal.{Refusal}
use Rattle.terms.specs.declared.refusal.Refusal.TheVariants.{PriceOutOfRange}
use Rattle.terms.specs.declared.rate.Rate.{Rate}
use Rattle.terms.specs.Ranges.{is_rate}

-- the one test of a rate
abbrev pub rate_tests : ℤ → List (Refusal × Bool)
rate_tests units = (PriceOutOfRange, not (is_rate units)) ∷ []

-- the units of a checked rate, or the refusal
abbrev pub rate_answer : Result Rate Refusal → Result ℕ Refusal
rate_answer (Ok rate) = Ok rate.units
rate_answer (Err why) = Err why
