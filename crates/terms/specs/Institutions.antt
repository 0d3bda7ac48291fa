-- What an institution is checked by. Assumes nothing.
use Rattle.std.specs.Prelude.{ℕ, Bool, not, List, [], ◌∷◌, ℤ, Ok, Err, Result}
use Rattle.terms.specs.declared.refusal.Refusal.{Refusal}
use Rattle.terms.specs.declared.refusal.Refusal.TheVariants.{UnknownParty}
use Rattle.terms.specs.declared.institution.Institution.{Institution}
use Rattle.terms.specs.Ranges.{is_institution}

-- the one test of an institution: the bank is none, nor is a party past 16
abbrev pub institution_tests : ℤ → List (Refusal × Bool)
institution_tests number = (UnknownParty, not (is_institution number)) ∷ []

-- the number of a checked institution, or the refusal
abbrev pub institution_answer : Result Institution Refusal → Result ℕ Refusal
institution_answer (Ok institution) = Ok institution.number
institution_answer (Err why) = Err why
