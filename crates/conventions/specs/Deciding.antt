-- What a convention may decide. Assumes nothing.
use Rattle.std.specs.Prelude.{◌≡◌, Bool, true, false}
use Rattle.conventions.specs.declared.Decision.{Decision}
use Rattle.conventions.specs.declared.Decision.TheVariants.{Settle, Wait}
use Rattle.conventions.specs.declared.Question.{Question}

-- whether the hedge is settled at this fixing
abbrev pub is_settle : Decision → Bool
is_settle Settle = true
is_settle Wait = false

-- what a convention means: its decision depends on the question alone, and a hedge that is closing is settled
pub record Deciding : Type 0 where
  pub decides : Question → Decision
  pub closes : (question : Question) → question.closing ≡ true → is_settle (decides question) ≡ true
