-- The two conventions. Assumes nothing.
use Rattle.std.specs.Prelude.{cond, ◌||◌, nat_le}
use Rattle.conventions.specs.declared.Decision.{Decision}
use Rattle.conventions.specs.declared.Decision.TheVariants.{Settle, Wait}
use Rattle.conventions.specs.declared.Question.{Question}
use Rattle.conventions.specs.Deciding.{Deciding}

-- settle once a day has passed or when closing
abbrev pub decides_daily : Question → Decision
decides_daily question = cond (question.closing || nat_le 1 question.days_since) Settle Wait

-- settle only when closing
abbrev pub decides_at_maturity : Question → Decision
decides_at_maturity question = cond question.closing Settle Wait

-- the meaning of daily, with the proof that it settles a hedge that is closing
abbrev pub daily : Deciding
daily = record { decides = decides_daily; closes = λ question closing. rw closing }

-- the meaning of at maturity, with the same proof
abbrev pub at_maturity : Deciding
at_maturity = record { decides = decides_at_maturity; closes = λ question closing. rw closing }
