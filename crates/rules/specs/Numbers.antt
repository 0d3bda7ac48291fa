-- The numbers under which kinds and answers are told. Assumes nothing.
use Rattle.std.specs.Prelude.{ℕ, Bool, cond, ℤ, pos, Ok, Err, Result, int_lt}
use Rattle.terms.specs.declared.refusal.Refusal.{Refusal}
use Rattle.terms.specs.Ranges.{within}
use Rattle.terms.specs.Refusals.{number_of}
use Rattle.rules.specs.declared.auction.Kind.{Kind}
use Rattle.rules.specs.declared.auction.Kind.TheVariants.{Initial, Maturity}
use Rattle.rules.specs.declared.call.Accepted.{Accepted}

-- kind 0 is an initial auction, kind 1 a maturity auction
abbrev pub kind_number : Kind → ℕ
kind_number Initial = 0
kind_number Maturity = 1

-- a number that names a kind
abbrev pub is_kind : ℤ → Bool
is_kind = within (pos 0) (pos 1)

-- the kind that it names
abbrev pub kind_of : ℤ → Kind
kind_of k = cond (int_lt (pos 0) k) Maturity Initial

-- a call answers what it accepted, or its refusal
abbrev pub Answer : Type 0
Answer = Result Accepted Refusal

-- an accepted call is told as 0, a refused one by its refusal's number
abbrev pub answer_number : Answer → ℕ
answer_number (Ok accepted) = 0
answer_number (Err why) = number_of why
