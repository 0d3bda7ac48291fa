-- What a tie rule is told and may answer, and when it refuses. Assumes nothing.
use Rattle.std.specs.Prelude.{◌≡◌, ℕ, ◌<◌, ◌≤◌, Bool, true, not, ◌&&◌, List, [], ◌∷◌, length, sum, Option, ◌==◌, nat_le, nat_lt}
use Rattle.std.specs.List.{AllZip, list_all}
use Rattle.terms.specs.declared.refusal.Refusal.{Refusal}
use Rattle.terms.specs.declared.refusal.Refusal.TheVariants.{WrongLength, AmountOutOfRange}
use Rattle.terms.specs.Refusals.{first}

-- an amount, or the dollars left: 1 to 2,000,000,000
abbrev pub is_dollars : ℕ → Bool
is_dollars n = nat_le 1 n && nat_le n 2000000000

-- a tie: the amounts in order of receipt want more dollars than are left
pub record Tied (amounts : List ℕ) (left : ℕ) : Type 0 where
  pub few : length amounts ≤ 64
  pub each : list_all is_dollars amounts ≡ true
  pub some : 1 ≤ left
  pub most : left ≤ 2000000000
  pub short : left < sum amounts

-- what a tie rule means: the shares depend on the amounts and the dollars left alone; of a tie, they total the dollars left, and none is above its amount
pub record Sharing : Type 0 where
  pub shares : (amounts : List ℕ) (left : ℕ) → List ℕ
  pub whole : (amounts : List ℕ) (left : ℕ) → Tied amounts left → sum (shares amounts left) ≡ left
  pub within : (amounts : List ℕ) (left : ℕ) → Tied amounts left → AllZip ◌≤◌ (shares amounts left) amounts

-- why a sharing is refused, where there are so many places for the shares: the lists' lengths come first, then the dollars
abbrev pub refusal : (amounts : List ℕ) (left places : ℕ) → Option Refusal
refusal amounts left places =
    first (
    (WrongLength, nat_lt 64 (length amounts))
    ∷ (WrongLength, not (length amounts == places))
    ∷ (AmountOutOfRange, not (list_all is_dollars amounts))
    ∷ (AmountOutOfRange, not (is_dollars left))
    ∷ (AmountOutOfRange, nat_le (sum amounts) left)
    ∷ [])
