-- The two tie rules. Assumes nothing.
use Rattle.std.specs.Prelude.{ℕ, ◌+◌, ◌-◌, ◌*◌, ◌/◌, min, List, [], ◌∷◌, ◌++◌, map, take, drop, sum}

-- each takes what it can, in order of receipt
abbrev pub shares_by_receipt : (amounts : List ℕ) (left : ℕ) → List ℕ
shares_by_receipt [] left = []
shares_by_receipt (a ∷ amounts) left = min a left ∷ shares_by_receipt amounts (left - a)

-- each amount's part of the dollars left: left times amount over the total, rounded down
abbrev pub parts : (left total : ℕ) (amounts : List ℕ) → List ℕ
parts left total = map (λ a. left * a / total)

-- one dollar more to each of the first n
abbrev pub one_more_each : (n : ℕ) (shares : List ℕ) → List ℕ
one_more_each n shares = map (λ s. s + 1) (take n shares) ++ drop n shares

-- the parts, and the dollars that they leave missing go one each to the earliest received
abbrev pub shares_pro_rata : (amounts : List ℕ) (left : ℕ) → List ℕ
shares_pro_rata amounts left = one_more_each (left - sum (parts left (sum amounts) amounts)) (parts left (sum amounts) amounts)
