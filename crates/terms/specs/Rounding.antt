-- How amounts are rounded to whole centavos. Assumes nothing.
use Rattle.std.specs.Prelude.{ℕ, suc, ◌+◌, ◌*◌, ◌/◌, ℤ, pos, negsuc, neg_ℤ}

-- a hundredth, rounded to the nearest, half away from nought
abbrev pub rounded : ℤ → ℤ
rounded (pos n) = pos ((n + 50) / 100)
rounded (negsuc n) = neg_ℤ (pos ((suc n + 50) / 100))

-- a hundredth, rounded up
abbrev pub rounded_up : ℕ → ℕ
rounded_up n = (n + 99) / 100

-- the guarantee for a value in dollars times units: for a loss, its size in centavos rounded up, times the part in percent, rounded up; otherwise nought
abbrev pub requirement_of : ℕ → ℤ → ℕ
requirement_of part (pos n) = 0
requirement_of part (negsuc n) = rounded_up (rounded_up (suc n) * part)

-- the penalty for a shortfall in collateral: one percent of it
abbrev pub penalty_of : ℕ → ℤ
penalty_of shortfall = rounded (pos shortfall)
