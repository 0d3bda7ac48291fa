-- The bids at one price. Assumes nothing.
use Rattle.std.specs.Prelude.{ℕ, suc, cond, List, [], ◌∷◌, int_lt}
use Rattle.rules.specs.declared.auction.Bid.{Bid}

-- how many bids after a bid stand at its price: up to the first lower one
abbrev pub level_with : Bid → List Bid → ℕ
level_with x [] = 0
level_with x (y ∷ ys) = cond (int_lt y.price x.price) 0 (suc (level_with y ys))

-- how many bids stand at the first price
abbrev pub group_size : List Bid → ℕ
group_size [] = 0
group_size (x ∷ xs) = suc (level_with x xs)
