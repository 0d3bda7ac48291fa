-- What every hedge on a place keeps to, and every line that settles one. Assumes nothing.
use Rattle.std.specs.Prelude.{ℕ, ◌≤◌, Bool, false, ◌&&◌, List, [], ◌∷◌, nat_le, nat_lt, unsigned_abs}
use Rattle.rules.specs.declared.hedge.Hedge.{Hedge}
use Rattle.rules.specs.declared.hedge.Line.{Line}

-- a hedge of an institution, of at most 2,000 million dollars, settled at a rate
abbrev pub is_fit : Hedge → Bool
is_fit x = nat_le 1 x.deal.institution && nat_le x.deal.institution 16 && nat_le x.deal.dollars 2000000000 && nat_le x.settled 999999

-- numbers rise, from above the lowest to at most the highest, and each hedge is fit
abbrev pub is_sound : ℕ → ℕ → List Hedge → Bool
is_sound lowest highest [] = nat_le lowest highest
is_sound lowest highest (x ∷ xs) = nat_lt lowest x.deal.number && is_fit x && is_sound x.deal.number highest xs

-- a line of an institution that one posting can carry
abbrev pub Payable : Line → Type 0
Payable l = (1 ≤ l.institution) × (l.institution ≤ 16) × (unsigned_abs l.centavos ≤ 30000000000000)

-- the hedge of an empty place
abbrev pub no_hedge : Hedge
no_hedge = record { deal = record { number = 0; institution = 0; dollars = 0; assigned = 0; maturity = 0 }; settled = 0; since = 0; live = false }
