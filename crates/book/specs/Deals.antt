-- What a publication makes of the bids and their dollars. Assumes nothing.
use Rattle.std.specs.Prelude.{ℕ, suc, ◌+◌, Bool, cond, List, [], ◌∷◌, ◌==◌, nat_lt}
use Rattle.terms.specs.declared.refusal.Refusal.{Refusal}
use Rattle.terms.specs.declared.refusal.Refusal.TheVariants.{HedgePlacesFull, NumbersUsedUp}
use Rattle.rules.specs.declared.auction.Terms.{Terms}
use Rattle.rules.specs.declared.auction.Bid.{Bid}
use Rattle.rules.specs.declared.hedge.Deal.{Deal}
use Rattle.rules.specs.Allotment.{paired, numbered_from}

-- how many bids got dollars
abbrev pub given : List ℕ → ℕ
given [] = 0
given (d ∷ ds) = cond (d == 0) (given ds) (suc (given ds))

-- the deals that bids with these dollars become, numbered on from the numbers given so far
abbrev pub deals_of : (numbered rate : ℕ) → Terms → List Bid → (dollars : List ℕ) → List Deal
deals_of numbered rate t bids dollars = numbered_from (suc numbered) rate t (paired bids dollars)

-- they want places, then numbers
abbrev pub room_tests : (placed numbered count : ℕ) → List (Refusal × Bool)
room_tests placed numbered count = (HedgePlacesFull, nat_lt 128 (placed + count)) ∷ (NumbersUsedUp, nat_lt 100000 (numbered + count)) ∷ []
