-- What allotting answers and writes. Assumes nothing.
use Rattle.std.specs.Prelude.{◌≡◌, ℕ, ◌*◌, ◌≤◌, Bool, true, not, List, [], ◌∷◌, map, length, pos, Option, ◌==◌, nat_lt}
use Rattle.std.specs.List.{list_all}
use Rattle.terms.specs.declared.refusal.Refusal.{Refusal}
use Rattle.terms.specs.declared.refusal.Refusal.TheVariants.{WrongLength, AmountOutOfRange}
use Rattle.terms.specs.Refusals.{first}
use Rattle.terms.specs.Ranges.{is_millions}
use Rattle.tie_rules.specs.Sharing.{Sharing}
use Rattle.rules.specs.declared.auction.Bid.{Bid}
use Rattle.rules.specs.Allotment.{prices, allot}

-- a bid names 1 to 2,000 million dollars
abbrev pub in_range : Bid → Bool
in_range x = is_millions (pos x.millions)

-- why an allotment is refused, where there are so many places for the dollars: the lists' lengths come first, then the amounts
abbrev pub allot_refused : (offer : ℕ) (bids : List Bid) (places : ℕ) → Option Refusal
allot_refused offer bids places =
    first (
    (WrongLength, nat_lt 64 (length bids))
    ∷ (WrongLength, not (length bids == places))
    ∷ (AmountOutOfRange, not (is_millions (pos offer)))
    ∷ (AmountOutOfRange, not (list_all in_range bids))
    ∷ [])

-- what is known of an allotment that is not refused
pub record Fair (offer : ℕ) (bids : List Bid) (places : ℕ) : Type 0 where
  pub few : length bids ≤ 64
  pub placed : length bids ≡ places
  pub most : offer ≤ 2000
  pub ranged : list_all in_range bids ≡ true

-- the dollars that each bid gets of an offer of so many millions, in the bids' order
abbrev pub dollars_of : Sharing → ℕ → List Bid → List ℕ
dollars_of T offer bids = map (λ x. x.dollars) (allot T (1000000 * offer) (prices bids))
