-- What the tables of a house keep to, whatever calls were made: the ranges that hold every sum and every payment within bounds. Assumes nothing.
use Rattle.std.specs.Prelude.{ℕ, Bool, true, false, ◌&&◌, List, pos, Some, None, Option, nat_le}
use Rattle.std.specs.List.{list_all}
use Rattle.terms.specs.Ranges.{is_rate}
use Rattle.rules.specs.declared.auction.Kind.{Kind}
use Rattle.rules.specs.declared.auction.Bid.{Bid}
use Rattle.rules.specs.declared.hedge.Desk.{Desk}
use Rattle.rules.specs.Allotment.{assigned_rate}
use Rattle.book.specs.declared.standing.Standing.{Standing}

-- a desk of nobody
abbrev pub no_desk : Desk
no_desk = record { admitted = false; collateral = 0; value = pos 0; requirement = 0 }

-- a bid of an institution, for 1 to 2,000 millions, at a price that would assign a rate
abbrev pub is_sound_bid : Kind → ℕ → Bid → Bool
is_sound_bid kind rate x = nat_le 1 x.institution && nat_le x.institution 16 && nat_le 1 x.millions && nat_le x.millions 2000 && is_rate (assigned_rate kind rate x.price)

-- an offer of 1 to 2,000 millions with sound bids, if an auction stands
abbrev pub is_sound_auction : ℕ → Option Standing → List Bid → Bool
is_sound_auction rate None bids = true
is_sound_auction rate (Some a) bids = nat_le 1 a.terms.offer && nat_le a.terms.offer 2000 && list_all (is_sound_bid a.terms.kind rate) bids
