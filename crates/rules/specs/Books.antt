-- What the books of a house hold. Assumes nothing.
use Rattle.std.specs.Prelude.{ℕ, ◌+◌, Bool, true, false, cond, ◌&&◌, List, [], ◌∷◌, ℤ, pos, ◌+ℤ◌, ◌-ℤ◌, Some, None, Option, ◌==◌}
use Rattle.terms.specs.declared.plan.Plan.{Plan}
use Rattle.rules.specs.declared.auction.Kind.TheVariants.{Initial}
use Rattle.rules.specs.declared.auction.Stage.{Stage}
use Rattle.rules.specs.declared.auction.Stage.TheVariants.{Bidding, Sealed}
use Rattle.rules.specs.declared.auction.TicketName.{TicketName}
use Rattle.rules.specs.declared.auction.Terms.{Terms}
use Rattle.rules.specs.declared.auction.Bid.{Bid}
use Rattle.rules.specs.declared.hedge.Hedge.{Hedge}
use Rattle.rules.specs.declared.hedge.Desk.{Desk}
use Rattle.rules.specs.declared.hedge.Line.{Line}

-- ---- sums
abbrev pub total : List ℕ → ℕ
total [] = 0
total (x ∷ xs) = x + total xs

-- the sum of a signed quantity over a list
abbrev pub sum_by : {X : Type 0} → (X → ℤ) → List X → ℤ
sum_by f [] = pos 0
sum_by f (x ∷ xs) = f x +ℤ sum_by f xs

-- ---- parties
-- the central bank
abbrev pub bank : ℕ
bank = 0

-- the parties are 0 to 16
abbrev pub parties : ℕ
parties = 17

-- by rising number
abbrev pub institutions : List ℕ
institutions = 1 ∷ 2 ∷ 3 ∷ 4 ∷ 5 ∷ 6 ∷ 7 ∷ 8 ∷ 9 ∷ 10 ∷ 11 ∷ 12 ∷ 13 ∷ 14 ∷ 15 ∷ 16 ∷ []

-- ---- the standing auction, its bids in falling price, then receipt
pub record Auction : Type 0 where
  pub ticket : TicketName
  pub terms : Terms
  pub bids : List Bid

-- ---- the books
pub record Books : Type 0 where
  pub day : ℕ  -- the day of the last fix, or the starting day
  pub rate : ℕ  -- of the last fix; 0 before the first
  pub auction : Option Auction
  pub auctions : ℕ  -- auction numbers given so far
  pub hedges : List Hedge  -- on their places, by number
  pub numbered : ℕ  -- hedge numbers given so far
  pub matured : ℕ  -- dollars matured at the last fix, less those published in maturity auctions since
  pub desk : ℕ → Desk  -- by institution
  pub balance : ℕ → ℤ  -- by party
  pub free : ℕ  -- free postings

-- a ticket of the bidding stage
abbrev pub bidding : ℕ → TicketName
bidding n = record { number = n; stage = Bidding }

-- a ticket of the sealed stage
abbrev pub sealed : ℕ → TicketName
sealed n = record { number = n; stage = Sealed }

-- two stages are the same
abbrev pub same_stage : Stage → Stage → Bool
same_stage Bidding Bidding = true
same_stage Bidding Sealed = false
same_stage Sealed Bidding = false
same_stage Sealed Sealed = true

-- two tickets are the same by number and stage
abbrev pub same_ticket : TicketName → TicketName → Bool
same_ticket s t = s.number == t.number && same_stage s.stage t.stage

-- an auction stands
abbrev pub stands : Option Auction → Bool
stands None = false
stands (Some a) = true

-- the ticket is the standing auction's, by number and stage
abbrev pub holds : Option Auction → TicketName → Bool
holds None t = false
holds (Some a) t = same_ticket a.ticket t

-- where none stands, an auction that no ticket fits
abbrev pub no_auction : Auction
no_auction = record { ticket = bidding 0; terms = record { kind = Initial; offer = 0; cap = 0; maturity = 0 }; bids = [] }

-- the standing auction
abbrev pub standing : Option Auction → Auction
standing None = no_auction
standing (Some a) = a

-- ---- the books with one part changed
abbrev pub with_auction : Option Auction → ℕ → Books → Books
with_auction a n b = record { day = b.day; rate = b.rate; auction = a; auctions = n; hedges = b.hedges; numbered = b.numbered; matured = b.matured; desk = b.desk; balance = b.balance; free = b.free }

-- only the desk of institution i is another
abbrev pub with_desk : ℕ → Desk → Books → Books
with_desk i d b = record { day = b.day; rate = b.rate; auction = b.auction; auctions = b.auctions; hedges = b.hedges; numbered = b.numbered; matured = b.matured; desk = λ k. cond (k == i) d (b.desk k); balance = b.balance; free = b.free }

-- what a line moves into a party's balance: it goes between the bank and the institution
abbrev pub moves : ℕ → Line → ℤ
moves p l = cond (l.institution == p) l.centavos (pos 0) -ℤ cond (bank == p) l.centavos (pos 0)

-- the balances after lines are posted
abbrev pub posted : List Line → (ℕ → ℤ) → ℕ → ℤ
posted ls f p = f p +ℤ sum_by (moves p) ls

-- a house just made: a plan, and new accounts with so many free postings
abbrev pub opened : Plan → ℕ → Books
opened P n = record {
  day = P.start;
  rate = 0;
  auction = None;
  auctions = 0;
  hedges = [];
  numbered = 0;
  matured = 0;
  desk = λ _. record { admitted = false; collateral = 0; value = pos 0; requirement = 0 };
  balance = λ _. pos 0;
  free = n;
}
