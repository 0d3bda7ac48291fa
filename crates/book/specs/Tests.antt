-- The tests of the longer calls in two parts, those of the input and those of the state, as the code makes them. Assumes nothing.
use Rattle.std.specs.Prelude.{◌≡◌, ℕ, ◌+◌, ◌*◌, Bool, true, false, not, ◌&&◌, List, [], ◌∷◌, length, take, ℤ, Some, None, Ok, Err, Option, Result, ◌==◌, nat_le, nat_lt, slice_index_or, unsigned_abs}
use Rattle.book.specs.declared.standing.Standing.{Standing}
use Rattle.terms.specs.declared.plan.Plan.{Plan}
use Rattle.terms.specs.declared.refusal.Refusal.{Refusal}
use Rattle.terms.specs.declared.refusal.Refusal.TheVariants.{UnknownParty, AmountOutOfRange, UnknownKind, PriceOutOfRange, NoSuchDay, NotAdmitted, AuctionStands, WrongTicket, BidsFull, CapPassed, OfferAboveMatured, NumbersUsedUp, DayOutOfOrder, NoFreePosting, HedgeNotOpen, NoFixYet}
use Rattle.terms.specs.Ranges.{is_institution, is_millions}
use Rattle.terms.specs.declared.rate.Rate.{Rate}
use Rattle.terms.specs.Refusals.{first}
use Rattle.portfolio.specs.Ending.{none_open}
use Rattle.portfolio.specs.View.{placed_of}
use Rattle.rules.specs.declared.auction.Kind.{Kind}
use Rattle.rules.specs.declared.auction.Kind.TheVariants.{Initial, Maturity}
use Rattle.rules.specs.declared.auction.TicketName.{TicketName}
use Rattle.rules.specs.declared.auction.Terms.{Terms}
use Rattle.rules.specs.declared.auction.Bid.{Bid}
use Rattle.rules.specs.declared.hedge.Desk.{Desk}
use Rattle.rules.specs.Allotment.{millions_of}
use Rattle.rules.specs.Books.{stands, holds}
use Rattle.rules.specs.Numbers.{is_kind}
use Rattle.rules.specs.Rules.{is_business, is_price}
use Rattle.book.specs.Soundness.{no_desk}
use Rattle.book.specs.View.{auction_of}
use Rattle.book.specs.declared.book.Book.{Book}

-- an auction whose bids are units over the current rate
abbrev pub is_maturity : Kind → Bool
is_maturity Initial = false
is_maturity Maturity = true

-- announce: amounts, kind, maturity day
abbrev pub announce_input : Plan → ℤ → ℤ → ℤ → ℤ → List (Refusal × Bool)
announce_input P k o c m = (AmountOutOfRange, not (is_millions o && is_millions c)) ∷ (UnknownKind, not (is_kind k)) ∷ (NoSuchDay, not (is_business P m)) ∷ []

-- announce: the standing auction, matured dollars, numbers, the current day
abbrev pub announce_state : Book → Terms → List (Refusal × Bool)
announce_state b t =
    (AuctionStands, stands (auction_of b.auction (take b.taken b.bids))) ∷ (OfferAboveMatured, is_maturity t.kind && nat_lt b.matured (1000000 * t.offer)) ∷ (NumbersUsedUp, nat_le 100000 b.auctions) ∷ (DayOutOfOrder, nat_le t.maturity b.day) ∷ []

-- the standing auction, if the ticket is its own; otherwise the ticket is wrong
abbrev pub UnderTicket : Option Standing → TicketName → Result Standing Refusal → Type 0
UnderTicket o t (Ok a) = (o ≡ Some a) × (a.ticket ≡ t)
UnderTicket o t (Err why) = ((bids : List Bid) → holds (auction_of o bids) t ≡ false) × (why ≡ WrongTicket)

-- bid, once the ticket is the standing auction's: institution, millions, price
abbrev pub bid_input : Kind → ℕ → ℤ → ℤ → ℤ → List (Refusal × Bool)
bid_input kind rate i p m = (UnknownParty, not (is_institution i)) ∷ (AmountOutOfRange, not (is_millions m)) ∷ (PriceOutOfRange, not (is_price kind rate p)) ∷ []

-- and then: admission, room for a bid, the cap
abbrev pub bid_state : Terms → List Bid → Desk → Bid → List (Refusal × Bool)
bid_state t bids desk x = (NotAdmitted, not desk.admitted) ∷ (BidsFull, nat_le 64 (length bids)) ∷ (CapPassed, nat_lt t.cap (millions_of x.institution bids + x.millions)) ∷ []

-- a question for an institution: refused if it is none, or is not admitted
abbrev pub desk_tests : List Desk → ℤ → List (Refusal × Bool)
desk_tests desks i = (UnknownParty, not (is_institution i)) ∷ (NotAdmitted, not (slice_index_or desks (unsigned_abs i) no_desk).admitted) ∷ []

-- terminate: a free posting, an open hedge of that number, a fix so far
abbrev pub end_tests : ℕ → Book → ℤ → List (Refusal × Bool)
end_tests free k hedge = (NoFreePosting, (free == 0)) ∷ (HedgeNotOpen, none_open hedge (placed_of k.portfolio)) ∷ (NoFixYet, (k.rate == 0)) ∷ []

-- the current rate where no test holds, otherwise the refusal
abbrev pub EndJudged : ℕ → Book → ℤ → Result Rate Refusal → Type 0
EndJudged free k hedge (Ok rate) = (None ≡ first (end_tests free k hedge)) × (rate.units ≡ k.rate)
EndJudged free k hedge (Err why) = Some why ≡ first (end_tests free k hedge)
