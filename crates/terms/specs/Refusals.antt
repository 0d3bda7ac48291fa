-- Refusals: the number of each, and how a call chooses one. Assumes nothing.
use Rattle.std.specs.Prelude.{ℕ, Bool, cond, List, [], ◌∷◌, Some, None, Ok, Err, Option, Result}
use Rattle.terms.specs.declared.refusal.Refusal.{Refusal}
use Rattle.terms.specs.declared.refusal.Refusal.TheVariants.{UnknownParty, AmountOutOfRange, UnknownKind, PriceOutOfRange, NoSuchDay, WrongLength, BadNumber, BadRecord, AlreadyAdmitted, NotAdmitted, AuctionStands, WrongTicket, BidsFull, CapPassed, OfferAboveMatured, HedgePlacesFull, NumbersUsedUp, DayOutOfOrder, NoFreePosting, HedgeNotOpen, NoFixYet, CollateralOutOfBounds}

-- the number under which a refusal is told: 1 to 8 come from the input, 11 to 24 from the state
abbrev pub number_of : Refusal → ℕ
number_of UnknownParty = 1
number_of AmountOutOfRange = 2
number_of UnknownKind = 3
number_of PriceOutOfRange = 4
number_of NoSuchDay = 5
number_of WrongLength = 6
number_of BadNumber = 7
number_of BadRecord = 8
number_of AlreadyAdmitted = 11
number_of NotAdmitted = 12
number_of AuctionStands = 13
number_of WrongTicket = 14
number_of BidsFull = 15
number_of CapPassed = 16
number_of OfferAboveMatured = 17
number_of HedgePlacesFull = 18
number_of NumbersUsedUp = 19
number_of DayOutOfOrder = 20
number_of NoFreePosting = 21
number_of HedgeNotOpen = 22
number_of NoFixYet = 23
number_of CollateralOutOfBounds = 24

-- a call's refusals stand in a list with their conditions: it is refused by the first whose condition holds, and accepted if none does
abbrev pub first : List (Refusal × Bool) → Option Refusal
first [] = None
first (t ∷ ts) = cond t.1 (Some t.0) (first ts)

-- what a call answers: its result, or the refusal if there is one
abbrev pub answered : {X : Type 0} → Option Refusal → X → Result X Refusal
answered None x = Ok x
answered (Some e) x = Err e

-- what a list or a record holds after a call: the new, or, after a refusal, what it held
abbrev pub unless_refused : {X : Type 0} → Option Refusal → (new old : X) → X
unless_refused None new old = new
unless_refused (Some e) new old = old
