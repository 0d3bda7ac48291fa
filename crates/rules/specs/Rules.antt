-- The rules of the ten calls: for each, its refusals in the order of their tests, its answer, the lines that it tells, and the books after it. Assumes nothing.
use Rattle.std.specs.Prelude.{ℕ, suc, ◌+◌, ◌-◌, ◌*◌, Bool, true, cond, not, ◌&&◌, ◌||◌, List, [], ◌∷◌, ◌++◌, map, length, ℤ, pos, ◌+ℤ◌, Some, None, Ok, Err, filter, Option, ◌==◌, int_le, int_lt, nat_le, nat_lt, unsigned_abs}
use Rattle.terms.specs.declared.plan.Plan.{Plan}
use Rattle.terms.specs.declared.refusal.Refusal.{Refusal}
use Rattle.terms.specs.declared.refusal.Refusal.TheVariants.{UnknownParty, AmountOutOfRange, UnknownKind, PriceOutOfRange, NoSuchDay, WrongLength, AlreadyAdmitted, NotAdmitted, AuctionStands, WrongTicket, BidsFull, CapPassed, OfferAboveMatured, HedgePlacesFull, NumbersUsedUp, DayOutOfOrder, NoFreePosting, HedgeNotOpen, NoFixYet, CollateralOutOfBounds}
use Rattle.terms.specs.Refusals.{first}
use Rattle.terms.specs.Ranges.{within, is_institution, is_millions, is_rate, is_units}
use Rattle.terms.specs.Plans.{is_business_day, holidays_of}
use Rattle.tie_rules.specs.Sharing.{Sharing}
use Rattle.conventions.specs.Deciding.{Deciding}
use Rattle.rules.specs.declared.auction.Kind.{Kind}
use Rattle.rules.specs.declared.auction.Kind.TheVariants.{Initial, Maturity}
use Rattle.rules.specs.declared.auction.Terms.{Terms}
use Rattle.rules.specs.declared.auction.Bid.{Bid}
use Rattle.rules.specs.declared.hedge.Deal.{Deal}
use Rattle.rules.specs.declared.hedge.Hedge.{Hedge}
use Rattle.rules.specs.declared.hedge.Line.{Line}
use Rattle.rules.specs.declared.hedge.Position.{Position}
use Rattle.rules.specs.declared.call.Call.{Call}
use Rattle.rules.specs.declared.call.Call.TheVariants as c
use Rattle.rules.specs.declared.call.Accepted.TheVariants.{Done, Ticket, Published, Fixed, Terminated}
use Rattle.rules.specs.Numbers.{Answer, is_kind, kind_of}
use Rattle.rules.specs.Books.{Books, total, institutions, bidding, sealed, stands, holds, standing, with_auction, with_desk, posted}
use Rattle.rules.specs.Allotment.{entered, millions_of, allotted, numbered_from, sold_at}
use Rattle.rules.specs.Settlement.{fresh, line_of, closing, pays, turned, open_ones, of_number, penalties, revalued}

-- ---- what the tests ask
abbrev pub is_business : Plan → ℤ → Bool
is_business P day = is_business_day (holidays_of P) day

-- centavos that may be lodged or released at once
abbrev pub is_collateral : ℤ → Bool
is_collateral = within (pos 1) (pos 1000000000000000)

-- a bid's price is a rate, or units that with the current rate give one
abbrev pub is_price : Kind → ℕ → ℤ → Bool
is_price Initial rate p = is_rate p
is_price Maturity rate p = is_units p && is_rate (p +ℤ pos rate)

-- the institution is admitted
abbrev pub is_admitted : Books → ℤ → Bool
is_admitted b i = (b.desk (unsigned_abs i)).admitted

-- how many institutions are admitted
abbrev pub admitted_ones : Books → ℕ
admitted_ones b = length (filter (λ i. (b.desk i).admitted) institutions)

-- the terms that announce names
abbrev pub terms_given : ℤ → ℤ → ℤ → ℤ → Terms
terms_given k o c m = record { kind = kind_of k; offer = unsigned_abs o; cap = unsigned_abs c; maturity = unsigned_abs m }

-- the bid that a call names
abbrev pub bid_given : ℤ → ℤ → ℤ → Bid
bid_given i p m = record { institution = unsigned_abs i; price = p; millions = unsigned_abs m }

-- open hedges that a fix on this day would pass over
abbrev pub skipped : ℤ → List Hedge → List Hedge
skipped day hs = filter (λ x. int_lt (pos x.deal.maturity) day) (open_ones hs)

-- ---- an answer, with the lines that the call told
pub record Told : Type 0 where
  pub answer : Answer
  pub lines : List Line

-- an answer without lines
abbrev pub quietly : Answer → Told
quietly a = record { answer = a; lines = [] }

-- the one line of a termination
abbrev pub first_of : List Line → Line
first_of [] = record { hedge = 0; institution = 0; centavos = pos 0 }
first_of (l ∷ ls) = l

-- a refused call answers the refusal and leaves the books
abbrev pub judged : Option Refusal → Told → Books → Books → Told × Books
judged (Some e) a b b' = (quietly (Err e), b)
judged None a b b' = (a, b')

-- the line, and the hedges after, of a termination
abbrev pub end_lines : ℕ → Books → List Line
end_lines n b = map (line_of b.rate) (filter (of_number n) b.hedges)

-- the terminated hedge is settled and closed, the others stay
abbrev pub end_hedges : ℕ → Books → List Hedge
end_hedges n b = map (λ x. turned (of_number n x) (of_number n x) b.day b.rate x) b.hedges

-- ---- the house
module _ (P : Plan) (T : Sharing) (C : Deciding) where
  -- what publish makes: the deals of the standing auction, numbered on
  abbrev pub new_deals : Books → List Deal
  new_deals b = numbered_from (suc b.numbered) b.rate (standing b.auction).terms (allotted T (standing b.auction).terms (standing b.auction).bids)

  -- what fix tells: penalties by institution, then the lines of the open hedges that settle, by number
  abbrev pub fix_lines : ℕ → ℕ → Books → List Line
  fix_lines day rate b = penalties b.desk ++ map (line_of rate) (filter (pays C day rate) (open_ones b.hedges))

  -- the hedges after a fix: the places of closed ones have become free before
  abbrev pub fix_hedges : ℕ → ℕ → Books → List Hedge
  fix_hedges day rate b = map (λ x. turned (pays C day rate x) (closing day x) day rate x) (open_ones b.hedges)

  -- the refusals of a call, in the order of their tests
  abbrev pub tests : Books → Call → List (Refusal × Bool)
  tests b (c.Admit i) = (UnknownParty, not (is_institution i)) ∷ (AlreadyAdmitted, is_admitted b i) ∷ []
  tests b (c.Announce k o c m) =
      (AmountOutOfRange, not (is_millions o && is_millions c)) ∷ (UnknownKind, not (is_kind k)) ∷ (NoSuchDay, not (is_business P m))
      ∷ (AuctionStands, stands b.auction) ∷ (OfferAboveMatured, int_lt (pos 0) k && nat_lt b.matured (1000000 * unsigned_abs o)) ∷ (NumbersUsedUp, nat_le 100000 b.auctions) ∷ (DayOutOfOrder, int_le m (pos b.day)) ∷ []
  tests b (c.Bid n i p m) =
      (WrongTicket, not (holds b.auction (bidding n))) ∷ (UnknownParty, not (is_institution i)) ∷ (AmountOutOfRange, not (is_millions m)) ∷ (PriceOutOfRange, not (is_price (standing b.auction).terms.kind b.rate p))
      ∷ (NotAdmitted, not (is_admitted b i)) ∷ (BidsFull, nat_le 64 (length (standing b.auction).bids)) ∷ (CapPassed, nat_lt (standing b.auction).terms.cap (millions_of (unsigned_abs i) (standing b.auction).bids + unsigned_abs m)) ∷ []
  tests b (c.Seal n) = (WrongTicket, not (holds b.auction (bidding n))) ∷ []
  tests b (c.Publish n) =
      (WrongTicket, not (holds b.auction (sealed n))) ∷ (HedgePlacesFull, nat_lt 128 (length b.hedges + length (new_deals b))) ∷ (NumbersUsedUp, nat_lt 100000 (b.numbered + length (new_deals b))) ∷ []
  tests b (c.Void t) = (WrongTicket, not (holds b.auction t)) ∷ []
  tests b (c.Fix d r room) =
      (PriceOutOfRange, not (is_rate r)) ∷ (NoSuchDay, not (is_business P d)) ∷ (WrongLength, nat_lt room 144) ∷ (AuctionStands, stands b.auction)
      ∷ (DayOutOfOrder, int_le d (pos b.day) || not (length (skipped d b.hedges) == 0))
      ∷ (NoFreePosting, nat_lt b.free (length (open_ones b.hedges) + admitted_ones b)) ∷ []
  tests b (c.Lodge i z) =
      (UnknownParty, not (is_institution i)) ∷ (AmountOutOfRange, not (is_collateral z)) ∷ (NotAdmitted, not (is_admitted b i))
      ∷ (CollateralOutOfBounds, nat_lt 10000000000000000 ((b.desk (unsigned_abs i)).collateral + unsigned_abs z)) ∷ []
  tests b (c.Release i z) =
      (UnknownParty, not (is_institution i)) ∷ (AmountOutOfRange, not (is_collateral z)) ∷ (NotAdmitted, not (is_admitted b i))
      ∷ (CollateralOutOfBounds, nat_lt (b.desk (unsigned_abs i)).collateral ((b.desk (unsigned_abs i)).requirement + unsigned_abs z)) ∷ []
  tests b (c.Terminate n) =
      (NoFreePosting, (b.free == 0)) ∷ (HedgeNotOpen, int_lt n (pos 0) || length (filter (of_number (unsigned_abs n)) b.hedges) == 0) ∷ (NoFixYet, (b.rate == 0)) ∷ []

  -- an accepted call: its answer and its lines
  abbrev pub answers : Books → Call → Told
  answers b (c.Admit i) = quietly (Ok Done)
  answers b (c.Announce k o c m) = quietly (Ok (Ticket (suc b.auctions)))
  answers b (c.Bid n i p m) = quietly (Ok Done)
  answers b (c.Seal n) = quietly (Ok (Ticket n))
  answers b (c.Publish n) = quietly (Ok (Published (cond (length (new_deals b) == 0) 0 (suc b.numbered)) (length (new_deals b))))
  answers b (c.Void t) = quietly (Ok Done)
  answers b (c.Fix d r room) = record { answer = Ok (Fixed (length (fix_lines (unsigned_abs d) (unsigned_abs r) b))); lines = fix_lines (unsigned_abs d) (unsigned_abs r) b }
  answers b (c.Lodge i z) = quietly (Ok Done)
  answers b (c.Release i z) = quietly (Ok Done)
  answers b (c.Terminate n) = record { answer = Ok (Terminated (first_of (end_lines (unsigned_abs n) b))); lines = end_lines (unsigned_abs n) b }

  -- and the books after it
  abbrev pub after : Books → Call → Books
  after b (c.Admit i) = with_desk (unsigned_abs i) (record { admitted = true; collateral = 0; value = pos 0; requirement = 0 }) b
  after b (c.Announce k o c m) = with_auction (Some (record { ticket = bidding (suc b.auctions); terms = terms_given k o c m; bids = [] })) (suc b.auctions) b
  after b (c.Bid n i p m) = with_auction (Some (record { ticket = bidding n; terms = (standing b.auction).terms; bids = entered (bid_given i p m) (standing b.auction).bids })) b.auctions b
  after b (c.Seal n) = with_auction (Some (record { ticket = sealed n; terms = (standing b.auction).terms; bids = (standing b.auction).bids })) b.auctions b
  after b (c.Publish n) = record {
    day = b.day;
    rate = b.rate;
    auction = None;
    auctions = b.auctions;
    hedges = b.hedges ++ map (fresh b.day) (new_deals b);
    numbered = b.numbered + length (new_deals b);
    matured = b.matured - sold_at (standing b.auction).terms.kind (new_deals b);
    desk = b.desk;
    balance = b.balance;
    free = b.free;
  }
  after b (c.Void t) = with_auction None b.auctions b
  after b (c.Fix d r room) = record {
    day = unsigned_abs d;
    rate = unsigned_abs r;
    auction = b.auction;
    auctions = b.auctions;
    hedges = fix_hedges (unsigned_abs d) (unsigned_abs r) b;
    numbered = b.numbered;
    matured = total (map (λ x. x.deal.dollars) (filter (closing (unsigned_abs d)) (open_ones b.hedges)));
    desk = revalued P.part.value (unsigned_abs r) (fix_hedges (unsigned_abs d) (unsigned_abs r) b) b.desk;
    balance = posted (fix_lines (unsigned_abs d) (unsigned_abs r) b) b.balance;
    free = b.free - length (fix_lines (unsigned_abs d) (unsigned_abs r) b);
  }
  after b (c.Lodge i z) = with_desk (unsigned_abs i) (record { admitted = (b.desk (unsigned_abs i)).admitted; collateral = (b.desk (unsigned_abs i)).collateral + unsigned_abs z; value = (b.desk (unsigned_abs i)).value; requirement = (b.desk (unsigned_abs i)).requirement }) b
  after b (c.Release i z) = with_desk (unsigned_abs i) (record { admitted = (b.desk (unsigned_abs i)).admitted; collateral = (b.desk (unsigned_abs i)).collateral - unsigned_abs z; value = (b.desk (unsigned_abs i)).value; requirement = (b.desk (unsigned_abs i)).requirement }) b
  after b (c.Terminate n) = record {
    day = b.day;
    rate = b.rate;
    auction = b.auction;
    auctions = b.auctions;
    hedges = end_hedges (unsigned_abs n) b;
    numbered = b.numbered;
    matured = b.matured;
    desk = b.desk;
    balance = posted (end_lines (unsigned_abs n) b) b.balance;
    free = b.free - 1;
  }

  -- one call: refused by the first test that holds, with the books as they were; otherwise accepted
  abbrev pub step : Books → Call → Told × Books
  step b c = judged (first (tests b c)) (answers b c) b (after b c)

-- ---- the questions
-- for a hedge: the one on a place with that number, open or closed since the last fix
abbrev pub ask : ℕ → List Hedge → Option Hedge
ask n [] = None
ask n (x ∷ xs) = cond (x.deal.number == n) (Some x) (ask n xs)

-- for an institution: refused if it is none, or is not admitted; otherwise its position
abbrev pub question_tests : Books → ℤ → List (Refusal × Bool)
question_tests b i = (UnknownParty, not (is_institution i)) ∷ (NotAdmitted, not (is_admitted b i)) ∷ []

abbrev pub position_of : Books → ℤ → Position
position_of b i = record { balance = b.balance (unsigned_abs i); collateral = (b.desk (unsigned_abs i)).collateral; value = (b.desk (unsigned_abs i)).value; requirement = (b.desk (unsigned_abs i)).requirement }
