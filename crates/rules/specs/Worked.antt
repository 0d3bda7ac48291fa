-- Worked runs, computed by the definitions, beside what each call has to answer. Assumes nothing.
use Rattle.std.specs.Prelude.{◌≡◌, ℕ, List, [], ◌∷◌, map, reverse, replicate, ℤ, pos, negsuc, Ok, Err, refl}
use Rattle.std.proofs.Common.{lit≤}
use Rattle.terms.specs.declared.plan.Plan.{Plan}
use Rattle.terms.specs.declared.refusal.Refusal.{Refusal}
use Rattle.terms.specs.declared.refusal.Refusal.TheVariants.{UnknownParty, AmountOutOfRange, UnknownKind, PriceOutOfRange, NoSuchDay, WrongLength, AlreadyAdmitted, NotAdmitted, AuctionStands, WrongTicket, CapPassed, OfferAboveMatured, DayOutOfOrder, NoFreePosting, HedgeNotOpen, CollateralOutOfBounds}
use Rattle.tie_rules.specs.Meanings.{pro_rata}
use Rattle.conventions.specs.Deciding.{Deciding}
use Rattle.conventions.specs.Conventions.{daily, at_maturity}
use Rattle.rules.specs.declared.hedge.Line.{Line}
use Rattle.rules.specs.declared.call.Call.{Call}
use Rattle.rules.specs.declared.call.Call.TheVariants as c
use Rattle.rules.specs.declared.call.Accepted.TheVariants as a
use Rattle.rules.specs.Books.{sealed}
use Rattle.rules.specs.Rules.{Told, quietly}
use Rattle.rules.specs.Law.{run}

-- from Monday 6 March 2017, day 64, with a guarantee of the whole loss and no holidays
abbrev plan : Plan
plan = record { start = 64; part = record { value = 100; whole = lit≤ tt }; holidays = replicate 64 (pos 0); count = 0; dated = lit≤ tt; sized = refl; few = lit≤ tt }

-- calls in their order, under a convention and with so many free postings, and what each has to tell
pub record Worked : Type 0 where
  pub convention : Deciding
  pub free : ℕ
  pub calls : List Call
  pub stated : List Told

-- what the definitions tell of each call
abbrev pub reckoned : Worked → List Told
reckoned w = reverse (map (λ e. record { answer = e.answer; lines = e.lines }) (run plan pro_rata w.convention w.free (reverse w.calls)).history)

-- accepted, with nothing more to tell
abbrev done : Told
done = quietly (Ok a.Done)

-- a payment line
abbrev line : ℕ → ℕ → ℤ → Line
line h i z = record { hedge = h; institution = i; centavos = z }

-- 5 million dollars for bids of 1, 2 and 4 million at one rate, shared pro rata; then a fixing 75 units up
abbrev tie : Worked
tie = record {
  convention = daily;
  free = 100;
  calls = c.Admit (pos 1) ∷ c.Admit (pos 2) ∷ c.Admit (pos 3) ∷ c.Announce (pos 0) (pos 5) (pos 5) (pos 94)
      ∷ c.Bid 1 (pos 1) (pos 195000) (pos 1) ∷ c.Bid 1 (pos 2) (pos 195000) (pos 2) ∷ c.Bid 1 (pos 3) (pos 195000) (pos 4) ∷ c.Seal 1 ∷ c.Publish 1 ∷ c.Fix (pos 65) (pos 195075) 144 ∷ [];
  stated = done ∷ done ∷ done ∷ quietly (Ok (a.Ticket 1)) ∷ done ∷ done ∷ done ∷ quietly (Ok (a.Ticket 1)) ∷ quietly (Ok (a.Published 1 3))
      ∷ record { answer = Ok (a.Fixed 3); lines = line 1 1 (pos 535715) ∷ line 2 2 (pos 1071429) ∷ line 3 3 (pos 2142857) ∷ [] } ∷ [];
}

-- a hedge on a million dollars that matures on day 66 and is rolled the same day: it is closed once and paid once, and no more can be rolled than matured
abbrev roll : Worked
roll = record {
  convention = daily;
  free = 100;
  calls = c.Admit (pos 1) ∷ c.Announce (pos 0) (pos 1) (pos 1) (pos 66) ∷ c.Bid 1 (pos 1) (pos 200000) (pos 1) ∷ c.Seal 1 ∷ c.Publish 1
      ∷ c.Fix (pos 66) (pos 200100) 144 ∷ c.Announce (pos 1) (pos 2) (pos 2) (pos 71) ∷ c.Announce (pos 1) (pos 1) (pos 1) (pos 71) ∷ c.Bid 2 (pos 1) (negsuc 49) (pos 1) ∷ c.Seal 2 ∷ c.Publish 2
      ∷ c.Announce (pos 1) (pos 1) (pos 1) (pos 71) ∷ c.Terminate (pos 1) ∷ c.Fix (pos 67) (pos 200000) 144 ∷ [];
  stated = done ∷ quietly (Ok (a.Ticket 1)) ∷ done ∷ quietly (Ok (a.Ticket 1)) ∷ quietly (Ok (a.Published 1 1))
      ∷ record { answer = Ok (a.Fixed 1); lines = line 1 1 (pos 1000000) ∷ [] } ∷ quietly (Err OfferAboveMatured) ∷ quietly (Ok (a.Ticket 2)) ∷ done ∷ quietly (Ok (a.Ticket 2)) ∷ quietly (Ok (a.Published 2 1))
      ∷ quietly (Err OfferAboveMatured) ∷ quietly (Err HedgeNotOpen) ∷ record { answer = Ok (a.Fixed 1); lines = line 2 1 (negsuc 499999) ∷ [] } ∷ [];
}

-- a termination between two fixings: at the current rate, so the line is nought, and the next fixing tells nothing of it
abbrev end : Worked
end = record {
  convention = daily;
  free = 100;
  calls = c.Admit (pos 1) ∷ c.Announce (pos 0) (pos 1) (pos 1) (pos 94) ∷ c.Bid 1 (pos 1) (pos 200000) (pos 1) ∷ c.Seal 1 ∷ c.Publish 1
      ∷ c.Fix (pos 65) (pos 199999) 144 ∷ c.Terminate (pos 1) ∷ c.Terminate (pos 1) ∷ c.Fix (pos 66) (pos 200500) 144 ∷ [];
  stated = done ∷ quietly (Ok (a.Ticket 1)) ∷ done ∷ quietly (Ok (a.Ticket 1)) ∷ quietly (Ok (a.Published 1 1))
      ∷ record { answer = Ok (a.Fixed 1); lines = line 1 1 (negsuc 9999) ∷ [] } ∷ record { answer = Ok (a.Terminated (line 1 1 (pos 0))); lines = line 1 1 (pos 0) ∷ [] }
      ∷ quietly (Err HedgeNotOpen) ∷ record { answer = Ok (a.Fixed 0); lines = [] } ∷ [];
}

-- settled at maturity, a fall of one unit on a million dollars asks for 10,000 centavos; what is lodged falls short of that by 49 or by 50, so no centavo can be released, and the next fixing tells a penalty
abbrev shortfall : ℕ → ℤ → Worked
shortfall lodged fine = record {
  convention = at_maturity;
  free = 100;
  calls = c.Admit (pos 1) ∷ c.Announce (pos 0) (pos 1) (pos 1) (pos 94) ∷ c.Bid 1 (pos 1) (pos 200000) (pos 1) ∷ c.Seal 1 ∷ c.Publish 1
      ∷ c.Lodge (pos 1) (pos lodged) ∷ c.Fix (pos 65) (pos 199999) 144 ∷ c.Release (pos 1) (pos 1) ∷ c.Fix (pos 66) (pos 199999) 144 ∷ [];
  stated = done ∷ quietly (Ok (a.Ticket 1)) ∷ done ∷ quietly (Ok (a.Ticket 1)) ∷ quietly (Ok (a.Published 1 1))
      ∷ done ∷ record { answer = Ok (a.Fixed 0); lines = [] } ∷ quietly (Err CollateralOutOfBounds) ∷ record { answer = Ok (a.Fixed 1); lines = line 0 1 fine ∷ [] } ∷ [];
}

-- a refusal
abbrev no : Refusal → Told
no why = quietly (Err why)

-- a refused call of each kind, by the first condition that holds
abbrev refusals : Worked
refusals = record {
  convention = daily;
  free = 0;
  calls = c.Admit (pos 17) ∷ c.Admit (pos 1) ∷ c.Admit (pos 1) ∷ c.Announce (pos 2) (pos 0) (pos 1) (pos 63) ∷ c.Announce (pos 2) (pos 1) (pos 1) (pos 63) ∷ c.Announce (pos 1) (pos 1) (pos 1) (pos 63)
      ∷ c.Announce (pos 0) (pos 1) (pos 1) (pos 64) ∷ c.Bid 0 (pos 17) (pos 0) (pos 0) ∷ c.Announce (pos 0) (pos 1) (pos 1) (pos 65) ∷ c.Bid 1 (pos 17) (pos 0) (pos 0) ∷ c.Bid 1 (pos 2) (pos 1) (pos 1) ∷ c.Bid 1 (pos 1) (pos 1) (pos 2)
      ∷ c.Publish 1 ∷ c.Void (sealed 1) ∷ c.Fix (pos 65) (pos 0) 144 ∷ c.Fix (pos 63) (pos 1) 144 ∷ c.Fix (pos 65) (pos 1) 143 ∷ c.Fix (pos 65) (pos 1) 144 ∷ c.Seal 1 ∷ c.Seal 1 ∷ c.Publish 1
      ∷ c.Fix (pos 65) (pos 1) 144 ∷ c.Lodge (pos 0) (pos 0) ∷ c.Lodge (pos 1) (pos 0) ∷ c.Release (pos 2) (pos 1) ∷ c.Release (pos 1) (pos 1) ∷ c.Terminate (pos 1) ∷ [];
  stated = no UnknownParty ∷ done ∷ no AlreadyAdmitted ∷ no AmountOutOfRange ∷ no UnknownKind ∷ no NoSuchDay
      ∷ no DayOutOfOrder ∷ no WrongTicket ∷ quietly (Ok (a.Ticket 1)) ∷ no UnknownParty ∷ no NotAdmitted ∷ no CapPassed
      ∷ no WrongTicket ∷ no WrongTicket ∷ no PriceOutOfRange ∷ no NoSuchDay ∷ no WrongLength ∷ no AuctionStands ∷ quietly (Ok (a.Ticket 1)) ∷ no WrongTicket ∷ quietly (Ok (a.Published 0 0))
      ∷ no NoFreePosting ∷ no UnknownParty ∷ no AmountOutOfRange ∷ no NotAdmitted ∷ no CollateralOutOfBounds ∷ no NoFreePosting ∷ [];
}

-- the worked runs
abbrev pub worked : List Worked
worked = tie ∷ roll ∷ end ∷ shortfall 9951 (pos 0) ∷ shortfall 9950 (negsuc 0) ∷ refusals ∷ []

-- each is as stated
abbrev pub WorkedAsStated : Type 0
WorkedAsStated = map reckoned worked ≡ map (λ w. w.stated) worked
