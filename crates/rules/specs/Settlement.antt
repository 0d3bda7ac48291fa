-- Settlement of hedges, penalties, values and requirements. Assumes nothing.
use Rattle.std.specs.Prelude.{ℕ, ◌-◌, Bool, true, cond, not, ◌&&◌, List, map, ℤ, pos, ◌-ℤ◌, ◌*ℤ◌, neg_ℤ, filter, ◌==◌, nat_lt}
use Rattle.terms.specs.Rounding.{rounded, requirement_of}
use Rattle.conventions.specs.Deciding.{Deciding, is_settle}
use Rattle.rules.specs.declared.hedge.Deal.{Deal}
use Rattle.rules.specs.declared.hedge.Hedge.{Hedge}
use Rattle.rules.specs.declared.hedge.Desk.{Desk}
use Rattle.rules.specs.declared.hedge.Line.{Line}
use Rattle.rules.specs.Books.{institutions, sum_by}

-- a hedge just published: settled at its assignment rate on the day of its auction, and open
abbrev pub fresh : ℕ → Deal → Hedge
fresh day d = record { deal = d; settled = d.assigned; since = day; live = true }

-- the rise of the rate since the last settlement
abbrev pub rise : ℕ → Hedge → ℤ
rise rate x = pos rate -ℤ pos x.settled

-- dollars times that rise
abbrev pub worth : ℕ → Hedge → ℤ
worth rate x = pos x.deal.dollars *ℤ rise rate x

-- the payment that settles it
abbrev pub line_of : ℕ → Hedge → Line
line_of rate x = record { hedge = x.deal.number; institution = x.deal.institution; centavos = rounded (worth rate x) }

-- this is its maturity day
abbrev pub closing : ℕ → Hedge → Bool
closing day x = x.deal.maturity == day

-- whether the convention settles it at a fix
abbrev pub pays : Deciding → ℕ → ℕ → Hedge → Bool
pays C day rate x = is_settle (C.decides (record { day = day; days_since = day - x.since; rise = rise rate x; closing = closing day x }))

-- a hedge after a day's settlement: settled at the rate if it paid, and no longer open if it closes
abbrev pub turned : Bool → Bool → ℕ → ℕ → Hedge → Hedge
turned paid shut day rate x = record { deal = x.deal; settled = cond paid rate x.settled; since = cond paid day x.since; live = x.live && not shut }

-- the hedges still open
abbrev pub open_ones : List Hedge → List Hedge
open_ones = filter (λ x. x.live)

-- open, and of this number
abbrev pub of_number : ℕ → Hedge → Bool
of_number n x = x.live && x.deal.number == n

-- an institution whose collateral is under its requirement pays one percent of the shortfall
abbrev pub short : (ℕ → Desk) → ℕ → Bool
short desk i = (desk i).admitted && nat_lt (desk i).collateral (desk i).requirement

-- what it pays, as a line of no hedge
abbrev pub penalty : (ℕ → Desk) → ℕ → Line
penalty desk i = record { hedge = 0; institution = i; centavos = rounded (neg_ℤ (pos ((desk i).requirement - (desk i).collateral))) }

-- by rising institution
abbrev pub penalties : (ℕ → Desk) → List Line
penalties desk = map (penalty desk) (filter (short desk) institutions)

-- an institution's value: over its open hedges, dollars times the rise since the last settlement
abbrev pub value_of : ℕ → List Hedge → ℕ → ℤ
value_of rate hs i = sum_by (worth rate) (filter (λ x. x.live && x.deal.institution == i) hs)

-- an institution's desk after a fix: value and requirement are reckoned anew
abbrev pub revalued : ℕ → ℕ → List Hedge → (ℕ → Desk) → ℕ → Desk
revalued part rate hs desk i = record { admitted = (desk i).admitted; collateral = (desk i).collateral; value = value_of rate hs i; requirement = requirement_of part (value_of rate hs i) }
