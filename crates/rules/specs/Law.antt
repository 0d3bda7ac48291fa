-- The law of the house, in words that go by a run's calls and answers. A history has its latest call first. Assumes nothing.
use Rattle.std.specs.Prelude.{◌≡◌, ℕ, zero, suc, ◌+◌, ◌-◌, ◌*◌, ◌<◌, ◌≤◌, min, Bool, false, cond, not, ◌&&◌, List, [], ◌∷◌, ◌++◌, map, length, ℤ, pos, ◌+ℤ◌, ◌-ℤ◌, ◌*ℤ◌, neg_ℤ, ◌<ℤ◌, is_some, Some, None, Ok, Err, filter, Option, ◌==◌, ◌≢◌, nat_eq, unsigned_abs}
use Rattle.std.specs.List.{flat_map, AllByRecursion}
use Rattle.terms.specs.declared.plan.Plan.{Plan}
use Rattle.tie_rules.specs.Sharing.{Sharing}
use Rattle.conventions.specs.Deciding.{Deciding}
use Rattle.rules.specs.declared.auction.Terms.{Terms}
use Rattle.rules.specs.declared.auction.Bid.{Bid}
use Rattle.rules.specs.declared.hedge.Deal.{Deal}
use Rattle.rules.specs.declared.hedge.Hedge.{Hedge}
use Rattle.rules.specs.declared.hedge.Line.{Line}
use Rattle.rules.specs.declared.call.Call.{Call}
use Rattle.rules.specs.declared.call.Call.TheVariants as c
use Rattle.rules.specs.declared.call.Accepted.{Accepted}
use Rattle.rules.specs.declared.call.Accepted.TheVariants as a
use Rattle.rules.specs.Numbers.{Answer}
use Rattle.rules.specs.Books.{Books, parties, total, sum_by, opened}
use Rattle.terms.specs.Rounding.{penalty_of}
use Rattle.rules.specs.Allotment.{Got, named, entered, allotted, numbered_from, sold_at, millions_of}
use Rattle.rules.specs.Rules.{terms_given, bid_given, ask, step}

-- a call of the run, its answer, and the lines that it told
pub record Entry : Type 0 where
  pub call : Call
  pub answer : Answer
  pub lines : List Line

-- the latest call first
abbrev pub History : Type 0
History = List Entry

-- ---- what an accepted call brought about, as far as the law speaks of it
pub data Event : Type 0 where
  fixed : (day rate : ℕ) → Event
  ended : (hedge : ℕ) → Event
  announced : (ticket : ℕ) (terms : Terms) → Event
  took : (ticket : ℕ) (of : Bid) → Event
  brought : (ticket first : ℕ) → Event
  nothing : Event

-- the number told by an accepted call: announce's ticket, publish's first hedge
abbrev pub event_of : Call → ℕ → Event
event_of (c.Admit i) n = nothing
event_of (c.Announce k o c m) n = announced n (terms_given k o c m)
event_of (c.Bid t i p m) n = took t (bid_given i p m)
event_of (c.Seal t) n = nothing
event_of (c.Publish t) n = brought t n
event_of (c.Void t) n = nothing
event_of (c.Fix d r room) n = fixed (unsigned_abs d) (unsigned_abs r)
event_of (c.Lodge i z) n = nothing
event_of (c.Release i z) n = nothing
event_of (c.Terminate k) n = ended (unsigned_abs k)

-- the number that an accepted call told for that, if it told one
abbrev pub number_told : Accepted → ℕ
number_told a.Done = 0
number_told (a.Ticket n) = n
number_told (a.Published n k) = n
number_told (a.Fixed k) = 0
number_told (a.Terminated l) = 0

-- a refused call brought about nothing
abbrev pub event : Entry → Event
event e = elim e.answer [ Ok x ↦ event_of e.call (number_told x) | Err why ↦ nothing ]

-- the day and the rate of a fix
abbrev pub Fixing : Type 0
Fixing = record { day : ℕ; rate : ℕ }

-- an accepted fix
abbrev pub fixing : Entry → Option Fixing
fixing e = elim (event e) [ fixed d r ↦ Some (record { day = d; rate = r }) | ended k ↦ None | announced n t ↦ None | took n x ↦ None | brought n k ↦ None | nothing ↦ None ]

-- an accepted termination, by the hedge
abbrev pub ending : Entry → Option ℕ
ending e = elim (event e) [ fixed d r ↦ None | ended k ↦ Some k | announced n t ↦ None | took n x ↦ None | brought n k ↦ None | nothing ↦ None ]

-- a ticket and the terms announced with it
abbrev pub Announced : Type 0
Announced = record { ticket : ℕ; terms : Terms }

-- an accepted announcement
abbrev pub announcing : Entry → Option Announced
announcing e = elim (event e) [ fixed d r ↦ None | ended k ↦ None | announced n t ↦ Some (record { ticket = n; terms = t }) | took n x ↦ None | brought n k ↦ None | nothing ↦ None ]

-- a bid under a ticket
abbrev pub Bidden : Type 0
Bidden = record { ticket : ℕ; of : Bid }

-- an accepted bid
abbrev pub bidden : Entry → Option Bidden
bidden e = elim (event e) [ fixed d r ↦ None | ended k ↦ None | announced n t ↦ None | took n x ↦ Some (record { ticket = n; of = x }) | brought n k ↦ None | nothing ↦ None ]

-- a published ticket, and the first hedge number told
abbrev pub Brought : Type 0
Brought = record { ticket : ℕ; first : ℕ }

-- an accepted publication
abbrev pub publishing : Entry → Option Brought
publishing e = elim (event e) [ fixed d r ↦ None | ended k ↦ None | announced n t ↦ None | took n x ↦ None | brought n k ↦ Some (record { ticket = n; first = k }) | nothing ↦ None ]

-- ---- lines and rates
abbrev pub told : History → List Line
told = flat_map (λ e. e.lines)

-- the lines for an institution
abbrev pub lines_for : ℕ → List Line → List Line
lines_for i = filter (λ l. nat_eq l.institution i)

-- the lines of a hedge
abbrev pub lines_of : ℕ → List Line → List Line
lines_of k = filter (λ l. nat_eq l.hedge k)

-- the sum of their centavos
abbrev pub sum_of : List Line → ℤ
sum_of = sum_by (λ l. l.centavos)

-- the current rate: that of the last accepted fix
abbrev pub rate_now : History → ℕ
rate_now [] = 0
rate_now (e ∷ h) = elim (fixing e) [ Some f ↦ f.rate | None ↦ rate_now h ]

-- ---- auctions
-- the terms announced with ticket n
abbrev pub terms_of : ℕ → History → Terms
terms_of n [] = terms_given (pos 0) (pos 0) (pos 0) (pos 0)
terms_of n (e ∷ h) = elim (announcing e) [ Some a ↦ cond (a.ticket == n) a.terms (terms_of n h) | None ↦ terms_of n h ]

-- the bids accepted under ticket n, in falling price, then receipt
abbrev pub bids_of : ℕ → History → List Bid
bids_of n [] = []
bids_of n (e ∷ h) = elim (bidden e) [ Some x ↦ cond (x.ticket == n) (entered x.of (bids_of n h)) (bids_of n h) | None ↦ bids_of n h ]

-- the publications: the ticket, the first hedge number, and the rate current then
abbrev pub Publication : Type 0
Publication = record { ticket : ℕ; first : ℕ; rate : ℕ }

-- the latest first
abbrev pub publications : History → List Publication
publications [] = []
publications (e ∷ h) = elim (publishing e) [ Some p ↦ record { ticket = p.ticket; first = p.first; rate = rate_now h } ∷ publications h | None ↦ publications h ]

-- what each bid of auction n got
abbrev pub got_of : Sharing → ℕ → History → List Got
got_of T n h = allotted T (terms_of n h) (bids_of n h)

-- ---- hedges
-- every hedge ever published
abbrev pub dealt : Sharing → History → List Deal
dealt T h = flat_map (λ p. numbered_from p.first p.rate (terms_of p.ticket h) (got_of T p.ticket h)) (publications h)

-- what holds from now on: the new if there is a line, otherwise the old
abbrev pub latest : List Line → ℕ → ℕ → ℕ
latest [] new old = old
latest (l ∷ ls) new old = new

-- the first of two, where there is one
abbrev pub earliest : Option ℕ → Option ℕ → Option ℕ
earliest (Some r) o = Some r
earliest None o = o

-- the rate current after the call that told its latest line, or its assignment rate
abbrev pub last_settled : Deal → History → ℕ
last_settled g [] = g.assigned
last_settled g (e ∷ h) = latest (lines_of g.number e.lines) (rate_now (e ∷ h)) (last_settled g h)

-- a fix on its maturity day, or its termination
abbrev pub closes : Deal → Entry → Bool
closes g e = elim (fixing e) [ Some f ↦ nat_eq g.maturity f.day | None ↦ elim (ending e) [ Some k ↦ nat_eq g.number k | None ↦ false ] ]

-- the rate current after the first call that closed it
abbrev pub closed_at : Deal → History → Option ℕ
closed_at g [] = None
closed_at g (e ∷ h) = earliest (closed_at g h) (cond (closes g e) (Some (rate_now (e ∷ h))) None)

-- the lines, if it had closed by then
abbrev pub if_closed : Option ℕ → List Line → List Line
if_closed (Some r) ls = ls
if_closed None ls = []

-- the lines told of it by calls after the one that closed it
abbrev pub late : Deal → History → List Line
late g [] = []
late g (e ∷ h) = if_closed (closed_at g h) (lines_of g.number e.lines) ++ late g h

-- ---- the claims
abbrev pub near : ℕ → ℤ → ℤ → Type 0
near k x y = unsigned_abs (x -ℤ y) ≤ k

-- the sum of a quantity over the parties below n
abbrev pub sum_to : ℕ → (ℕ → ℤ) → ℤ
sum_to zero f = pos 0
sum_to (suc n) f = sum_to n f +ℤ f n

-- all balances add up to nought, and an institution's is the sum of the lines told for it
pub record Balanced (h : History) (b : Books) : Type 0 where
  pub nought : sum_to parties b.balance ≡ pos 0
  pub each : (i : ℕ) → 1 ≤ i → i < parties → b.balance i ≡ sum_of (lines_for i (told h))

-- a hundred times the sum of a hedge's lines is within 50 a line of its dollars times (last settled rate less assignment rate); closed, it was last settled at its closing rate and gets no later line; its lines name its institution
pub record Paid (h : History) (g : Deal) : Type 0 where
  pub close : near (50 * length (lines_of g.number (told h))) (pos 100 *ℤ sum_of (lines_of g.number (told h))) (pos g.dollars *ℤ (pos (last_settled g h) -ℤ pos g.assigned))
  pub at_closing : (r : ℕ) → closed_at g h ≡ Some r → last_settled g h ≡ r
  pub none_late : late g h ≡ []
  pub whose : AllByRecursion (λ l. l.institution ≡ g.institution) (lines_of g.number (told h))

-- an auction allotted the smaller of its offer and the sum of its bids, to its own bids; none got more than it named, and where one got less, no lower price got a dollar
pub record Allotted (offer : ℕ) (xs : List Bid) (gs : List Got) : Type 0 where
  pub whose : map (λ x. x.of) gs ≡ xs
  pub whole : total (map (λ x. x.dollars) gs) ≡ min (1000000 * offer) (total (map named xs))
  pub no_more : AllByRecursion (λ x. x.dollars ≤ named x.of) gs
  pub no_lower : AllByRecursion (λ x. AllByRecursion (λ y. x.dollars < named x.of → y.of.price <ℤ x.of.price → y.dollars ≡ 0) gs) gs

-- its place became free: it had closed before the last accepted fix
abbrev pub freed : Deal → History → Bool
freed g [] = false
freed g (e ∷ h) = elim (fixing e) [ Some f ↦ is_some (closed_at g h) | None ↦ freed g h ]

-- the day that a record names as its last settlement's; the law leaves it open
abbrev pub since_of : Option Hedge → ℕ
since_of None = 0
since_of (Some x) = x.since

-- a question for a published hedge answers its deal, its last settled rate and whether it is open; once its place became free, that it is absent
abbrev pub Recorded : History → Books → Deal → Type 0
Recorded h b g =
    ask g.number b.hedges
    ≡ cond (freed g h) None (Some (record { deal = g; settled = last_settled g h; since = since_of (ask g.number b.hedges); live = not (is_some (closed_at g h)) }))

-- what the books show after a history
pub record BooksShow (T : Sharing) (h : History) (b : Books) : Type 0 where
  pub balances : Balanced h b
  pub hedges : AllByRecursion (Paid h) (dealt T h)
  pub records : AllByRecursion (Recorded h b) (dealt T h)
  pub strangers : (n : ℕ) → AllByRecursion (λ g. g.number ≢ n) (dealt T h) → ask n b.hedges ≡ None
  pub auctions : AllByRecursion (λ p. Allotted (terms_of p.ticket h).offer (bids_of p.ticket h) (got_of T p.ticket h)) (publications h)

-- ---- further claims
-- the current day: that of the last accepted fix, or the plan's start
abbrev pub day_now : Plan → History → ℕ
day_now P [] = P.start
day_now P (e ∷ h) = elim (fixing e) [ Some f ↦ f.day | None ↦ day_now P h ]

-- the dollars of the hedges that mature on a day, of those still open
abbrev pub maturing : Sharing → History → ℕ → ℕ
maturing T h day = total (map (λ g. g.dollars) (filter (λ g. not (is_some (closed_at g h)) && g.maturity == day) (dealt T h)))

-- the dollars that matured at the last accepted fix
abbrev pub matured_at : Sharing → History → ℕ
matured_at T [] = 0
matured_at T (e ∷ h) = elim (fixing e) [ Some f ↦ maturing T h f.day | None ↦ matured_at T h ]

-- the dollars that a publication allotted, if its auction was a maturity auction
abbrev pub rolled_by : Sharing → History → Brought → ℕ
rolled_by T h p = sold_at (terms_of p.ticket h).kind (numbered_from p.first (rate_now h) (terms_of p.ticket h) (got_of T p.ticket h))

-- the dollars allotted in maturity auctions since the last accepted fix
abbrev pub rolled_since : Sharing → History → ℕ
rolled_since T [] = 0
rolled_since T (e ∷ h) = elim (fixing e) [ Some f ↦ 0 | None ↦ elim (publishing e) [ Some p ↦ rolled_by T h p + rolled_since T h | None ↦ rolled_since T h ] ]

-- no hedge is open past its maturity day; maturity auctions never allot more than matured; no institution's accepted bids pass the cap
pub record Orderly (P : Plan) (T : Sharing) (h : History) : Type 0 where
  pub none_past : AllByRecursion (λ g. closed_at g h ≡ None → day_now P h ≤ g.maturity) (dealt T h)
  pub covered : rolled_since T h ≤ matured_at T h
  pub capped : (n i : ℕ) → millions_of i (bids_of n h) ≤ (terms_of n h).cap

-- a penalty line is one percent of the institution's shortfall in collateral, as the books had it before the call
abbrev pub Penal : Books → Line → Type 0
Penal b l = l.hedge ≡ 0 → ((b.desk l.institution).collateral < (b.desk l.institution).requirement)
    × (l.centavos ≡ neg_ℤ (penalty_of ((b.desk l.institution).requirement - (b.desk l.institution).collateral)))

-- one line, if the call terminated a hedge
abbrev pub OneIf : Option ℕ → List Line → Type 0
OneIf None ls = Unit {0}
OneIf (Some k) ls = length ls ≡ 1

-- every line is one that accounts post, each took one of the free postings, and a termination told just one
pub record Postable (free : ℕ) (h : History) (b : Books) : Type 0 where
  pub amounts : AllByRecursion (λ l. unsigned_abs l.centavos ≤ 30000000000000) (told h)
  pub count : b.free + length (told h) ≡ free
  pub one : AllByRecursion (λ e. OneIf (ending e) e.lines) h

-- ---- runs
pub record Run : Type 0 where
  pub history : History
  pub books : Books

module _ (P : Plan) (T : Sharing) (C : Deciding) where
  -- one call more
  abbrev pub next : Call → Run → Run
  next c r = record { history = record { call = c; answer = (step P T C r.books c).0.answer; lines = (step P T C r.books c).0.lines } ∷ r.history; books = (step P T C r.books c).1 }

  -- the run of a list of calls, the latest first, on a house just made
  abbrev pub run : ℕ → List Call → Run
  run free [] = record { history = []; books = opened P free }
  run free (c ∷ cs) = next c (run free cs)

-- the law: over every plan, tie rule, convention, number of free postings and list of calls, and so after every call
abbrev pub Law : Type 0
Law = (P : Plan) (T : Sharing) (C : Deciding) (free : ℕ) (calls : List Call) → BooksShow T (run P T C free calls).history (run P T C free calls).books

-- every run is orderly
abbrev pub OrderKept : Type 0
OrderKept = (P : Plan) (T : Sharing) (C : Deciding) (free : ℕ) (calls : List Call) → Orderly P T (run P T C free calls).history

-- of every call made after every list of calls
abbrev pub PenaltiesOnePercent : Type 0
PenaltiesOnePercent = (P : Plan) (T : Sharing) (C : Deciding) (free : ℕ) (calls : List Call) (c : Call) → AllByRecursion (Penal (run P T C free calls).books) (step P T C (run P T C free calls).books c).0.lines

-- in every run the lines fit the postings
abbrev pub PostingsFit : Type 0
PostingsFit = (P : Plan) (T : Sharing) (C : Deciding) (free : ℕ) (calls : List Call) → Postable free (run P T C free calls).history (run P T C free calls).books
