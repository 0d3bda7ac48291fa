-- What a change of the tables is to the books.
use Rattle.std.proofs.Common.{Err, Ok, ◌≡◌, ℕ, suc, ◌+◌, ◌*◌, ◌%◌, ◌<◌, Bool, true, false, cond, not, ◌&&◌, eqb, ltb, leb, List, [], ◌∷◌, ◌++◌, length, get_or, take, set, ℤ, pos, nat_abs, ◌≤ℤ◌, Some, None, Option, Result, sym, refl, ap, ◌∙◌, subst, arith, w64, to_z, of_z}
use mathlib.Core.Path.{fun_ext}
use lib.Signed.{le_z, lt_z}
use Rattle.std.proofs.lemmas.Int.{ints}
use Rattle.std.proofs.lemmas.Bool.{eqb-true, eqb-false, eq-eqb, and_parts, and_from, not-false}
use Rattle.std.proofs.lemmas.List.{get_or-set_same, get_or-set_other}
use Rattle.terms.specs.declared.plan.Plan.{Plan}
use Rattle.terms.specs.declared.refusal.Refusal.{Refusal}
use Rattle.terms.specs.declared.refusal.Refusal.TheVariants.{WrongTicket, AuctionStands, OfferAboveMatured, NumbersUsedUp, DayOutOfOrder}
use Rattle.terms.specs.Refusals.{first}
use Rattle.terms.proofs.Answered.{first_some, first-none}
use Rattle.rules.proofs.Runs.{passed}
use Rattle.rules.specs.Numbers.{Answer}
use Rattle.rules.specs.declared.auction.Kind.TheVariants.{Initial, Maturity}
use Rattle.terms.specs.Ranges.{is_day}
use Rattle.terms.specs.Plans.{is_workday, is_among, holidays_of}
use Rattle.tie_rules.specs.Sharing.{Sharing}
use Rattle.conventions.specs.Deciding.{Deciding}
use Rattle.rules.specs.declared.hedge.Desk.{Desk}
use Rattle.rules.specs.declared.auction.Stage.{Stage}
use Rattle.rules.specs.declared.auction.TicketName.{TicketName}
use Rattle.rules.specs.declared.auction.Bid.{Bid}
use Rattle.rules.specs.declared.auction.Stage.TheVariants.{Bidding, Sealed}
use Rattle.rules.specs.declared.auction.Terms.{Terms}
use Rattle.rules.specs.declared.call.Call.{Call}
use Rattle.rules.specs.declared.call.Call.TheVariants.{Announce, Bid as Offers}
use Rattle.rules.specs.declared.call.Accepted.TheVariants.{Done, Ticket}
use Rattle.rules.specs.Books.{Auction, Books, bidding, holds, stands, same_stage, same_ticket, standing, with_desk, with_auction}
use Rattle.rules.specs.Rules.{is_business, Told, quietly, tests, answers, after, judged, step, terms_given, bid_given}
use Rattle.rules.specs.Allotment.{entered}
use Rattle.book.specs.Tests.{is_maturity, announce_input, announce_state, bid_input, bid_state, UnderTicket}
use Rattle.book.specs.View.{auction_of, books_of, Does, Refuses, done_or}
use Rattle.book.specs.Soundness.{no_desk}
use Rattle.book.specs.declared.standing.Standing.{Standing}
use Rattle.book.specs.declared.book.Book.{Book}

module _ (P : Plan) (T : Sharing) (C : Deciding) (b : Books) (c : Call) where
  pub refusing : (e : Refusal) → Some e ≡ first (tests P T C b c) → step P T C b c ≡ (quietly (Err e), b)
  refusing e q = ap (λ (o : Option Refusal). judged o (answers P T C b c) b (after P T C b c)) (sym q)

  pub accepting : None ≡ first (tests P T C b c) → step P T C b c ≡ (answers P T C b c, after P T C b c)
  accepting q = ap (λ (o : Option Refusal). judged o (answers P T C b c) b (after P T C b c)) (sym q)

-- a refused call leaves the tables
pub refused : (k : Book) (c : Call) (why : Refusal) → Refuses k c (Some why) → Does k c (quietly (Err why)) k
refused k c why q = record { steps = λ T C balance free. refusing k.plan T C (books_of balance free k) c why (q T C balance free); plan = refl }

-- the answer of a refused call
pub refused_by : (k : Book) (c : Call) (why : Refusal) (a : Answer) → a ≡ Err why → Refuses k c (Some why) → Does k c (quietly a) k
refused_by k c why a e q = subst (λ (x : Answer). Does k c (quietly x) k) (sym e) (refused k c why q)

-- a test that is not passed
pub tested_error : (k : Book) (c : Call) (why : Refusal) (r : Result (Unit {0}) Refusal) → r ≡ Err why → Refuses k c (Some why) → Does k c (quietly (done_or r)) k
tested_error k c why r e q = refused_by k c why (done_or r) (ap done_or e) q

-- one desk written
pub desk_set : (xs : List Desk) (i : ℕ) (d : Desk) → i < length xs → ◌≡◌ {A = ℕ → Desk} (λ k. cond (eqb k i) d (get_or xs k no_desk)) (λ k. get_or (set xs i d) k no_desk)
desk_set xs i d lt = fun_ext (λ k. go k (eqb k i) refl)
  where
    go : (k : ℕ) (t : Bool) → eqb k i ≡ t → cond (eqb k i) d (get_or xs k no_desk) ≡ get_or (set xs i d) k no_desk
    go k true e = ap (λ t. cond t d (get_or xs k no_desk)) e ∙ sym (get_or-set_same xs i d no_desk lt) ∙ ap (λ (j : ℕ). get_or (set xs i d) j no_desk) (sym (eqb-true k i e))
    go k false e = ap (λ t. cond t d (get_or xs k no_desk)) e ∙ sym (get_or-set_other xs i k d no_desk (eqb-false k i e))

-- the books of a table, with other desks
abbrev with_desks : (ℕ → ℤ) → ℕ → Book → (ℕ → Desk) → Books
with_desks balance free k f = record {
  day = k.day;
  rate = k.rate;
  auction = (books_of balance free k).auction;
  auctions = k.auctions;
  hedges = (books_of balance free k).hedges;
  numbered = k.portfolio.numbered;
  matured = k.matured;
  desk = f;
  balance = balance;
  free = free;
}

-- an accepted call that writes one desk
pub desk_written : (k : Book) (c : Call) (i : ℕ) (d : Desk) → i < length k.desks → Refuses k c None
    → ((T : Sharing) (C : Deciding) (balance : ℕ → ℤ) (free : ℕ) → ◌≡◌ {A = Told × Books} (answers k.plan T C (books_of balance free k) c, after k.plan T C (books_of balance free k) c) (quietly (Ok Done), with_desk i d (books_of balance free k)))
    → (T : Sharing) (C : Deciding) (balance : ℕ → ℤ) (free : ℕ) → step k.plan T C (books_of balance free k) c ≡ (quietly (Ok Done), with_desks balance free k (λ j. get_or (set k.desks i d) j no_desk))
desk_written k c i d lt none is T C balance free =
    accepting k.plan T C (books_of balance free k) c (none T C balance free) ∙ is T C balance free ∙ ap (λ (f : ℕ → Desk). (quietly (Ok Done), with_desks balance free k f)) (desk_set k.desks i d lt)

-- numbers as they come back from their 64 bits
abbrev pub back : ℤ → ℤ
back z = to_z w64 (of_z w64 z)

pub in_calendar : (P : Plan) (day : ℤ) → is_business P day ≡ true → (pos 0 ≤ℤ day) × (day ≤ℤ pos 30314)
in_calendar P day e =
    let w = (and_parts (is_workday day) (not (is_among day (holidays_of P))) e).0 in
    let x = (and_parts (is_day day && not (eqb (nat_abs day % 7) 0)) (not (eqb (nat_abs day % 7) 6)) w).0 in
    let d = (and_parts (is_day day) (not (eqb (nat_abs day % 7) 0)) x).0 in
    let q = and_parts (le_z (pos 0) day) (le_z day (pos 30314)) d in
    let l = q.0 in
    let h = q.1 in
    (omega (arith, ints), omega (arith, ints))

-- the tests of an announcement: of its input, then of the state by the terms that it names
abbrev announce_rest : (k : Book) → ℤ → ℤ → ℤ → List (Refusal × Bool)
announce_rest k kd o m =
    (AuctionStands, stands (auction_of k.auction (take k.taken k.bids))) ∷ (OfferAboveMatured, lt_z (pos 0) kd && ltb k.matured (1000000 * nat_abs o)) ∷ (NumbersUsedUp, leb 100000 k.auctions) ∷ (DayOutOfOrder, le_z m (pos k.day)) ∷ []

kind_is : (t : Bool) → is_maturity (cond t Maturity Initial) ≡ t
kind_is true = refl
kind_is false = refl

state_same : (k : Book) (kd o c m : ℤ) → pos 0 ≤ℤ m → first (announce_state k (terms_given kd o c m)) ≡ first (announce_rest k kd o m)
state_same k kd o c m low =
    let day : leb (nat_abs m) k.day ≡ le_z m (pos k.day) = grind (arith, ints) in
    rw (kind_is (lt_z (pos 0) kd), day) refl

pub announce_refused : (k : Book) (kd o c m : ℤ) (why : Refusal) → Some why ≡ first (announce_input k.plan kd o c m) → Refuses k (Announce kd o c m) (Some why)
announce_refused k kd o c m why q T C balance free = first_some (announce_input k.plan kd o c m) (announce_rest k kd o m) why q

pub announce_tested : (k : Book) (kd o c m : ℤ) (r : Option Refusal) → None ≡ first (announce_input k.plan kd o c m) → r ≡ first (announce_state k (terms_given kd o c m)) → Refuses k (Announce kd o c m) r
announce_tested k kd o c m r q e T C balance free =
    let days = in_calendar k.plan m (not-false (is_business k.plan m) (passed (announce_input k.plan kd o c m) (sym q)).1.1.0) in
    e ∙ state_same k kd o c m days.0 ∙ sym (first-none (announce_input k.plan kd o c m) (announce_rest k kd o m) q)

-- a new auction stands
pub announced : (k : Book) (kd o c m : ℤ) (t : Terms) → t ≡ terms_given kd o c m → Refuses k (Announce kd o c m) None → (T : Sharing) (C : Deciding) (balance : ℕ → ℤ) (free : ℕ)
    → step k.plan T C (books_of balance free k) (Announce kd o c m) ≡ (quietly (Ok (Ticket (k.auctions + 1))), with_auction (Some (record { ticket = record { number = k.auctions + 1; stage = Bidding }; terms = t; bids = [] })) (k.auctions + 1) (books_of balance free k))
announced k kd o c m t e none T C balance free =
    let one : suc k.auctions ≡ k.auctions + 1 = omega arith in
    let at : ℕ → Terms → Told × Books = λ n t. (quietly (Ok (Ticket n)), with_auction (Some (record { ticket = record { number = n; stage = Bidding }; terms = t; bids = [] })) n (books_of balance free k)) in
    accepting k.plan T C (books_of balance free k) (Announce kd o c m) (none T C balance free) ∙ ap (λ n. at n (terms_given kd o c m)) one ∙ ap (at (k.auctions + 1)) (sym e)

-- a ticket is its own
same-itself : (t : TicketName) → same_ticket t t ≡ true
same-itself t = and_from (eqb t.number t.number) _ (eq-eqb t.number t.number refl) (stage t.stage)
  where
    stage : (s : Stage) → same_stage s s ≡ true
    stage Bidding = refl
    stage Sealed = refl

pub under_held : (o : Option Standing) (t : TicketName) (a : Standing) → UnderTicket o t (Ok a) → (xs : List Bid) → true ≡ holds (auction_of o xs) t
under_held o t a u xs = sym (ap (λ q. holds (auction_of q xs) t) u.0 ∙ ap (λ s. same_ticket s t) u.1 ∙ same-itself t)

-- the tests of a bid under the standing auction's ticket
bid_tests : (k : Book) (n : ℕ) (i p m : ℤ) (a : Standing) → UnderTicket k.auction (bidding n) (Ok a) → (T : Sharing) (C : Deciding) (balance : ℕ → ℤ) (free : ℕ)
    → first (tests k.plan T C (books_of balance free k) (Offers n i p m)) ≡ first (bid_input a.terms.kind k.rate i p m ++ bid_state a.terms (take k.taken k.bids) (get_or k.desks (nat_abs i) no_desk) (bid_given i p m))
bid_tests k n i p m a u T C balance free =
    ap (λ o. first ((WrongTicket, not (holds (auction_of o bids) (bidding n))) ∷ bid_input (standing (auction_of o bids)).terms.kind k.rate i p m ++ bid_state (standing (auction_of o bids)).terms (standing (auction_of o bids)).bids (get_or k.desks (nat_abs i) no_desk) (bid_given i p m))) u.0
    ∙ ap (λ t. cond (not (same_ticket t (bidding n))) (Some WrongTicket) rest) u.1
    ∙ ap (λ t. cond (not t) (Some WrongTicket) rest) (same-itself (bidding n))
  where
    bids : List Bid
    bids = take k.taken k.bids

    rest : Option Refusal
    rest = first (bid_input a.terms.kind k.rate i p m ++ bid_state a.terms bids (get_or k.desks (nat_abs i) no_desk) (bid_given i p m))

pub bid_refused : (k : Book) (n : ℕ) (i p m : ℤ) (a : Standing) (why : Refusal) → UnderTicket k.auction (bidding n) (Ok a) → Some why ≡ first (bid_input a.terms.kind k.rate i p m) → Refuses k (Offers n i p m) (Some why)
bid_refused k n i p m a why u q T C balance free =
    first_some (bid_input a.terms.kind k.rate i p m) (bid_state a.terms (take k.taken k.bids) (get_or k.desks (nat_abs i) no_desk) (bid_given i p m)) why q ∙ sym (bid_tests k n i p m a u T C balance free)

pub bid_tested : (k : Book) (n : ℕ) (i p m : ℤ) (a : Standing) (r : Option Refusal) → UnderTicket k.auction (bidding n) (Ok a) → None ≡ first (bid_input a.terms.kind k.rate i p m)
    → r ≡ first (bid_state a.terms (take k.taken k.bids) (get_or k.desks (nat_abs i) no_desk) (bid_given i p m)) → Refuses k (Offers n i p m) r
bid_tested k n i p m a r u q e T C balance free =
    e ∙ sym (bid_tests k n i p m a u T C balance free ∙ first-none (bid_input a.terms.kind k.rate i p m) (bid_state a.terms (take k.taken k.bids) (get_or k.desks (nat_abs i) no_desk) (bid_given i p m)) q)

-- a bid is taken into the standing auction
pub bid_taken : (k : Book) (n : ℕ) (i p m : ℤ) (a : Standing) → UnderTicket k.auction (bidding n) (Ok a) → Refuses k (Offers n i p m) None → (T : Sharing) (C : Deciding) (balance : ℕ → ℤ) (free : ℕ)
    → step k.plan T C (books_of balance free k) (Offers n i p m) ≡ (quietly (Ok Done), with_auction (auction_of k.auction (entered (bid_given i p m) (take k.taken k.bids))) k.auctions (books_of balance free k))
bid_taken k n i p m a u untested T C balance free =
    accepting k.plan T C (books_of balance free k) (Offers n i p m) (untested T C balance free)
    ∙ ap (λ (o : Option Standing). at (Some (record { ticket = bidding n; terms = (standing (auction_of o bids)).terms; bids = entered (bid_given i p m) (standing (auction_of o bids)).bids }))) u.0
    ∙ ap (λ (u : TicketName). at (Some (record { ticket = u; terms = a.terms; bids = entered (bid_given i p m) bids }))) (sym u.1)
    ∙ ap (λ (o : Option Standing). at (auction_of o (entered (bid_given i p m) bids))) (sym u.0)
  where
    bids : List Bid
    bids = take k.taken k.bids

    at : Option Auction → Told × Books
    at o = (quietly (Ok Done), with_auction o k.auctions (books_of balance free k))
