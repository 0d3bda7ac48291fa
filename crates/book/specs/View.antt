-- How the tables of a house are read as its books. Assumes nothing.
use Rattle.std.specs.Prelude.{◌≡◌, ℕ, ◌-◌, ◌≤◌, List, [], ◌∷◌, ◌++◌, length, take, drop, ℤ, Some, None, Ok, Err, Option, Result, slice_index_or, unsigned_abs}
use Rattle.terms.specs.declared.refusal.Refusal.{Refusal}
use Rattle.terms.specs.declared.institution.Institution.{Institution}
use Rattle.terms.specs.Refusals.{first}
use Rattle.tie_rules.specs.Sharing.{Sharing}
use Rattle.conventions.specs.Deciding.{Deciding}
use Rattle.rules.specs.declared.call.Call.{Call}
use Rattle.rules.specs.Numbers.{Answer}
use Rattle.rules.specs.declared.call.Accepted.TheVariants.{Done, Ticket, Published, Fixed, Terminated}
use Rattle.rules.specs.declared.call.Call.TheVariants.{Publish, Terminate}
use Rattle.rules.specs.declared.hedge.Line.{Line}
use Rattle.rules.specs.Rules.{Told, quietly, tests, step}
use Rattle.rules.specs.declared.auction.TicketName.{TicketName}
use Rattle.rules.specs.declared.auction.Bid.{Bid}
use Rattle.rules.specs.Books.{Auction, Books, posted}
use Rattle.std.specs.List.{AllByRecursion}
use Rattle.portfolio.specs.Fitting.{Payable}
use Rattle.book.specs.declared.publication.Publication.{Publication}
use Rattle.portfolio.specs.View.{placed_of}
use Rattle.book.specs.declared.standing.Standing.{Standing}
pub use Rattle.book.specs.Soundness.{no_desk}
use Rattle.book.specs.declared.book.Book.{Book}

-- the standing auction with its bids
abbrev pub auction_of : Option Standing → List Bid → Option Auction
auction_of None bids = None
auction_of (Some a) bids = Some (record { ticket = a.ticket; terms = a.terms; bids = bids })

-- the ticket of the standing auction
abbrev pub ticket_standing : Option Standing → Option TicketName
ticket_standing None = None
ticket_standing (Some a) = Some a.ticket

-- the used part of each table, over what the accounts hold
abbrev pub books_of : (ℕ → ℤ) → ℕ → Book → Books
books_of balance free k = record {
  day = k.day;
  rate = k.rate;
  auction = auction_of k.auction (take k.taken k.bids);
  auctions = k.auctions;
  hedges = placed_of k.portfolio;
  numbered = k.portfolio.numbered;
  matured = k.matured;
  desk = λ i. slice_index_or k.desks i no_desk;
  balance = balance;
  free = free;
}

-- what a call on the tables did: for any accounts, tie rule and convention, the answer and the books after are those of the rules, and the plan stays
pub record Does (k : Book) (c : Call) (t : Told) (k' : Book) : Type 0 where
  pub steps : (T : Sharing) (C : Deciding) (balance : ℕ → ℤ) (free : ℕ) → step k.plan T C (books_of balance free k) c ≡ (t, books_of balance free k')
  pub plan : k'.plan ≡ k.plan

-- what publish on the tables did under a tie rule: for any accounts and convention, likewise
pub record Publishes (T : Sharing) (k : Book) (n : ℕ) (t : Told) (k' : Book) : Type 0 where
  pub steps : (C : Deciding) (balance : ℕ → ℤ) (free : ℕ) → step k.plan T C (books_of balance free k) (Publish n) ≡ (t, books_of balance free k')
  pub plan : k'.plan ≡ k.plan

-- what a call that tells lines did on the tables under a convention, with so many free postings: for any tie rule and balances the answer and the lines are those of the rules, and so are the books once the lines are posted, which the free postings suffice for
pub record Tells (C : Deciding) (free : ℕ) (k : Book) (c : Call) (t : Told) (k' : Book) : Type 0 where
  pub steps : (T : Sharing) (balance : ℕ → ℤ) → step k.plan T C (books_of balance free k) c ≡ (t, books_of (posted t.lines balance) (free - length t.lines) k')
  pub plan : k'.plan ≡ k.plan
  pub payable : AllByRecursion Payable t.lines
  pub enough : length t.lines ≤ free

-- why a call on the tables is refused, likewise
abbrev pub Refuses : Book → Call → Option Refusal → Type 0
Refuses k c r = (T : Sharing) (C : Deciding) (balance : ℕ → ℤ) (free : ℕ) → r ≡ first (tests k.plan T C (books_of balance free k) c)

-- a test of a call on the tables answers why the call is refused, if it is, or else the institution that it names
abbrev pub Tested : Book → Call → ℤ → Result Institution Refusal → Type 0
Tested k c number (Ok institution) = Refuses k c None × (institution.number ≡ unsigned_abs number)
Tested k c number (Err why) = Refuses k c (Some why)

-- what a call without a result answers
abbrev pub done_or : Result (Unit {0}) Refusal → Answer
done_or (Ok u) = Ok Done
done_or (Err why) = Err why

-- what a call with a ticket's number answers
abbrev pub ticket_or : Result ℕ Refusal → Answer
ticket_or (Ok n) = Ok (Ticket n)
ticket_or (Err why) = Err why

-- what publish answers
abbrev pub published_or : Result Publication Refusal → Answer
published_or (Ok p) = Ok (Published p.first p.count)
published_or (Err why) = Err why

-- what fix answers, with the lines that it wrote from the front of its list
abbrev pub fixed_or : Result ℕ Refusal → List Line → Told
fixed_or (Ok n) list = record { answer = Ok (Fixed n); lines = take n list }
fixed_or (Err why) list = quietly (Err why)

-- the lines that fix wrote, and behind them the list as it was
abbrev pub written_or : Result ℕ Refusal → (new old : List Line) → List Line
written_or (Ok n) new old = take n new ++ drop n old
written_or (Err why) new old = old

-- what terminate answers, with its one line
abbrev pub ended_or : Result Line Refusal → Told
ended_or (Ok l) = record { answer = Ok (Terminated l); lines = l ∷ [] }
ended_or (Err why) = quietly (Err why)

-- what terminate did on the tables, with so many free postings, under any convention
pub record Ends (free : ℕ) (k : Book) (hedge : ℤ) (r : Result Line Refusal) (k' : Book) : Type 0 where
  pub tells : (C : Deciding) → Tells C free k (Terminate hedge) (ended_or r) k'
