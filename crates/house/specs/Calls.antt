-- What a call does to a house: its answer, its lines, and the books after it. Assumes nothing.
use Rattle.std.specs.Prelude.{◌≡◌, ℕ, List, length, ℤ, pos, Ok, Err, Result}
use Rattle.terms.specs.declared.refusal.Refusal.{Refusal}
use Rattle.tie_rules.specs.Sharing.{Sharing}
use Rattle.conventions.specs.Deciding.{Deciding}
use Rattle.rules.specs.declared.call.Call.{Call}
use Rattle.rules.specs.declared.call.Call.TheVariants.{Fix}
use Rattle.rules.specs.Numbers.{Answer}
use Rattle.rules.specs.declared.call.Accepted.TheVariants.{Ticket, Published}
use Rattle.rules.specs.Books.{Books, opened}
use Rattle.terms.specs.declared.plan.Plan.{Plan}
use Rattle.rules.specs.Rules.{Told, quietly, step}
use Rattle.book.specs.declared.publication.Publication.{Publication}
use Rattle.rules.specs.declared.hedge.Line.{Line}
use Rattle.book.specs.View.{books_of, Does, Publishes, fixed_or, written_or}
use Rattle.house.specs.Posting.{by_party}
use Rattle.house.specs.declared.house.House.{House}
use Rattle.house.specs.declared.tickets.BiddingTicket.{BiddingTicket}
use Rattle.house.specs.declared.tickets.SealedTicket.{SealedTicket}
use Rattle.house.specs.declared.tickets.Returned.{Returned}

-- the books of a house: its tables over what its accounts hold
abbrev pub house_books : {A T C : Type 0} → (A → List ℤ) → (A → ℕ) → House A T C → Books
house_books balances free h = books_of (by_party (balances h.accounts)) (free h.accounts) h.book

-- a call that tells no line: for any accounts, tie rule and convention, the answer and the books after are those of the rules; all that stands beside the tables is as it was
pub record Quiet {A T C : Type 0} (h : House A T C) (c : Call) (a : Answer) (h' : House A T C) : Type 0 where
  pub tables : Does h.book c (quietly a) h'.book
  pub accounts : h'.accounts ≡ h.accounts
  pub rule : h'.tie_rule ≡ h.tie_rule
  pub convention : h'.convention ≡ h.convention

-- publish: likewise, under the tie rule's meaning
pub record Allots {A T C : Type 0} (meaning : T → Sharing) (h : House A T C) (n : ℕ) (a : Answer) (h' : House A T C) : Type 0 where
  pub tables : Publishes (meaning h.tie_rule) h.book n (quietly a) h'.book
  pub accounts : h'.accounts ≡ h.accounts
  pub rule : h'.tie_rule ≡ h.tie_rule
  pub convention : h'.convention ≡ h.convention

-- any call: the answer, the lines and the books after are those of the rules for this house's books; plan, tie rule and convention stay
pub record Makes {A T C : Type 0} (balances : A → List ℤ) (free : A → ℕ) (shares : T → Sharing) (decides : C → Deciding) (h : House A T C) (c : Call) (t : Told) (h' : House A T C) : Type 0 where
  pub steps : step h.book.plan (shares h.tie_rule) (decides h.convention) (house_books balances free h) c ≡ (t, house_books balances free h')
  pub plan : h'.book.plan ≡ h.book.plan
  pub rule : h'.tie_rule ≡ h.tie_rule
  pub convention : h'.convention ≡ h.convention

-- a fix: the lines that it tells stand at the front of the list, and behind them the list is as it was; a refused one leaves the list
pub record Fixes {A T C : Type 0} (balances : A → List ℤ) (free : A → ℕ) (shares : T → Sharing) (decides : C → Deciding) (h : House A T C) (day rate : ℤ) (list : List Line) (a : Result ℕ Refusal) (list' : List Line) (h' : House A T C) : Type 0 where
  pub makes : Makes balances free shares decides h (Fix day rate (length list)) (fixed_or a list') h'
  pub later : list' ≡ written_or a list' list

-- a house just made: over new accounts, its books are the opened ones
pub record Made {A T C : Type 0} (P : Plan) (accounts : A) (rule : T) (convention : C) (h : House A T C) : Type 0 where
  pub plan : h.book.plan ≡ P
  pub held : h.accounts ≡ accounts
  pub shares : h.tie_rule ≡ rule
  pub decides : h.convention ≡ convention
  pub books : (free : ℕ) → books_of (λ _. pos 0) free h.book ≡ opened P free

-- ---- tickets
-- announce gives the ticket that it answers
abbrev pub announced_or : Result BiddingTicket Refusal → Answer
announced_or (Ok k) = Ok (Ticket k.number)
announced_or (Err why) = Err why

-- seal gives the ticket that it answers, or the old one back
abbrev pub sealed_or : Result SealedTicket (Returned BiddingTicket) → Answer
sealed_or (Ok k) = Ok (Ticket k.number)
sealed_or (Err e) = Err e.why

-- publish spends the ticket, or gives it back
abbrev pub published_or : Result Publication (Returned SealedTicket) → Answer
published_or (Ok p) = Ok (Published p.first p.count)
published_or (Err e) = Err e.why

-- a refusal gives back the very ticket
abbrev pub GivesBack : {X Y : Type 0} → X → Result Y (Returned X) → Type 0
GivesBack k (Ok y) = Unit {0}
GivesBack k (Err e) = e.ticket ≡ k
