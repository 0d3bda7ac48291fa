-- One call in a room, and the law after it. Assumes nothing.
use Rattle.std.specs.Prelude.{Err, Ok, Some, None, Option, Result, false, ◌≡◌, ℕ, List, ◌∷◌, take, ℤ}
use Rattle.std.specs.List.{AllByRecursion}
use Rattle.terms.specs.declared.plan.Plan.{Plan}
use Rattle.tie_rules.specs.Sharing.{Sharing}
use Rattle.conventions.specs.Deciding.{Deciding}
use Rattle.rules.specs.declared.call.Call.{Call}
use Rattle.rules.specs.declared.call.Call.TheVariants as c
use Rattle.rules.specs.Numbers.{Answer}
use Rattle.rules.specs.declared.call.Accepted.{Accepted}
use Rattle.rules.specs.declared.call.Accepted.TheVariants as a
use Rattle.rules.specs.declared.hedge.Line.{Line}
use Rattle.rules.specs.declared.auction.TicketName.{TicketName}
use Rattle.terms.specs.declared.refusal.Refusal.{Refusal}
use Rattle.terms.specs.declared.refusal.Refusal.TheVariants.{WrongTicket}
use Rattle.rules.specs.Books.{Books}
use Rattle.rules.specs.Rules.{Told}
use Rattle.rules.specs.Law.{History, Run, run, BooksShow, Orderly, Postable, Penal}
use Rattle.house.specs.Calls.{house_books, Quiet, Makes}
use Rattle.house.specs.declared.house.House.{House}
use Rattle.room.specs.Hands.{hand_ticket, is_held, ticket_of}
use Rattle.house.specs.declared.tickets.Ticket.{Ticket}
use Rattle.house.specs.Tickets.{ticket_name}
use Rattle.room.specs.declared.room.Room.{Room}

-- a ticket is taken into an empty hand
pub record Held {A T C : Type 0} (d : Room A T C) (k : Ticket) (d' : Room A T C) : Type 0 where
  pub hand : d'.hand ≡ Some k
  pub house : d.hand ≡ None → d'.house ≡ d.house

-- the ticket in hand is taken, if it is this one
abbrev pub Taken : {A T C : Type 0} → Room A T C → TicketName → Result Ticket Refusal → Room A T C → Type 0
Taken d s (Ok k) d' = (d.hand ≡ Some k) × (ticket_name k ≡ s) × (d'.house ≡ d.house) × (d'.hand ≡ None)
Taken d s (Err why) d' = (is_held (hand_ticket d.hand) s ≡ false) × (d' ≡ d) × (why ≡ WrongTicket)

-- a ticket is voided, whatever the house answers
abbrev pub Voided : {A T C : Type 0} → Option Ticket → House A T C → House A T C → Type 0
Voided None h h' = h' ≡ h
Voided (Some k) h h' = (x : Answer) × Quiet h (c.Void (ticket_name k)) x h'

-- how many lines an accepted fix says that it wrote
abbrev pub lines_written : Accepted → ℕ
lines_written a.Done = 0
lines_written (a.Ticket n) = 0
lines_written (a.Published n k) = 0
lines_written (a.Fixed k) = k
lines_written (a.Terminated l) = 0

-- one line for an accepted termination
abbrev pub line_ended : Accepted → ℕ
line_ended a.Done = 0
line_ended (a.Ticket n) = 0
line_ended (a.Published n k) = 0
line_ended (a.Fixed k) = 0
line_ended (a.Terminated l) = 1

-- how many lines a call told: as many as a fix answers that it wrote, one for a termination, none otherwise
abbrev pub lines_told : Call → Answer → ℕ
lines_told (c.Admit i) x = 0
lines_told (c.Announce k o p m) x = 0
lines_told (c.Bid n i p m) x = 0
lines_told (c.Seal n) x = 0
lines_told (c.Publish n) x = 0
lines_told (c.Void t) x = 0
lines_told (c.Fix d r room) x = elim x [ Ok y ↦ lines_written y | Err why ↦ 0 ]
lines_told (c.Lodge i z) x = 0
lines_told (c.Release i z) x = 0
lines_told (c.Terminate n) x = elim x [ Ok y ↦ line_ended y | Err why ↦ 0 ]

-- an answer, with the lines that stand at the front of a list
abbrev pub told_by : Call → Answer → List Line → Told
told_by x y list = record { answer = y; lines = take (lines_told x y) list }

-- the law whole, of a history and the books after it: balances, payments, allotments and questions; maturities, matured dollars and caps; lines and free postings
pub record Lawful (P : Plan) (T : Sharing) (free : ℕ) (h : History) (b : Books) : Type 0 where
  pub shows : BooksShow T h b
  pub orderly : Orderly P T h
  pub postable : Postable free h b

module _ {A T C : Type 0} (balances : A → List ℤ) (free : A → ℕ) (shares : T → Sharing) (decides : C → Deciding) where
  -- the books of a room's house
  abbrev pub room_books : Room A T C → Books
  room_books d = house_books balances free d.house

  -- the run of a list of calls, the latest first, on a house just made with this one's plan, tie rule and convention
  abbrev pub run_of : Room A T C → ℕ → List Call → Run
  run_of d n past = run d.house.book.plan (shares d.house.tie_rule) (decides d.house.convention) n past

  -- the ticket in hand is the standing auction's
  abbrev pub Live : Room A T C → Type 0
  Live d = hand_ticket d.hand ≡ ticket_of (room_books d).auction

  -- these calls, the latest first, led here from a house just made on new accounts with so many free postings
  pub record Led (d : Room A T C) (n : ℕ) (past : List Call) : Type 0 where
    pub live : Live d
    pub books : room_books d ≡ (run_of d n past).books

  -- the law after one more call: of the calls that led here with this one added, its answer and its lines
  pub record After (d : Room A T C) (c : Call) (t : Told) (d' : Room A T C) (n : ℕ) (past : List Call) : Type 0 where
    pub lawful : Lawful d.house.book.plan (shares d.house.tie_rule) n (record { call = c; answer = t.answer; lines = t.lines } ∷ (run_of d n past).history) (room_books d')
    pub penal : AllByRecursion (Penal (room_books d)) t.lines
    pub led : Led d' n (c ∷ past)

  -- one call: the answer, the lines and the books after are those of the rules; the ticket in hand stays the standing auction's; and whatever calls led here, the law stands after it
  pub record Turns (d : Room A T C) (c : Call) (t : Told) (d' : Room A T C) : Type 0 where
    pub makes : Live d → Makes balances free shares decides d.house c t d'.house
    pub live : Live d → Live d'
    pub law : (n : ℕ) (past : List Call) → Led d n past → After d c t d' n past
