-- A room just opened, and a room closed.
use Rattle.std.proofs.Common.{◌≡◌, ℕ, zero, suc, Bool, true, cond, not, List, [], ◌∷◌, get_or, ℤ, pos, Some, None, Option, sym, refl, ap, ◌∙◌, arith}
use mathlib.Core.Path.{fun_ext}
use Rattle.terms.specs.declared.plan.Plan.{Plan}
use Rattle.terms.specs.declared.refusal.Refusal.TheVariants.{WrongTicket}
use Rattle.tie_rules.specs.Sharing.{Sharing}
use Rattle.conventions.specs.Deciding.{Deciding}
use Rattle.rules.specs.declared.auction.TicketName.{TicketName}
use Rattle.rules.specs.declared.call.Call.TheVariants.{Void}
use Rattle.rules.specs.Numbers.{Answer}
use Rattle.rules.specs.Books.{Auction, Books, bidding, sealed, holds, opened, with_auction}
use Rattle.rules.specs.Rules.{Told, quietly, judged, answers, after, step}
use Rattle.book.specs.View.{books_of}
use Rattle.house.specs.Posting.{by_party}
use Rattle.house.specs.Calls.{house_books, Quiet, Made}
use Rattle.house.specs.declared.house.House.{House}
use Rattle.room.specs.Hands.{hand_ticket, is_held, ticket_of}
use Rattle.room.specs.Rooms.{Voided}
use Rattle.room.specs.Runs.{New, closed}
use Rattle.room.specs.Opening.{Opens, Closes}
use Rattle.house.specs.declared.tickets.Ticket.{Ticket}
use Rattle.house.specs.declared.tickets.Ticket.TheVariants as t
use Rattle.room.specs.declared.room.Room.{Room}
use Rattle.room.proofs.Laws.{quiet_makes}
use Rattle.room.proofs.Turning.{holds-is, same-itself}

nought : (xs : List ℤ) → New xs → (i : ℕ) → get_or xs i (pos 0) ≡ pos 0
nought [] h i = refl
nought (x ∷ xs) h zero = h.0
nought (x ∷ xs) h (suc i) = nought xs h.1 i

new_balances : (xs : List ℤ) → New xs → ◌≡◌ {A = ℕ → ℤ} (by_party xs) (λ _. pos 0)
new_balances xs h = fun_ext (λ i. nought xs h i)

no-auction : (o : Option Auction) → None ≡ ticket_of o → o ≡ None
no-auction None e = refl
no-auction (Some x) e = let z : ◌≡◌ {A = ℕ} 0 1 = cc in absurd (omega arith)

holds-held : (o : Option Auction) (t : TicketName) → Some t ≡ ticket_of o → holds o t ≡ true
holds-held o t e = holds-is o t ∙ ap (λ (u : Option TicketName). is_held u t) (sym e) ∙ same-itself t

void_books : (P : Plan) (T : Sharing) (C : Deciding) (b b' : Books) (s : TicketName) (t : Told) → holds b.auction s ≡ true → step P T C b (Void s) ≡ (t, b') → b' ≡ closed b
void_books P T C b b' s t h e = sym (ap (λ q. q.1) e) ∙ ap (λ (u : Bool). (judged (cond (not u) (Some WrongTicket) None) (answers P T C b (Void s)) b (after P T C b (Void s))).1) h

module _ {A T C : Type 0} (balances : A → List ℤ) (free : A → ℕ) (shares : T → Sharing) (decides : C → Deciding) where
  pub opens : (P : Plan) (accounts : A) (rule : T) (convention : C) (h : House A T C) → Made P accounts rule convention h → Opens balances free shares decides P accounts rule convention (record { house = h; hand = None })
  opens P accounts rule convention h m = record {
    plan = m.plan;
    held = m.held;
    rule_is = m.shares;
    convention_is = m.decides;
    led = λ fresh. record { live = ap (λ (b : Books). ticket_of b.auction) (sym (books fresh)); books = books fresh };
  }
    where
      books : New (balances accounts) → house_books balances free h ≡ opened h.book.plan (free accounts)
      books fresh =
          ap (λ (x : A). books_of (by_party (balances x)) (free x) h.book) m.held
          ∙ ap (λ (f : ℕ → ℤ). books_of f (free accounts) h.book) (new_balances (balances accounts) fresh)
          ∙ m.books (free accounts)
          ∙ ap (λ (p : Plan). opened p (free accounts)) (sym m.plan)

  abbrev Left : Option Ticket → House A T C → House A T C → Type 0
  Left k h h' = (hand_ticket k ≡ ticket_of (house_books balances free h).auction → house_books balances free h' ≡ closed (house_books balances free h))
      × (h'.book.plan ≡ h.book.plan) × (h'.tie_rule ≡ h.tie_rule) × (h'.convention ≡ h.convention)

  voided : (s : TicketName) (h h' : House A T C) (x : Answer) → Quiet h (Void s) x h' → Some s ≡ ticket_of (house_books balances free h).auction → house_books balances free h' ≡ closed (house_books balances free h)
  voided s h h' x q l = void_books h.book.plan (shares h.tie_rule) (decides h.convention) (house_books balances free h) (house_books balances free h') s (quietly x)
      (holds-held (house_books balances free h).auction s l) (quiet_makes balances free shares decides h (Void s) x h' q).steps

  left : (k : Option Ticket) (h h' : House A T C) → Voided k h h' → Left k h h'
  left None h h' e = (
    λ l. ap (house_books balances free) e ∙ ap (λ (o : Option Auction). with_auction o h.book.auctions (house_books balances free h)) (no-auction (house_books balances free h).auction l),
    ap (λ (y : House A T C). y.book.plan) e,
    ap (λ (y : House A T C). y.tie_rule) e,
    ap (λ (y : House A T C). y.convention) e,
  )
  left (Some (t.Bidding k)) h h' v = (λ l. voided (bidding k.number) h h' v.0 v.1 l, v.1.tables.plan, v.1.rule, v.1.convention)
  left (Some (t.Sealed k)) h h' v = (λ l. voided (sealed k.number) h h' v.0 v.1 l, v.1.tables.plan, v.1.rule, v.1.convention)

  pub closes : (d : Room A T C) (h' : House A T C) → Voided d.hand d.house h' → Closes balances free shares decides d h'
  closes d h' v = let p = left d.hand d.house h' v in record { books = p.0; plan = p.1; rule_is = p.2; convention_is = p.3 }
