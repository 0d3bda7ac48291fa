-- The ticket in hand, over each call.
use Rattle.std.proofs.Common.{Err, Ok, ◌≡◌, ℕ, suc, ◌+◌, Bool, true, false, cond, not, ◌&&◌, ◌||◌, eqb, ltb, List, [], ◌∷◌, ◌++◌, length, take, drop, set, ℤ, pos, Some, None, Option, sym, refl, ap, ◌∙◌, subst, arith}
use lib.Signed.{le_z}
use Rattle.std.proofs.lemmas.Bool.{both_ways, and_parts, eqb-true, ne_eqb, eq-eqb}
use Rattle.terms.specs.declared.plan.Plan.{Plan}
use Rattle.terms.specs.declared.refusal.Refusal.{Refusal}
use Rattle.terms.specs.declared.refusal.Refusal.TheVariants.{PriceOutOfRange, NoSuchDay, WrongLength, AuctionStands, WrongTicket, DayOutOfOrder, NoFreePosting}
use Rattle.terms.specs.Ranges.{is_rate}
use Rattle.terms.specs.Refusals.{first}
use Rattle.tie_rules.specs.Sharing.{Sharing}
use Rattle.conventions.specs.Deciding.{Deciding}
use Rattle.rules.specs.declared.auction.Stage.{Stage}
use Rattle.rules.specs.declared.auction.Stage.TheVariants.{Bidding, Sealed}
use Rattle.rules.specs.declared.auction.TicketName.{TicketName}
use Rattle.rules.specs.declared.call.Call.{Call}
use Rattle.rules.specs.declared.call.Call.TheVariants as c
use Rattle.rules.specs.Numbers.{Answer}
use Rattle.rules.specs.declared.call.Accepted.TheVariants as a
use Rattle.rules.specs.Books.{Auction, Books, bidding, sealed, same_stage, same_ticket, stands, holds}
use Rattle.rules.specs.declared.hedge.Line.{Line}
use Rattle.rules.specs.Settlement.{open_ones}
use Rattle.rules.specs.Rules.{Told, quietly, is_business, skipped, admitted_ones, judged, tests, answers, after, step}
use Rattle.rules.proofs.Runs.{passed}
use Rattle.book.specs.View.{books_of}
use Rattle.book.proofs.Steps.{refusing}
use Rattle.house.specs.Posting.{by_party}
use Rattle.house.specs.Calls.{house_books, Allots, Makes}
use Rattle.house.specs.declared.house.House.{House}
use Rattle.house.specs.declared.tickets.BiddingTicket.{BiddingTicket}
use Rattle.house.specs.declared.tickets.SealedTicket.{SealedTicket}
use Rattle.room.specs.Hands.{hand_ticket, is_held, ticket_of}
use Rattle.room.specs.Rooms.{room_books, Live, Taken, Turns}
use Rattle.house.specs.declared.tickets.Ticket.{Ticket}
use Rattle.house.specs.Tickets.{ticket_name}
use Rattle.house.specs.declared.tickets.Ticket.TheVariants as t
use Rattle.room.specs.declared.room.Room.{Room}
use Rattle.room.proofs.Laws.{turns}

-- ---- tickets
same-stage : (s t : Stage) → same_stage s t ≡ true → s ≡ t
same-stage Bidding Bidding e = refl
same-stage Bidding Sealed e = absurd (both_ways false refl e)
same-stage Sealed Bidding e = absurd (both_ways false refl e)
same-stage Sealed Sealed e = refl

same_name : (s t : TicketName) → same_ticket s t ≡ true → s ≡ t
same_name s t e =
    let q = and_parts (eqb s.number t.number) (same_stage s.stage t.stage) e in
    let n = eqb-true s.number t.number q.0 in
    let g = same-stage s.stage t.stage q.1 in
    λ j. record { number = n j; stage = g j }

holds-ticket : (o : Option Auction) (t : TicketName) → holds o t ≡ true → ticket_of o ≡ Some t
holds-ticket None t e = absurd (both_ways false refl e)
holds-ticket (Some x) t e = ap Some (same_name x.ticket t e)

pub holds-is : (o : Option Auction) (t : TicketName) → holds o t ≡ is_held (ticket_of o) t
holds-is None t = refl
holds-is (Some x) t = refl

stands-none : (o : Option Auction) → stands o ≡ false → ticket_of o ≡ None
stands-none None e = refl
stands-none (Some x) e = absurd (both_ways true e refl)

hand_none : (k : Option Ticket) → hand_ticket k ≡ None → k ≡ None
hand_none None e = refl
hand_none (Some (t.Bidding t)) e = let z : ◌≡◌ {A = ℕ} 0 1 = cc in absurd (omega arith)
hand_none (Some (t.Sealed t)) e = let z : ◌≡◌ {A = ℕ} 0 1 = cc in absurd (omega arith)

-- ---- whether a ticket is in hand
and_none : (x : Bool) → x && false ≡ false
and_none true = refl
and_none false = refl

pub held_none : (k : Option Ticket) (s : TicketName) → k ≡ None → is_held (hand_ticket k) s ≡ false
held_none k s e = ap (λ h. is_held (hand_ticket h) s) e

pub held_sealed : (k : Option Ticket) (x : SealedTicket) (n : ℕ) → k ≡ Some (t.Sealed x) → is_held (hand_ticket k) (bidding n) ≡ false
held_sealed k x n e = ap (λ h. is_held (hand_ticket h) (bidding n)) e ∙ and_none (eqb x.number n)

pub held_other_bidding : (k : Option Ticket) (x : BiddingTicket) (n : ℕ) → k ≡ Some (t.Bidding x) → (x.number ≡ n → ⊥) → is_held (hand_ticket k) (bidding n) ≡ false
held_other_bidding k x n e ne = ap (λ h. is_held (hand_ticket h) (bidding n)) e ∙ ap (λ t. t && true) (ne_eqb x.number n ne)

pub held_this_bidding : (k : Option Ticket) (x : BiddingTicket) (n : ℕ) → k ≡ Some (t.Bidding x) → x.number ≡ n → is_held (hand_ticket k) (bidding n) ≡ true
held_this_bidding k x n e same = ap (λ h. is_held (hand_ticket h) (bidding n)) e ∙ ap (λ t. t && true) (eq-eqb x.number n same)

-- a ticket is its own
pub same-itself : (t : TicketName) → same_ticket t t ≡ true
same-itself t = ap (λ b. b && same_stage t.stage t.stage) (eq-eqb t.number t.number refl) ∙ stage t.stage
  where
    stage : (s : Stage) → same_stage s s ≡ true
    stage Bidding = refl
    stage Sealed = refl

-- a ticket in hand is the one of its name
pub held_own : (h : Option Ticket) (k : Ticket) (s : TicketName) → h ≡ Some k → ticket_name k ≡ s → is_held (hand_ticket h) s ≡ true
held_own h k s e q = ap (λ o. is_held (hand_ticket o) s) e ∙ ap (λ (u : TicketName). is_held (Some u) s) q ∙ same-itself s

-- ---- refused or accepted
abbrev is_refused : Answer → Bool
is_refused (Err why) = true
is_refused (Ok x) = false

module _ (P : Plan) (T : Sharing) (C : Deciding) (b : Books) where
  unrefused : (x : Call) → is_refused (answers P T C b x).answer ≡ false
  unrefused (c.Admit i) = refl
  unrefused (c.Announce k o p m) = refl
  unrefused (c.Bid n i p m) = refl
  unrefused (c.Seal n) = refl
  unrefused (c.Publish n) = refl
  unrefused (c.Void t) = refl
  unrefused (c.Fix d r room) = refl
  unrefused (c.Lodge i z) = refl
  unrefused (c.Release i z) = refl
  unrefused (c.Terminate n) = refl

  -- a refusal changes nothing
  refused_same : (x : Call) (t : Told) (b' : Books) → is_refused t.answer ≡ true → step P T C b x ≡ (t, b') → b' ≡ b
  refused_same x t b' r e = go (first (tests P T C b x)) e
    where
      go : (o : Option Refusal) → judged o (answers P T C b x) b (after P T C b x) ≡ (t, b') → b' ≡ b
      go None q = absurd (both_ways (is_refused t.answer) (sym (ap (λ p. is_refused p.0.answer) q) ∙ unrefused x) r)
      go (Some why) q = sym (ap (λ p. p.1) q)

  accepted_after : (x : Call) (t : Told) (b' : Books) → is_refused t.answer ≡ false → step P T C b x ≡ (t, b') → (first (tests P T C b x) ≡ None) × (answers P T C b x ≡ t) × (after P T C b x ≡ b')
  accepted_after x t b' r e = go (first (tests P T C b x)) refl e
    where
      go : (o : Option Refusal) → first (tests P T C b x) ≡ o → judged o (answers P T C b x) b (after P T C b x) ≡ (t, b') → (first (tests P T C b x) ≡ None) × (answers P T C b x ≡ t) × (after P T C b x ≡ b')
      go None f q = (f, ap (λ p. p.0) q, ap (λ p. p.1) q)
      go (Some why) f q = absurd (both_ways (is_refused t.answer) r (ap (λ p. is_refused p.0.answer) (sym q)))

  -- calls that leave the auction, accepted or refused
  same-auction : (x : Call) (t : Told) (b' : Books) → (after P T C b x).auction ≡ b.auction → step P T C b x ≡ (t, b') → b'.auction ≡ b.auction
  same-auction x t b' keep e = sym (ap (λ p. p.1.auction) e) ∙ go (first (tests P T C b x))
    where
      go : (o : Option Refusal) → (judged o (answers P T C b x) b (after P T C b x)).1.auction ≡ b.auction
      go None = keep
      go (Some why) = refl

  -- a bid leaves the ticket
  bid_ticket : (n : ℕ) (i p m : ℤ) (t : Told) (b' : Books) → holds b.auction (bidding n) ≡ true → step P T C b (c.Bid n i p m) ≡ (t, b') → ticket_of b'.auction ≡ ticket_of b.auction
  bid_ticket n i p m t b' h e = sym (ap (λ q. ticket_of q.1.auction) e) ∙ go (first (tests P T C b (c.Bid n i p m)))
    where
      go : (o : Option Refusal) → ticket_of (judged o (answers P T C b (c.Bid n i p m)) b (after P T C b (c.Bid n i p m))).1.auction ≡ ticket_of b.auction
      go None = sym (holds-ticket b.auction (bidding n) h)
      go (Some why) = refl

  -- a void of the standing ticket is accepted
  void_accepted : (s : TicketName) (t : Told) (b' : Books) → holds b.auction s ≡ true → step P T C b (c.Void s) ≡ (t, b') → ticket_of b'.auction ≡ None
  void_accepted s t b' h e = sym (ap (λ q. ticket_of q.1.auction) e) ∙ ap (λ (u : Bool). ticket_of (judged (cond (not u) (Some WrongTicket) None) (answers P T C b (c.Void s)) b (after P T C b (c.Void s))).1.auction) h

-- a line written to the front
pub first-set : (xs : List Line) (l : Line) → length xs ≡ 144 → (take 1 (set xs 0 l) ≡ l ∷ []) × (set xs 0 l ≡ take 1 (set xs 0 l) ++ drop 1 xs)
first-set [] l e = absurd (omega arith)
first-set (x ∷ xs) l e = (refl, refl)

-- a fix looks at its room only for whether 144 lines fit
pub same-room : (P : Plan) (T : Sharing) (C : Deciding) (b : Books) (d r : ℤ) (x y : ℕ) → ltb x 144 ≡ ltb y 144 → step P T C b (c.Fix d r x) ≡ step P T C b (c.Fix d r y)
same-room P T C b d r x y e =
    ap (λ (u : Bool). judged (cond (not (is_rate r)) (Some PriceOutOfRange) (cond (not (is_business P d)) (Some NoSuchDay) (cond u (Some WrongLength) later))) (answers P T C b (c.Fix d r y)) b (after P T C b (c.Fix d r y))) e
  where
    later : Option Refusal
    later = first ((AuctionStands, stands b.auction) ∷ (DayOutOfOrder, le_z d (pos b.day) || not (eqb (length (skipped d b.hedges)) 0)) ∷ (NoFreePosting, ltb b.free (length (open_ones b.hedges) + admitted_ones b)) ∷ [])

-- a fix without room is not accepted
cramped : (P : Plan) (T : Sharing) (C : Deciding) (b b' : Books) (d r : ℤ) (n : ℕ) (ls : List Line) → step P T C b (c.Fix d r 0) ≡ (record { answer = Ok (a.Fixed n); lines = ls }, b') → ⊥
cramped P T C b b' d r n ls e =
    let p = passed (tests P T C b (c.Fix d r 0)) (accepted_after P T C b (c.Fix d r 0) (record { answer = Ok (a.Fixed n); lines = ls }) b' refl e).0 in
    both_ways true p.1.1.0 refl

-- a ticket that is not the standing auction's
wrong_first : (h : Bool) (rest : List (Refusal × Bool)) → h ≡ false → Some WrongTicket ≡ first ((WrongTicket, not h) ∷ rest)
wrong_first h rest e = sym (ap (λ u. cond (not u) (Some WrongTicket) (first rest)) e)

ticket_number : (m n : ℕ) → ◌≡◌ {A = Answer} (Ok (a.Ticket m)) (Ok (a.Ticket n)) → m ≡ n
ticket_number m n e = cc

module _ {A T C : Type 0} (balances : A → List ℤ) (free : A → ℕ) (shares : T → Sharing) (decides : C → Deciding) where
  abbrev L : Room A T C → Type 0
  L = Live balances free shares decides

  abbrev B : Room A T C → Books
  B = room_books balances free shares decides

  pub allots_makes : (h : House A T C) (n : ℕ) (x : Answer) (h' : House A T C) → Allots shares h n x h' → Makes balances free shares decides h (c.Publish n) (quietly x) h'
  allots_makes h n x h' q = record {
    steps = q.tables.steps (decides h.convention) (by_party (balances h.accounts)) (free h.accounts)
        ∙ ap (λ (y : A). (quietly x, books_of (by_party (balances y)) (free y) h'.book)) (sym q.accounts);
    plan = q.tables.plan;
    rule = q.rule;
    convention = q.convention;
  }

  -- calls that leave the auction
  pub still_turns : (d : Room A T C) (x : Call) (t : Told) (d' : Room A T C) → Makes balances free shares decides d.house x t d'.house → d'.hand ≡ d.hand
      → (after d.house.book.plan (shares d.house.tie_rule) (decides d.house.convention) (B d) x).auction ≡ (B d).auction → Turns balances free shares decides d x t d'
  still_turns d x t d' m e keep = turns balances free shares decides d x t d' (λ _. m)
      (λ l. ap hand_ticket e ∙ l ∙ sym (ap ticket_of (same-auction d.house.book.plan (shares d.house.tie_rule) (decides d.house.convention) (B d) x t (B d') keep m.steps)))

  -- a fix, whose room is told by another of the same kind
  pub fix_turns : (d : Room A T C) (day rate : ℤ) (x y : ℕ) (t : Told) (d' : Room A T C) → Makes balances free shares decides d.house (c.Fix day rate x) t d'.house → ltb y 144 ≡ ltb x 144 → d'.hand ≡ d.hand → Turns balances free shares decides d (c.Fix day rate y) t d'
  fix_turns d day rate x y t d' m same e = still_turns d (c.Fix day rate y) t d'
      (record { steps = same-room d.house.book.plan (shares d.house.tie_rule) (decides d.house.convention) (B d) day rate y x same ∙ m.steps; plan = m.plan; rule = m.rule; convention = m.convention }) e refl

  pub cramped_never : (h : House A T C) (day rate : ℤ) (n : ℕ) (ls : List Line) (h' : House A T C) → Makes balances free shares decides h (c.Fix day rate 0) (record { answer = Ok (a.Fixed n); lines = ls }) h' → ⊥
  cramped_never h day rate n ls h' m = cramped h.book.plan (shares h.tie_rule) (decides h.convention) (house_books balances free h) (house_books balances free h') day rate n ls m.steps

  -- a refused call that gave its ticket back
  pub refused_turns : (d : Room A T C) (x : Call) (why : Refusal) (d' : Room A T C) → Makes balances free shares decides d.house x (quietly (Err why)) d'.house → hand_ticket d'.hand ≡ hand_ticket d.hand
      → Turns balances free shares decides d x (quietly (Err why)) d'
  refused_turns d x why d' m e = turns balances free shares decides d x (quietly (Err why)) d' (λ _. m)
      (λ l. e ∙ l ∙ sym (ap (λ (b : Books). ticket_of b.auction) (refused_same d.house.book.plan (shares d.house.tie_rule) (decides d.house.convention) (B d) x (quietly (Err why)) (B d') refl m.steps)))

  -- announce: an accepted one finds an empty hand
  pub announced_turns : (d : Room A T C) (k o p m : ℤ) (n : ℕ) (h : House A T C) (d' : Room A T C) → Makes balances free shares decides d.house (c.Announce k o p m) (quietly (Ok (a.Ticket n))) h
      → (d.hand ≡ None → d'.house ≡ h) → hand_ticket d'.hand ≡ Some (bidding n) → Turns balances free shares decides d (c.Announce k o p m) (quietly (Ok (a.Ticket n))) d'
  announced_turns d k o p m n h d' q same new = turns balances free shares decides d x t d' makes
      (λ l. new ∙ ap (λ (j : ℕ). Some (bidding j)) (sym number) ∙ ap (λ (b : Books). ticket_of b.auction) done.2 ∙ sym (ap (λ (y : House A T C). ticket_of (house_books balances free y).auction) (there l)))
    where
      x : Call
      x = c.Announce k o p m

      t : Told
      t = quietly (Ok (a.Ticket n))

      done : (first (tests d.house.book.plan (shares d.house.tie_rule) (decides d.house.convention) (B d) x) ≡ None) × (answers d.house.book.plan (shares d.house.tie_rule) (decides d.house.convention) (B d) x ≡ t) × (after d.house.book.plan (shares d.house.tie_rule) (decides d.house.convention) (B d) x ≡ house_books balances free h)
      done = accepted_after d.house.book.plan (shares d.house.tie_rule) (decides d.house.convention) (B d) x t (house_books balances free h) refl q.steps

      number : suc (B d).auctions ≡ n
      number = ticket_number (suc (B d).auctions) n (ap (λ (y : Told). y.answer) done.1)

      there : L d → d'.house ≡ h
      there l = same (hand_none d.hand (l ∙ stands-none (B d).auction (passed (tests d.house.book.plan (shares d.house.tie_rule) (decides d.house.convention) (B d) x) done.0).1.1.1.0))

      makes : L d → Makes balances free shares decides d.house x t d'.house
      makes l = subst (λ (y : House A T C). Makes balances free shares decides d.house x t y) (sym (there l)) q

  -- a bid under the ticket in hand
  pub bid_turns : (d : Room A T C) (n : ℕ) (i p m : ℤ) (t : Told) (d' : Room A T C) → Makes balances free shares decides d.house (c.Bid n i p m) t d'.house → d'.hand ≡ d.hand → is_held (hand_ticket d.hand) (bidding n) ≡ true
      → Turns balances free shares decides d (c.Bid n i p m) t d'
  bid_turns d n i p m t d' q e held = turns balances free shares decides d (c.Bid n i p m) t d' (λ _. q)
      (λ l. ap hand_ticket e ∙ l ∙ sym (bid_ticket d.house.book.plan (shares d.house.tie_rule) (decides d.house.convention) (B d) n i p m t (B d') (holds-is (B d).auction (bidding n) ∙ ap (λ o. is_held o (bidding n)) (sym l) ∙ held) q.steps))

  -- the sealed ticket has the number of the bidding one
  pub sealed-turns : (d : Room A T C) (n k : ℕ) (d' : Room A T C) → Makes balances free shares decides d.house (c.Seal n) (quietly (Ok (a.Ticket k))) d'.house → hand_ticket d'.hand ≡ Some (sealed k)
      → Turns balances free shares decides d (c.Seal n) (quietly (Ok (a.Ticket k))) d'
  sealed-turns d n k d' q new = turns balances free shares decides d (c.Seal n) (quietly (Ok (a.Ticket k))) d' (λ _. q)
      (λ _. new ∙ ap (λ (j : ℕ). Some (sealed j)) (sym (ticket_number n k (ap (λ (y : Told). y.answer) done.1))) ∙ ap (λ (b : Books). ticket_of b.auction) done.2)
    where
      done : (first (tests d.house.book.plan (shares d.house.tie_rule) (decides d.house.convention) (B d) (c.Seal n)) ≡ None) × (answers d.house.book.plan (shares d.house.tie_rule) (decides d.house.convention) (B d) (c.Seal n) ≡ quietly (Ok (a.Ticket k))) × (after d.house.book.plan (shares d.house.tie_rule) (decides d.house.convention) (B d) (c.Seal n) ≡ B d')
      done = accepted_after d.house.book.plan (shares d.house.tie_rule) (decides d.house.convention) (B d) (c.Seal n) (quietly (Ok (a.Ticket k))) (B d') refl q.steps

  -- a published auction stands no more, and its ticket is spent
  pub published-turns : (d : Room A T C) (n first_one count : ℕ) (d' : Room A T C) → Makes balances free shares decides d.house (c.Publish n) (quietly (Ok (a.Published first_one count))) d'.house → hand_ticket d'.hand ≡ None
      → Turns balances free shares decides d (c.Publish n) (quietly (Ok (a.Published first_one count))) d'
  published-turns d n first_one count d' q new = turns balances free shares decides d (c.Publish n) (quietly (Ok (a.Published first_one count))) d' (λ _. q)
      (λ _. new ∙ ap (λ (b : Books). ticket_of b.auction) (accepted_after d.house.book.plan (shares d.house.tie_rule) (decides d.house.convention) (B d) (c.Publish n) (quietly (Ok (a.Published first_one count))) (B d') refl q.steps).2)

  -- the ticket in hand is voided
  pub void_turns : (d : Room A T C) (s : TicketName) (t : Told) (d' : Room A T C) → Makes balances free shares decides d.house (c.Void s) t d'.house → is_held (hand_ticket d.hand) s ≡ true → hand_ticket d'.hand ≡ None
      → Turns balances free shares decides d (c.Void s) t d'
  void_turns d s t d' q held new = turns balances free shares decides d (c.Void s) t d' (λ _. q)
      (λ l. new ∙ sym (void_accepted d.house.book.plan (shares d.house.tie_rule) (decides d.house.convention) (B d) s t (B d') (holds-is (B d).auction s ∙ ap (λ o. is_held o s) (sym l) ∙ held) q.steps))

  -- a ticket that is not in hand
  pub wrong_turns : (d : Room A T C) (x : Call) (s : TicketName) (rest : List (Refusal × Bool)) (d' : Room A T C) → d'.house ≡ d.house → hand_ticket d'.hand ≡ hand_ticket d.hand → is_held (hand_ticket d.hand) s ≡ false
      → tests d.house.book.plan (shares d.house.tie_rule) (decides d.house.convention) (B d) x ≡ (WrongTicket, not (holds (B d).auction s)) ∷ rest → Turns balances free shares decides d x (quietly (Err WrongTicket)) d'
  wrong_turns d x s rest d' same e held is = turns balances free shares decides d x (quietly (Err WrongTicket)) d'
      (λ l. subst (λ (y : House A T C). Makes balances free shares decides d.house x (quietly (Err WrongTicket)) y) (sym same)
      (record {
        steps = refusing d.house.book.plan (shares d.house.tie_rule) (decides d.house.convention) (B d) x WrongTicket (wrong_first (holds (B d).auction s) rest (holds-is (B d).auction s ∙ ap (λ o. is_held o s) (sym l) ∙ held) ∙ ap first (sym is));
        plan = refl;
        rule = refl;
        convention = refl;
      }))
      (λ l. e ∙ l ∙ sym (ap (λ (y : House A T C). ticket_of (house_books balances free y).auction) same))

  pub wrong_taken : (d : Room A T C) (x : Call) (s : TicketName) (rest : List (Refusal × Bool)) (why : Refusal) (r : Answer) (d' : Room A T C) → r ≡ Err why → Taken d s (Err why) d'
      → tests d.house.book.plan (shares d.house.tie_rule) (decides d.house.convention) (B d) x ≡ (WrongTicket, not (holds (B d).auction s)) ∷ rest → Turns balances free shares decides d x (quietly r) d'
  wrong_taken d x s rest why r d' e t is =
      subst (λ (y : Answer). Turns balances free shares decides d x (quietly y) d') (sym (e ∙ ap (λ (w : Refusal). Err w) t.2))
      (wrong_turns d x s rest d' (ap (λ (y : Room A T C). y.house) t.1) (ap (λ (y : Room A T C). hand_ticket y.hand) t.1) t.0 is)
