-- (c): the auctions of a run, and the standing one, over each call.
use Rattle.std.proofs.Common.{◌≡◌, Ok, ℕ, suc, ◌<◌, ◌≤◌, Bool, true, false, cond, eqb, List, [], ◌∷◌, ◌++◌, length, ℤ, nat_abs, Some, None, Option, sym, refl, ap, ◌∙◌, subst, ap₂, arith}
use Rattle.std.proofs.lemmas.Bool.{ne_eqb, eq-eqb, eqb-true, both_ways, and_parts}
use Rattle.std.proofs.ByRecursion.{All-weaker}
use Rattle.std.specs.List.{flat_map, AllByRecursion}
use Rattle.rules.proofs.Allotment.{Sound, Sorted, entered_all, entered-sorted, entered-length}
use Rattle.rules.specs.declared.call.Call.TheVariants.{Announce as announce, Bid as bid, Publish as publish}
use Rattle.rules.specs.declared.auction.TicketName.{TicketName}
use Rattle.rules.specs.Books.{bidding, sealed, Auction, same_stage, same_ticket, stands, holds, standing}
use Rattle.rules.specs.declared.call.Accepted.TheVariants.{Done, Ticket, Published}
use Rattle.rules.specs.declared.auction.Terms.{Terms}
use Rattle.rules.specs.declared.auction.Bid.{Bid}
use Rattle.rules.specs.declared.hedge.Deal.{Deal}
use Rattle.tie_rules.specs.Sharing.{Sharing}
use Rattle.rules.specs.Allotment.{entered, allotted, numbered_from}
use Rattle.rules.specs.Rules.{terms_given, bid_given}
use Rattle.rules.specs.Law.{Entry, History, Publication, publications, terms_of, bids_of, got_of, dealt}

same_number : (s t : TicketName) → same_ticket s t ≡ true → s.number ≡ t.number
same_number s t e = eqb-true s.number t.number (and_parts (eqb s.number t.number) (same_stage s.stage t.stage) e).0

pub record Taken (xs : List Bid) : Type 0 where
  pub few : length xs ≤ 64
  pub sound : AllByRecursion Sound xs
  pub sorted : Sorted xs

pub record Stood (h : History) (day : ℕ) (o : Option Auction) (k n : ℕ) : Type 0 where
  pub bids : (standing o).bids ≡ bids_of n h
  pub terms : (standing o).terms ≡ terms_of n h
  pub old : n ≤ k
  pub ahead : day < (standing o).terms.maturity
  pub unspent : AllByRecursion (λ p. ¬ (p.ticket ≡ n)) (publications h)

-- k auction numbers have been given, and o is the standing auction
pub record Sold (h : History) (day : ℕ) (o : Option Auction) (k : ℕ) : Type 0 where
  pub offered : (n : ℕ) → (terms_of n h).offer ≤ 2000
  pub taken : (n : ℕ) → Taken (bids_of n h)
  pub later : (n : ℕ) → k < n → bids_of n h ≡ []
  pub spent : AllByRecursion (λ p. p.ticket ≤ k) (publications h)
  pub stood : (t : TicketName) → holds o t ≡ true → Stood h day o k t.number

-- a call that announces, publishes and takes nothing, and leaves the auction o' standing
pub sold_as : (e : Entry) (h : History) (day day' : ℕ) (o o' : Option Auction) (k : ℕ) → ((n : ℕ) → terms_of n (e ∷ h) ≡ terms_of n h) → ((n : ℕ) → bids_of n (e ∷ h) ≡ bids_of n h) → publications (e ∷ h) ≡ publications h
    → ((t : TicketName) → holds o' t ≡ true → Stood h day' o' k t.number) → Sold h day o k → Sold (e ∷ h) day' o' k
sold_as e h day day' o o' k ts bs ps stood s = record {
  offered = λ n. subst (λ (t : Terms). t.offer ≤ 2000) (sym (ts n)) (s.offered n);
  taken = λ n. subst Taken (sym (bs n)) (s.taken n);
  later = λ n l. bs n ∙ s.later n l;
  spent = subst (AllByRecursion (λ p. p.ticket ≤ k)) (sym ps) s.spent;
  stood = λ t q. let v = stood t q in record { bids = v.bids ∙ sym (bs t.number); terms = v.terms ∙ sym (ts t.number); old = v.old; ahead = v.ahead; unspent = subst (AllByRecursion (λ p. ¬ (p.ticket ≡ t.number))) (sym ps) v.unspent };
}

pub none_stands : (h : History) (day : ℕ) (o : Option Auction) (k : ℕ) → stands o ≡ false → (t : TicketName) → holds o t ≡ true → Stood h day o k t.number
none_stands h day None k f t q = absurd (both_ways false refl q)
none_stands h day (Some a) k f t q = absurd (both_ways true f refl)

pub sealed-stands : (h : History) (day : ℕ) (o : Option Auction) (k n : ℕ) → Stood h day o k n → (t : TicketName) → same_ticket (sealed n) t ≡ true
    → Stood h day (Some (record { ticket = sealed n; terms = (standing o).terms; bids = (standing o).bids })) k t.number
sealed-stands h day o k n v t q =
    let e = same_number (sealed n) t q in
    record { bids = v.bids ∙ ap (λ i. bids_of i h) e; terms = v.terms ∙ ap (λ i. terms_of i h) e; old = omega (arith, v.old); ahead = v.ahead; unspent = subst (λ (j : ℕ). AllByRecursion (λ p. ¬ (p.ticket ≡ j)) (publications h)) e v.unspent }

pub sold_announce : (h : History) (day : ℕ) (o : Option Auction) (k : ℕ) (kind offer cap maturity : ℤ) → nat_abs offer ≤ 2000 → day < nat_abs maturity → Sold h day o k
    → Sold (record { call = announce kind offer cap maturity; answer = Ok (Ticket (suc k)); lines = [] } ∷ h) day (Some (record { ticket = bidding (suc k); terms = terms_given kind offer cap maturity; bids = [] })) (suc k)
sold_announce h day o k kind offer cap maturity most ahead s = record {
  offered = λ n. either n (eqb (suc k) n);
  taken = s.taken;
  later = λ n l. s.later n (omega arith);
  spent = All-weaker (λ p. p.ticket ≤ k) (λ p. p.ticket ≤ suc k) (λ p l. omega arith) (publications h) s.spent;
  stood = λ t q. let e = same_number (bidding (suc k)) t q in record {
    bids = sym (s.later t.number (omega arith));
    terms = sym (ap (λ b. cond b new (terms_of t.number h)) (eq-eqb (suc k) t.number e));
    old = omega arith;
    ahead = ahead;
    unspent = All-weaker (λ p. p.ticket ≤ k) (λ p. ¬ (p.ticket ≡ t.number)) (λ p l q. omega arith) (publications h) s.spent;
  };
}
  where
    new : Terms
    new = terms_given kind offer cap maturity

    either : (n : ℕ) (b : Bool) → (cond b new (terms_of n h)).offer ≤ 2000
    either n true = most
    either n false = s.offered n

pub sold_bid : (h : History) (day : ℕ) (o : Option Auction) (k n : ℕ) (i p m : ℤ) → holds o (bidding n) ≡ true → length (standing o).bids < 64 → Sound (bid_given i p m) → Sold h day o k
    → Sold (record { call = bid n i p m; answer = Ok Done; lines = [] } ∷ h) day (Some (record { ticket = bidding n; terms = (standing o).terms; bids = entered (bid_given i p m) (standing o).bids })) k
sold_bid h day o k n i p m held room sound s = record {
  offered = s.offered;
  taken = λ j. either j (eqb n j) refl;
  later = λ j l. ap (λ b. cond b (entered x (bids_of j h)) (bids_of j h)) (ne_eqb n j (λ q. omega (arith, v.old))) ∙ s.later j l;
  spent = s.spent;
  stood = λ t q. let e = same_number (bidding n) t q in record {
    bids = ap (entered x) (v.bids ∙ ap (λ j. bids_of j h) e) ∙ sym (ap (λ b. cond b (entered x (bids_of t.number h)) (bids_of t.number h)) (eq-eqb n t.number e));
    terms = v.terms ∙ ap (λ j. terms_of j h) e;
    old = omega (arith, v.old);
    ahead = v.ahead;
    unspent = subst (λ (j : ℕ). AllByRecursion (λ p. ¬ (p.ticket ≡ j)) (publications h)) e v.unspent;
  };
}
  where
    x : Bid
    x = bid_given i p m

    v : Stood h day o k n
    v = s.stood (bidding n) held

    either : (j : ℕ) (b : Bool) → eqb n j ≡ b → Taken (cond b (entered x (bids_of j h)) (bids_of j h))
    either j true e =
        let q : (standing o).bids ≡ bids_of j h = v.bids ∙ ap (λ i. bids_of i h) (eqb-true n j e) in
        let w = s.taken j in
        record { few = omega (arith, entered-length x (bids_of j h), ap length q); sound = entered_all Sound x (bids_of j h) sound w.sound; sorted = entered-sorted x (bids_of j h) w.sorted }
    either j false e = s.taken j

-- publish spends the ticket n
pub sold_publish : (n first count : ℕ) (h : History) (day : ℕ) (o : Option Auction) (k : ℕ) → n ≤ k → Sold h day o k → Sold (record { call = publish n; answer = Ok (Published first count); lines = [] } ∷ h) day None k
sold_publish n first count h day o k old s = record { offered = s.offered; taken = s.taken; later = s.later; spent = (old, s.spent); stood = none_stands (record { call = publish n; answer = Ok (Published first count); lines = [] } ∷ h) day None k refl }

-- ---- what was published stays as it was published
joined_alike : {X Y : Type 0} (f g : X → List Y) (xs : List X) → AllByRecursion (λ x. f x ≡ g x) xs → flat_map f xs ≡ flat_map g xs
joined_alike f g [] h = refl
joined_alike f g (x ∷ xs) h = ap₂ (λ a b. a ++ b) h.0 (joined_alike f g xs h.1)

dealt-as : (T : Sharing) (e : Entry) (h : History) → publications (e ∷ h) ≡ publications h → AllByRecursion (λ p. (terms_of p.ticket (e ∷ h) ≡ terms_of p.ticket h) × (bids_of p.ticket (e ∷ h) ≡ bids_of p.ticket h)) (publications h)
    → dealt T (e ∷ h) ≡ dealt T h
dealt-as T e h ps q = ap (flat_map (from (e ∷ h))) ps ∙ joined_alike (from (e ∷ h)) (from h) (publications h)
    (All-weaker (λ p. (terms_of p.ticket (e ∷ h) ≡ terms_of p.ticket h) × (bids_of p.ticket (e ∷ h) ≡ bids_of p.ticket h)) (λ p. from (e ∷ h) p ≡ from h p)
    (λ p k. ap₂ (λ t xs. numbered_from p.first p.rate t (allotted T t xs)) k.0 k.1) (publications h) q)
  where
    from : History → Publication → List Deal
    from h p = numbered_from p.first p.rate (terms_of p.ticket h) (got_of T p.ticket h)

pub dealt-announce : (T : Sharing) (h : History) (day : ℕ) (o : Option Auction) (k : ℕ) (kind offer cap maturity : ℤ) → Sold h day o k → dealt T (record { call = announce kind offer cap maturity; answer = Ok (Ticket (suc k)); lines = [] } ∷ h) ≡ dealt T h
dealt-announce T h day o k kind offer cap maturity s = dealt-as T (record { call = announce kind offer cap maturity; answer = Ok (Ticket (suc k)); lines = [] }) h refl
    (All-weaker (λ p. p.ticket ≤ k) (λ p. _ × _) (λ p l. (ap (λ b. cond b (terms_given kind offer cap maturity) (terms_of p.ticket h)) (ne_eqb (suc k) p.ticket (λ q. omega arith)), refl)) (publications h) s.spent)

pub dealt-bid : (T : Sharing) (h : History) (day : ℕ) (o : Option Auction) (k n : ℕ) (i p m : ℤ) → Stood h day o k n → dealt T (record { call = bid n i p m; answer = Ok Done; lines = [] } ∷ h) ≡ dealt T h
dealt-bid T h day o k n i p m v = dealt-as T (record { call = bid n i p m; answer = Ok Done; lines = [] }) h refl
    (All-weaker (λ p. ¬ (p.ticket ≡ n)) (λ p. _ × _) (λ j l. (refl, ap (λ b. cond b (entered (bid_given i p m) (bids_of j.ticket h)) (bids_of j.ticket h)) (ne_eqb n j.ticket (λ q. l (sym q))))) (publications h) v.unspent)
