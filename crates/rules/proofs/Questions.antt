-- What questions answer after every call, and with it the law.
use Rattle.std.proofs.Common.{◌≡◌, Err, ℕ, suc, ◌+◌, ◌-◌, ◌<◌, ◌≤◌, Bool, false, cond, ◌&&◌, eqb, List, [], ◌∷◌, ◌++◌, map, length, ℤ, nat_abs, Some, None, filter, Option, sym, refl, ap, ◌∙◌, subst, ap₂, arith}
use Rattle.std.specs.List.{AllByRecursion}
use Rattle.std.proofs.lemmas.Bool.{ne_eqb}
use Rattle.std.proofs.lemmas.List.{append-nil}
use Rattle.std.proofs.lemmas.List.Elements.{filter-append}
use Rattle.std.proofs.ByRecursion.{All-weaker, All-append}
use Rattle.terms.specs.declared.plan.Plan.{Plan}
use Rattle.terms.specs.declared.refusal.Refusal.{Refusal}
use Rattle.terms.specs.Refusals.{first}
use Rattle.tie_rules.specs.Sharing.{Sharing}
use Rattle.conventions.specs.Deciding.{Deciding}
use Rattle.rules.specs.declared.auction.Terms.{Terms}
use Rattle.rules.specs.declared.hedge.Deal.{Deal}
use Rattle.rules.specs.declared.hedge.Hedge.{Hedge}
use Rattle.rules.specs.declared.call.Call.{Call}
use Rattle.rules.specs.declared.call.Call.TheVariants.{Admit as admit, Announce as announce, Bid as bid, Seal as seal, Publish as publish, Void as void, Fix as fix, Lodge as lodge, Release as release, Terminate as terminate}
use Rattle.rules.specs.Books.{Books, standing}
use Rattle.rules.specs.Allotment.{allotted}
use Rattle.rules.specs.Settlement.{turned, of_number, open_ones, fresh, closing, pays, rise}
use Rattle.rules.specs.Rules.{tests, answers, after, step, judged, new_deals}
use Rattle.rules.specs.Law.{Law, BooksShow, Recorded, Allotted, Paid, Entry, History, fixing, closes, dealt, terms_of, bids_of, publications, got_of, run}
use Rattle.rules.proofs.Allotment.{Sound, allotted-keeps, allotted-all}
use Rattle.rules.proofs.Lives.{here, kept_map, kept_kept, closed_same, end-lines_of, lived_paid}
use Rattle.rules.proofs.Places.{at_place, Known, numbered_rising, numbered_all, rising_bounds}
use Rattle.rules.proofs.Stands.{Stood, dealt-announce, dealt-bid}
use Rattle.rules.proofs.Rests.{Rest, rest_open, rest_quiet, rest_fix, rest_end, recorded, here_in, ask-none}
use Rattle.rules.proofs.Runs.{Kept, kept_run, kept_after, passed, entry, publish_deals, stood_bidding, stood_sealed}

pub all_two : {X : Type 0} (P Q R : X → Type 0) → ((x : X) → P x → Q x → R x) → (xs : List X) → AllByRecursion P xs → AllByRecursion Q xs → AllByRecursion R xs
all_two P Q R f [] a b = tt
all_two P Q R f (x ∷ xs) a b = (f x a.0 b.0, all_two P Q R f xs a.1 b.1)

pub all_split : {X : Type 0} (Q : X → Type 0) (xs ys : List X) → AllByRecursion Q (xs ++ ys) → AllByRecursion Q xs × AllByRecursion Q ys
all_split Q [] ys a = (tt, a)
all_split Q (x ∷ xs) ys a = let q = all_split Q xs ys a.1 in ((a.0, q.0), q.1)

-- what is published now has new numbers and matures after today
pub new_ones : (P : Plan) (T : Sharing) (C : Deciding) (h : History) (b : Books) (k : Kept T h b) (n : ℕ) → AllByRecursion (λ t. t.1 ≡ false) (tests P T C b (publish n)) → AllByRecursion (λ g. (b.numbered < g.number) × (b.day < g.maturity)) (new_deals P T C b)
new_ones P T C h b k n p = all_two (λ g. (suc b.numbered ≤ g.number) × (g.number < suc b.numbered + length (new_deals P T C b))) (λ g. (g.maturity ≡ terms.maturity) × (1 ≤ g.institution) × (g.institution < 17)) (λ g. (b.numbered < g.number) × (b.day < g.maturity))
    (λ g q r. (q.0, omega (arith, v.ahead, r.0))) (new_deals P T C b)
    (rising_bounds (suc b.numbered) (new_deals P T C b) (numbered_rising (suc b.numbered) b.rate terms (allotted T terms (standing b.auction).bids)))
    (numbered_all (suc b.numbered) b.rate terms (allotted T terms (standing b.auction).bids) (allotted-all T terms Sound (standing b.auction).bids (subst (AllByRecursion Sound) (sym v.bids) (k.sold.taken n).sound)))
  where
    v : Stood h b.day b.auction b.auctions n
    v = stood_sealed P T C h b k n p

    terms : Terms
    terms = (standing b.auction).terms

-- nothing stands on a place under a number that was never published
abbrev Unknown : Sharing → History → List Hedge → Type 0
Unknown T h hs = (n : ℕ) → AllByRecursion (λ g. g.number ≡ n → ⊥) (dealt T h) → at_place n hs ≡ []

pub record Rested (T : Sharing) (h : History) (hs : List Hedge) : Type 0 where
  pub resting : AllByRecursion (Rest h hs) (dealt T h)
  pub unknown : Unknown T h hs

module _ (P : Plan) (T : Sharing) (C : Deciding) (h : History) (b : Books) (k : Kept T h b) (s : Rested T h b.hedges) where
  -- a call that tells nothing, closes nothing, is no fix and leaves the hedges
  quiet : (e : Entry) → e.lines ≡ [] → ((g : Deal) → closes g e ≡ false) → fixing e ≡ None → dealt T (e ∷ h) ≡ dealt T h → Rested T (e ∷ h) b.hedges
  quiet e none still nofix deals = record {
    resting = subst (AllByRecursion (Rest (e ∷ h) b.hedges)) (sym deals)
        (All-weaker (Rest h b.hedges) (Rest (e ∷ h) b.hedges) (λ g r. rest_quiet e h b.hedges b.hedges g (ap (filter (λ l. eqb l.hedge g.number)) none) (still g) nofix refl r) (dealt T h) s.resting);
    unknown = λ n a. s.unknown n (subst (AllByRecursion (λ g. g.number ≡ n → ⊥)) deals a);
  }

  rested_fix : (d r : ℤ) (room : ℕ) → Kept T (entry P T C h b k (fix d r room) ∷ h) (after P T C b (fix d r room)) → Rested T (entry P T C h b k (fix d r room) ∷ h) (after P T C b (fix d r room)).hedges
  rested_fix d r room k' = record {
    resting = all_two (Known h b.hedges b.numbered) (Known (e ∷ h) hs' b.numbered) (Rest (e ∷ h) hs')
        (λ g u v. rest_fix paid (closing day) day rate e h b.hedges hs' g (record { day = day; rate = rate }) refl refl (places g.number)
        (λ x q. ap (λ (y : Deal). eqb y.maturity day) (sym q))
        (λ x q. C.closes (record { day = day; days_since = day - x.since; rise = rise rate x; closing = closing day x }) q)
        u.lived.life v.lived.life) (dealt T h) k.placed.known k'.placed.known;
    unknown = λ n a. places n ∙ ap (map turn) (here_in n b.hedges ∙ ap (filter (λ x. x.live)) (s.unknown n a));
  }
    where
      e : Entry
      e = entry P T C h b k (fix d r room)

      day : ℕ
      day = nat_abs d

      rate : ℕ
      rate = nat_abs r

      paid : Hedge → Bool
      paid x = pays C day rate x

      turn : Hedge → Hedge
      turn x = turned (paid x) (closing day x) day rate x

      hs' : List Hedge
      hs' = map turn (open_ones b.hedges)

      places : (n : ℕ) → at_place n hs' ≡ map turn (here n b.hedges)
      places n = kept_map turn (λ x. eqb x.deal.number n) (open_ones b.hedges) ∙ ap (map turn) (kept_kept (λ x. eqb x.deal.number n) (λ x. x.live) b.hedges)

  rested_end : (n : ℤ) → Kept T (entry P T C h b k (terminate n) ∷ h) (after P T C b (terminate n)) → Rested T (entry P T C h b k (terminate n) ∷ h) (after P T C b (terminate n)).hedges
  rested_end n k' = record {
    resting = all_two (Rest h b.hedges) (λ g. Known h b.hedges b.numbered g × Known (e ∷ h) hs' b.numbered g) (Rest (e ∷ h) hs')
        (λ g r u. rest_end shut shut b.day b.rate e h b.hedges hs' g refl k.placed.current (places g.number) (end-lines_of g.number b.rate (nat_abs n) b.hedges) (k.placed.apart g.number)
        (λ x o q. ap (λ (y : Deal). eqb y.number (nat_abs n)) (sym q) ∙ sym (ap (λ (t : Bool). t && eqb x.deal.number (nat_abs n)) o))
        (λ x q. q) (λ x o. ap (λ (t : Bool). t && eqb x.deal.number (nat_abs n)) o)
        u.0.lived.life u.1.lived.life r) (dealt T h) s.resting
        (all_two (Known h b.hedges b.numbered) (Known (e ∷ h) hs' b.numbered) (λ g. Known h b.hedges b.numbered g × Known (e ∷ h) hs' b.numbered g) (λ g u v. (u, v)) (dealt T h) k.placed.known k'.placed.known);
    unknown = λ m a. places m ∙ ap (map turn) (s.unknown m a);
  }
    where
      e : Entry
      e = entry P T C h b k (terminate n)

      shut : Hedge → Bool
      shut x = of_number (nat_abs n) x

      turn : Hedge → Hedge
      turn x = turned (shut x) (shut x) b.day b.rate x

      hs' : List Hedge
      hs' = map turn b.hedges

      places : (m : ℕ) → at_place m hs' ≡ map turn (at_place m b.hedges)
      places m = kept_map turn (λ x. eqb x.deal.number m) b.hedges

  rested_publish : (n : ℕ) → AllByRecursion (λ t. t.1 ≡ false) (tests P T C b (publish n)) → Rested T (entry P T C h b k (publish n) ∷ h) (after P T C b (publish n)).hedges
  rested_publish n p = record {
    resting = subst (AllByRecursion (Rest (e ∷ h) hs')) (sym deals) (All-append (Rest (e ∷ h) hs') ds (dealt T h)
        (All-weaker New (Rest (e ∷ h) hs') (λ g q. rest_open (e ∷ h) hs' g (closed_same e h g refl ∙ k.placed.unclosed g q.0 q.1)) ds news)
        (all_two (Known h b.hedges b.numbered) (Rest h b.hedges) (Rest (e ∷ h) hs') (λ g u r. rest_quiet e h b.hedges hs' g refl refl refl (old g.number u.most) r) (dealt T h) k.placed.known s.resting));
    unknown = λ m a. let q = all_split (λ g. g.number ≡ m → ⊥) ds (dealt T h) (subst (AllByRecursion (λ g. g.number ≡ m → ⊥)) deals a) in
        filter-append (λ x. eqb x.deal.number m) b.hedges (map (fresh b.day) ds) ∙ ap₂ (λ xs ys. xs ++ ys) (s.unknown m q.1) (fresh-none m ds q.0);
  }
    where
      e : Entry
      e = entry P T C h b k (publish n)

      ds : List Deal
      ds = new_deals P T C b

      hs' : List Hedge
      hs' = b.hedges ++ map (fresh b.day) ds

      v : Stood h b.day b.auction b.auctions n
      v = stood_sealed P T C h b k n p

      deals : dealt T (e ∷ h) ≡ ds ++ dealt T h
      deals = publish_deals P T C h b k n v

      New : Deal → Type 0
      New g = (b.numbered < g.number) × (b.day < g.maturity)

      news : AllByRecursion New ds
      news = new_ones P T C h b k n p

      fresh-none : (m : ℕ) (gs : List Deal) → AllByRecursion (λ g. g.number ≡ m → ⊥) gs → at_place m (map (fresh b.day) gs) ≡ []
      fresh-none m [] a = refl
      fresh-none m (g ∷ gs) a = ap (λ t. cond t (fresh b.day g ∷ at_place m (map (fresh b.day) gs)) (at_place m (map (fresh b.day) gs))) (ne_eqb g.number m a.0) ∙ fresh-none m gs a.1

      old : (m : ℕ) → m ≤ b.numbered → at_place m hs' ≡ at_place m b.hedges
      old m most = filter-append (λ x. eqb x.deal.number m) b.hedges (map (fresh b.day) ds)
          ∙ ap (λ ys. at_place m b.hedges ++ ys) (fresh-none m ds (All-weaker New (λ g. g.number ≡ m → ⊥) (λ g q r. omega (arith, q.0)) ds news)) ∙ append-nil (at_place m b.hedges)

  rested_after : (c : Call) → AllByRecursion (λ t. t.1 ≡ false) (tests P T C b c) → Rested T (entry P T C h b k c ∷ h) (after P T C b c).hedges
  rested_after (admit i) p = quiet (entry P T C h b k (admit i)) refl (λ g. refl) refl refl
  rested_after (announce kd o c m) p = quiet (entry P T C h b k (announce kd o c m)) refl (λ g. refl) refl (dealt-announce T h b.day b.auction b.auctions kd o c m k.sold)
  rested_after (bid n i q m) p = quiet (entry P T C h b k (bid n i q m)) refl (λ g. refl) refl (dealt-bid T h b.day b.auction b.auctions n i q m (stood_bidding P T C h b k n i q m p))
  rested_after (seal n) p = quiet (entry P T C h b k (seal n)) refl (λ g. refl) refl refl
  rested_after (publish n) p = rested_publish n p
  rested_after (void t) p = quiet (entry P T C h b k (void t)) refl (λ g. refl) refl refl
  rested_after (fix d r room) p = rested_fix d r room (kept_after P T C h b k (fix d r room) p)
  rested_after (lodge i z) p = quiet (entry P T C h b k (lodge i z)) refl (λ g. refl) refl refl
  rested_after (release i z) p = quiet (entry P T C h b k (release i z)) refl (λ g. refl) refl refl
  rested_after (terminate n) p = rested_end n (kept_after P T C h b k (terminate n) p)

  rested_step : (c : Call) → Rested T (record { call = c; answer = (step P T C b c).0.answer; lines = (step P T C b c).0.lines } ∷ h) (step P T C b c).1.hedges
  rested_step c = go (first (tests P T C b c)) refl
    where
      go : (o : Option Refusal) → first (tests P T C b c) ≡ o
          → Rested T (record { call = c; answer = (judged o (answers P T C b c) b (after P T C b c)).0.answer; lines = (judged o (answers P T C b c) b (after P T C b c)).0.lines } ∷ h) (judged o (answers P T C b c) b (after P T C b c)).1.hedges
      go (Some why) e = quiet (record { call = c; answer = Err why; lines = [] }) refl (λ g. refl) refl refl
      go None e = rested_after c (passed (tests P T C b c) e)

rested_run : (P : Plan) (T : Sharing) (C : Deciding) (free : ℕ) (calls : List Call) → Rested T (run P T C free calls).history (run P T C free calls).books.hedges
rested_run P T C free [] = record { resting = tt; unknown = λ n a. refl }
rested_run P T C free (c ∷ cs) = rested_step P T C (run P T C free cs).history (run P T C free cs).books (kept_run P T C free cs) (rested_run P T C free cs) c

all_of : {X : Type 0} (Q : X → Type 0) (xs : List X) → ((x : X) → Q x) → AllByRecursion Q xs
all_of Q [] f = tt
all_of Q (x ∷ xs) f = (f x, all_of Q xs f)

shown : (T : Sharing) (h : History) (b : Books) → Kept T h b → Rested T h b.hedges → BooksShow T h b
shown T h b k s = record {
  balances = k.balanced;
  hedges = All-weaker (Known h b.hedges b.numbered) (Paid h) (λ g v. lived_paid h b.hedges g v.lived) (dealt T h) k.placed.known;
  records = all_two (Known h b.hedges b.numbered) (Rest h b.hedges) (Recorded h b) (λ g v r. recorded h b g (k.placed.apart g.number) v.lived.life r) (dealt T h) k.placed.known s.resting;
  strangers = λ n a. ask-none n b.hedges (s.unknown n a);
  auctions = all_of (λ p. Allotted (terms_of p.ticket h).offer (bids_of p.ticket h) (got_of T p.ticket h)) (publications h)
      (λ p. let w = k.sold.taken p.ticket in allotted-keeps T (terms_of p.ticket h) (bids_of p.ticket h) (k.sold.offered p.ticket) w.few w.sound w.sorted);
}

pub law : Law
law P T C free calls = shown T (run P T C free calls).history (run P T C free calls).books (kept_run P T C free calls) (rested_run P T C free calls)
