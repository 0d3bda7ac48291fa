-- Further laws of every run: maturities, caps, and what matured against what was rolled.
use Rattle.std.proofs.Common.{◌≡◌, Err, ℕ, suc, ◌+◌, ◌*◌, ◌<◌, ◌≤◌, Bool, true, false, cond, not, ◌&&◌, eqb, ltb, List, [], ◌∷◌, ◌++◌, map, length, ℤ, pos, nat_abs, is_some, Some, None, filter, Option, sym, refl, ap, ◌∙◌, subst, ap₂, arith}
use lib.Signed.{le_z, lt_z}
use Rattle.std.specs.List.{AllByRecursion}
use Rattle.std.proofs.lemmas.Int.{ints}
use Rattle.std.proofs.lemmas.Bool.{eqb-true, both_ways, and_parts, or_parts, not-false, ltb-false}
use Rattle.std.proofs.lemmas.List.{map-append}
use Rattle.std.proofs.lemmas.List.Elements.{filter-append}
use Rattle.std.proofs.ByRecursion.{All-weaker, All-append, All-map, all_kept_by}
use Rattle.terms.specs.declared.plan.Plan.{Plan}
use Rattle.terms.specs.declared.refusal.Refusal.{Refusal}
use Rattle.terms.specs.Refusals.{first}
use Rattle.tie_rules.specs.Sharing.{Sharing}
use Rattle.conventions.specs.Deciding.{Deciding}
use Rattle.rules.specs.declared.auction.Kind.{Kind}
use Rattle.rules.specs.declared.auction.Kind.TheVariants.{Initial, Maturity}
use Rattle.rules.specs.declared.auction.Terms.{Terms}
use Rattle.rules.specs.declared.auction.Bid.{Bid}
use Rattle.rules.specs.declared.hedge.Deal.{Deal}
use Rattle.rules.specs.declared.hedge.Hedge.{Hedge}
use Rattle.rules.specs.declared.call.Call.{Call}
use Rattle.rules.specs.declared.call.Call.TheVariants.{Admit as admit, Announce as announce, Bid as bid, Seal as seal, Publish as publish, Void as void, Fix as fix, Lodge as lodge, Release as release, Terminate as terminate}
use Rattle.rules.specs.Books.{Auction, Books, total, standing, stands}
use Rattle.rules.specs.Allotment.{Got, entered, millions_of, allotted, numbered_from, deal_of, sold_at}
use Rattle.rules.specs.Settlement.{turned, of_number, open_ones, fresh, closing, pays}
use Rattle.rules.specs.Rules.{tests, answers, after, step, judged, new_deals, bid_given, terms_given, skipped}
use Rattle.rules.specs.Numbers.{kind_of}
use Rattle.rules.specs.Law.{Orderly, OrderKept, Entry, History, Fixing, fixing, Brought, publishing, rate_now, day_now, closes, closed_at, earliest, dealt, terms_of, bids_of, maturing, matured_at, rolled_by, rolled_since, run}
use Rattle.rules.proofs.Allotment.{Sound, Sorted, allotted-keeps, total-append}
use Rattle.rules.proofs.Lives.{kept_kept, kept_alike, closed_same, Life, over, going}
use Rattle.rules.proofs.Places.{Known}
use Rattle.rules.proofs.Stands.{Stood, dealt-announce, dealt-bid}
use Rattle.rules.proofs.Rests.{was_live}
use Rattle.rules.proofs.Questions.{new_ones}
use Rattle.rules.proofs.Runs.{Kept, kept_run, passed, entry, publish_new, publish_deals, stood_bidding, stood_sealed}

-- ---- sums
sum_alike : {X : Type 0} (f g : X → ℕ) (xs : List X) → ((x : X) → f x ≡ g x) → total (map f xs) ≡ total (map g xs)
sum_alike f g [] e = refl
sum_alike f g (x ∷ xs) e = ap₂ (λ a b. a + b) (e x) (sum_alike f g xs e)

-- a sum over what a filter keeps
kept_sum : {X : Type 0} (f : X → ℕ) (p : X → Bool) (xs : List X) → total (map f (filter p xs)) ≡ total (map (λ x. cond (p x) (f x) 0) xs)
kept_sum f p [] = refl
kept_sum f p (x ∷ xs) = go (p x) (kept_sum f p xs)
  where
    go : (t : Bool) → total (map f (filter p xs)) ≡ total (map (λ x. cond (p x) (f x) 0) xs) → total (map f (cond t (x ∷ filter p xs) (filter p xs))) ≡ cond t (f x) 0 + total (map (λ x. cond (p x) (f x) 0) xs)
    go true e = ap (λ n. f x + n) e
    go false e = omega (arith, e)

sum-kept_kept : {X : Type 0} (f : X → ℕ) (p c : X → Bool) (xs : List X) → total (map (λ x. cond (c x) 0 (f x)) (filter p xs)) ≡ total (map f (filter (λ x. p x && not (c x)) xs))
sum-kept_kept f p c xs = kept_sum (λ x. cond (c x) 0 (f x)) p xs ∙ sum_alike _ _ xs (λ x. go (p x) (c x) (f x)) ∙ sym (kept_sum f (λ x. p x && not (c x)) xs)
  where
    go : (t u : Bool) (n : ℕ) → cond t (cond u 0 n) 0 ≡ cond (t && not u) n 0
    go true true n = refl
    go true false n = refl
    go false u n = refl

-- the open hedges after a settlement, weighed by their deals: those that close weigh nought
turned-sum : (paid shut : Hedge → Bool) (day r : ℕ) (c : Deal → Bool) (f : Deal → ℕ) (hs : List Hedge) → ((x : Hedge) → x.live ≡ true → shut x ≡ c x.deal)
    → total (map (λ x. f x.deal) (open_ones (map (λ x. turned (paid x) (shut x) day r x) hs))) ≡ total (map (λ x. cond (c x.deal) 0 (f x.deal)) (open_ones hs))
turned-sum paid shut day r c f [] e = refl
turned-sum paid shut day r c f (x ∷ hs) e = go x.live refl (shut x) refl (turned-sum paid shut day r c f hs e)
  where
    new : List Hedge
    new = open_ones (map (λ x. turned (paid x) (shut x) day r x) hs)

    go : (o : Bool) → x.live ≡ o → (t : Bool) → shut x ≡ t → total (map (λ x. f x.deal) new) ≡ total (map (λ x. cond (c x.deal) 0 (f x.deal)) (open_ones hs))
        → total (map (λ x. f x.deal) (cond (o && not t) (turned (paid x) (shut x) day r x ∷ new) new)) ≡ total (map (λ x. cond (c x.deal) 0 (f x.deal)) (cond o (x ∷ open_ones hs) (open_ones hs)))
    go false q t u ih = ih
    go true q true u ih = let z : c x.deal ≡ true = sym (e x q) ∙ u in omega (arith, ih, ap (λ w. cond w 0 (f x.deal)) z)
    go true q false u ih = let z : c x.deal ≡ false = sym (e x q) ∙ u in omega (arith, ih, ap (λ w. cond w 0 (f x.deal)) z)

open_twice : (hs : List Hedge) → open_ones (open_ones hs) ≡ open_ones hs
open_twice hs = kept_kept (λ x. x.live) (λ x. x.live) hs ∙ kept_alike (λ x. x.live && x.live) (λ x. x.live) hs (λ x. same x.live)
  where
    same : (o : Bool) → (o && o) ≡ o
    same true = refl
    same false = refl

fresh-sum : (day : ℕ) (f : Deal → ℕ) (ds : List Deal) → total (map (λ x. f x.deal) (open_ones (map (fresh day) ds))) ≡ total (map f ds)
fresh-sum day f [] = refl
fresh-sum day f (d ∷ ds) = ap (λ n. f d + n) (fresh-sum day f ds)

kept_all : {X : Type 0} (p : X → Bool) (xs : List X) → AllByRecursion (λ x. p x ≡ true) xs → filter p xs ≡ xs
kept_all p [] a = refl
kept_all p (x ∷ xs) a = ap (λ t. cond t (x ∷ filter p xs) (filter p xs)) a.0 ∙ ap (λ ys. x ∷ ys) (kept_all p xs a.1)

none_kept : {X : Type 0} (p : X → Bool) (xs : List X) → length (filter p xs) ≡ 0 → AllByRecursion (λ x. p x ≡ false) xs
none_kept p [] e = tt
none_kept p (x ∷ xs) e = go (p x) refl e (λ q. none_kept p xs q)
  where
    go : (t : Bool) → p x ≡ t → length (cond t (x ∷ filter p xs) (filter p xs)) ≡ 0 → (length (filter p xs) ≡ 0 → AllByRecursion (λ x. p x ≡ false) xs) → (p x ≡ false) × AllByRecursion (λ x. p x ≡ false) xs
    go true q z ih = absurd (omega arith)
    go false q z ih = (q, ih z)

-- ---- millions
millions-cons : (i : ℕ) (x : Bid) (xs : List Bid) → millions_of i (x ∷ xs) ≡ cond (eqb x.institution i) x.millions 0 + millions_of i xs
millions-cons i x xs = go (eqb x.institution i)
  where
    go : (t : Bool) → total (map (λ y. y.millions) (cond t (x ∷ filter (λ y. eqb y.institution i) xs) (filter (λ y. eqb y.institution i) xs))) ≡ cond t x.millions 0 + millions_of i xs
    go true = refl
    go false = omega arith

entered-millions : (i : ℕ) (x : Bid) (xs : List Bid) → millions_of i (entered x xs) ≡ cond (eqb x.institution i) x.millions 0 + millions_of i xs
entered-millions i x [] = millions-cons i x []
entered-millions i x (y ∷ ys) = go (lt_z y.price x.price) (entered-millions i x ys)
  where
    go : (t : Bool) → millions_of i (entered x ys) ≡ cond (eqb x.institution i) x.millions 0 + millions_of i ys → millions_of i (cond t (x ∷ y ∷ ys) (y ∷ entered x ys)) ≡ cond (eqb x.institution i) x.millions 0 + millions_of i (y ∷ ys)
    go true e = millions-cons i x (y ∷ ys)
    go false e = omega (arith, millions-cons i y (entered x ys), millions-cons i y ys, e)

-- ---- dollars of a publication
numbered_dollars : (n r : ℕ) (t : Terms) (gs : List Got) → total (map (λ d. d.dollars) (numbered_from n r t gs)) ≡ total (map (λ x. x.dollars) gs)
numbered_dollars n r t [] = refl
numbered_dollars n r t (x ∷ xs) = go (eqb x.dollars 0) refl (numbered_dollars n r t xs) (numbered_dollars (suc n) r t xs)
  where
    go : (b : Bool) → eqb x.dollars 0 ≡ b → total (map (λ d. d.dollars) (numbered_from n r t xs)) ≡ total (map (λ x. x.dollars) xs) → total (map (λ d. d.dollars) (numbered_from (suc n) r t xs)) ≡ total (map (λ x. x.dollars) xs)
        → total (map (λ d. d.dollars) (cond b (numbered_from n r t xs) (deal_of n r t x ∷ numbered_from (suc n) r t xs))) ≡ x.dollars + total (map (λ x. x.dollars) xs)
    go true q i j = omega (arith, i, eqb-true x.dollars 0 q)
    go false q i j = ap (λ m. x.dollars + m) j

-- a maturity auction offers no more than has matured
abbrev Covers : Kind → ℕ → ℕ → Type 0
Covers Initial offer matured = Unit {0}
Covers Maturity offer matured = 1000000 * offer ≤ matured

sold_covered : (kind : Kind) (offer matured : ℕ) (ds : List Deal) → Covers kind offer matured → total (map (λ d. d.dollars) ds) ≤ 1000000 * offer → sold_at kind ds ≤ matured
sold_covered Initial offer matured ds c h = omega arith
sold_covered Maturity offer matured ds c h = omega (arith, c)

-- ---- what every run keeps
pub record Ordered (P : Plan) (T : Sharing) (h : History) (b : Books) : Type 0 where
  pub today : b.day ≡ day_now P h
  pub ahead : AllByRecursion (λ x. x.live ≡ true → b.day ≤ x.deal.maturity) b.hedges
  pub caps : (n i : ℕ) → millions_of i (bids_of n h) ≤ (terms_of n h).cap
  pub sums : (f : Deal → ℕ) → total (map (λ x. f x.deal) (open_ones b.hedges)) ≡ total (map f (filter (λ g. not (is_some (closed_at g h))) (dealt T h)))
  pub covered : b.matured + rolled_since T h ≡ matured_at T h
  pub offer : Covers (standing b.auction).terms.kind (standing b.auction).terms.offer b.matured

open_after : (o : Option ℕ) (t : Bool) (r : ℕ) → not (is_some (earliest o (cond t (Some r) None))) ≡ (not (is_some o) && not t)
open_after (Some n) t r = refl
open_after None true r = refl
open_after None false r = refl

module _ (P : Plan) (T : Sharing) (C : Deciding) (h : History) (b : Books) (k : Kept T h b) (s : Ordered P T h b) where
  -- a call that closes nothing, is no fix and no publication, and leaves day, hedges and matured dollars
  quiet : (e : Entry) (b' : Books) → ((g : Deal) → closes g e ≡ false) → fixing e ≡ None → publishing e ≡ None → dealt T (e ∷ h) ≡ dealt T h
      → b'.day ≡ b.day → b'.hedges ≡ b.hedges → b'.matured ≡ b.matured → ((n i : ℕ) → millions_of i (bids_of n (e ∷ h)) ≤ (terms_of n (e ∷ h)).cap)
      → Covers (standing b'.auction).terms.kind (standing b'.auction).terms.offer b.matured → Ordered P T (e ∷ h) b'
  quiet e b' still nofix nopub deals day hedges matured caps offer = record {
    today = day ∙ s.today ∙ sym (ap (λ (o : Option Fixing). elim o [ Some f ↦ f.day | None ↦ day_now P h ]) nofix);
    ahead = subst (λ (d : ℕ). AllByRecursion (λ x. x.live ≡ true → d ≤ x.deal.maturity) b'.hedges) (sym day) (subst (AllByRecursion (λ x. x.live ≡ true → b.day ≤ x.deal.maturity)) (sym hedges) s.ahead);
    caps = caps;
    sums = λ f. ap (λ hs. total (map (λ x. f x.deal) (open_ones hs))) hedges ∙ s.sums f
        ∙ ap (λ ds. total (map f ds)) (kept_alike (λ g. not (is_some (closed_at g h))) (λ g. not (is_some (closed_at g (e ∷ h)))) (dealt T h) (λ g. ap (λ o. not (is_some o)) (sym (closed_same e h g (still g)))) ∙ ap (filter (λ g. not (is_some (closed_at g (e ∷ h))))) (sym deals));
    covered = ap₂ (λ m n. m + n) matured (ap₂ (λ (o : Option Fixing) (p : Option Brought). elim o [ Some f ↦ 0 | None ↦ elim p [ Some q ↦ rolled_by T h q + rolled_since T h | None ↦ rolled_since T h ] ]) nofix nopub) ∙ s.covered ∙ sym (ap (λ (o : Option Fixing). elim o [ Some f ↦ maturing T h f.day | None ↦ matured_at T h ]) nofix);
    offer = subst (Covers (standing b'.auction).terms.kind (standing b'.auction).terms.offer) (sym matured) offer;
  }

  same-caps : (n i : ℕ) → millions_of i (bids_of n h) ≤ (terms_of n h).cap
  same-caps = s.caps

  caps_announce : (kd o c m : ℤ) (n i : ℕ) → millions_of i (bids_of n h) ≤ (cond (eqb (suc b.auctions) n) (terms_given kd o c m) (terms_of n h)).cap
  caps_announce kd o c m n i = go (eqb (suc b.auctions) n) refl
    where
      go : (t : Bool) → eqb (suc b.auctions) n ≡ t → millions_of i (bids_of n h) ≤ (cond t (terms_given kd o c m) (terms_of n h)).cap
      go true e = let z = ap (millions_of i) (k.sold.later n (omega (arith, eqb-true (suc b.auctions) n e))) in omega (arith, z)
      go false e = s.caps n i

  caps_bid : (n : ℕ) (x : Bid) → Stood h b.day b.auction b.auctions n → millions_of x.institution (standing b.auction).bids + x.millions ≤ (standing b.auction).terms.cap
      → (j i : ℕ) → millions_of i (cond (eqb n j) (entered x (bids_of j h)) (bids_of j h)) ≤ (terms_of j h).cap
  caps_bid n x v room j i = go (eqb n j) refl
    where
      go : (t : Bool) → eqb n j ≡ t → millions_of i (cond t (entered x (bids_of j h)) (bids_of j h)) ≤ (terms_of j h).cap
      go false e = s.caps j i
      go true e = by (eqb x.institution i) refl
        where
          same : n ≡ j
          same = eqb-true n j e

          cap : (standing b.auction).terms.cap ≡ (terms_of j h).cap
          cap = ap (λ t. t.cap) (v.terms ∙ ap (λ m. terms_of m h) same)

          mine : (standing b.auction).bids ≡ bids_of j h
          mine = v.bids ∙ ap (λ m. bids_of m h) same

          by : (t : Bool) → eqb x.institution i ≡ t → millions_of i (entered x (bids_of j h)) ≤ (terms_of j h).cap
          by true q =
              let z = eqb-true x.institution i q in
              let y = ap₂ (λ m bs. millions_of m bs) z mine in
              omega (arith, entered-millions i x (bids_of j h), ap (λ t. cond t x.millions 0) q, y, room, cap)
          by false q = omega (arith, entered-millions i x (bids_of j h), ap (λ t. cond t x.millions 0) q, s.caps j i)

  -- what announce's test leaves of a maturity offer
  offer_announce : (kd o c m : ℤ) → (lt_z (pos 0) kd && ltb b.matured (1000000 * nat_abs o)) ≡ false → Covers (kind_of kd) (nat_abs o) b.matured
  offer_announce kd o c m e = go (lt_z (pos 0) kd) e
    where
      go : (t : Bool) → (t && ltb b.matured (1000000 * nat_abs o)) ≡ false → Covers (cond t Maturity Initial) (nat_abs o) b.matured
      go true q = ltb-false b.matured (1000000 * nat_abs o) q
      go false q = tt

  no_cover : (m : ℕ) → stands b.auction ≡ false → Covers (standing b.auction).terms.kind (standing b.auction).terms.offer m
  no_cover m f = go b.auction f
    where
      go : (o : Option Auction) → stands o ≡ false → Covers (standing o).terms.kind (standing o).terms.offer m
      go None q = tt
      go (Some a) q = absurd (both_ways true q refl)

  ordered_publish : (n : ℕ) → AllByRecursion (λ t. t.1 ≡ false) (tests P T C b (publish n)) → Ordered P T (entry P T C h b k (publish n) ∷ h) (after P T C b (publish n))
  ordered_publish n p = record {
    today = s.today;
    ahead = All-append (λ x. x.live ≡ true → b.day ≤ x.deal.maturity) b.hedges (map (fresh b.day) ds) s.ahead
        (All-map (λ x. x.live ≡ true → b.day ≤ x.deal.maturity) (fresh b.day) ds (All-weaker New (λ g. true ≡ true → b.day ≤ g.maturity) (λ g q _. omega (arith, q.1)) ds news));
    caps = s.caps;
    sums = λ f.
        ap (λ hs. total (map (λ x. f x.deal) hs)) (filter-append (λ x. x.live) b.hedges (map (fresh b.day) ds))
        ∙ ap total (map-append (λ x. f x.deal) (open_ones b.hedges) (open_ones (map (fresh b.day) ds))) ∙ total-append (map (λ x. f x.deal) (open_ones b.hedges)) (map (λ x. f x.deal) (open_ones (map (fresh b.day) ds)))
        ∙ ap₂ (λ x y. x + y) (s.sums f ∙ ap (λ gs. total (map f gs)) (kept_alike open_before open_now (dealt T h) (λ g. ap (λ o. not (is_some o)) (sym (closed_same e h g refl))))) (fresh-sum b.day f ds)
        ∙ swap (total (map f (filter open_now (dealt T h)))) (total (map f ds))
        ∙ sym (ap (λ gs. total (map f (filter open_now gs))) deals ∙ ap (λ gs. total (map f gs)) (filter-append open_now ds (dealt T h)) ∙ ap total (map-append f (filter open_now ds) (filter open_now (dealt T h)))
        ∙ total-append (map f (filter open_now ds)) (map f (filter open_now (dealt T h))) ∙ ap (λ gs. total (map f gs) + total (map f (filter open_now (dealt T h)))) (kept_all open_now ds still));
    covered = let r = ap₂ sold_at (sym (ap (λ t. t.kind) v.terms)) (publish_new P T C h b k n v) in omega (arith, r, enough, s.covered);
    offer = tt;
  }
    where
      e : Entry
      e = entry P T C h b k (publish n)

      ds : List Deal
      ds = new_deals P T C b

      v : Stood h b.day b.auction b.auctions n
      v = stood_sealed P T C h b k n p

      terms : Terms
      terms = (standing b.auction).terms

      gots : List Got
      gots = allotted T terms (standing b.auction).bids

      deals : dealt T (e ∷ h) ≡ ds ++ dealt T h
      deals = publish_deals P T C h b k n v

      New : Deal → Type 0
      New g = (b.numbered < g.number) × (b.day < g.maturity)

      sound : AllByRecursion Sound (standing b.auction).bids
      sound = subst (AllByRecursion Sound) (sym v.bids) (k.sold.taken n).sound

      news : AllByRecursion New ds
      news = new_ones P T C h b k n p

      open_before : Deal → Bool
      open_before g = not (is_some (closed_at g h))

      open_now : Deal → Bool
      open_now g = not (is_some (closed_at g (e ∷ h)))

      still : AllByRecursion (λ g. open_now g ≡ true) ds
      still = All-weaker New (λ g. open_now g ≡ true) (λ g q. ap (λ o. not (is_some o)) (closed_same e h g refl ∙ k.placed.unclosed g q.0 q.1)) ds news

      swap : (x y : ℕ) → x + y ≡ y + x
      swap x y = omega arith

      enough : sold_at terms.kind ds ≤ b.matured
      enough = sold_covered terms.kind terms.offer b.matured ds s.offer
          (let w = (allotted-keeps T terms (standing b.auction).bids (omega (arith, ap (λ (t : Terms). t.offer) v.terms, k.sold.offered n)) (omega (arith, ap length v.bids, (k.sold.taken n).few)) sound (subst Sorted (sym v.bids) (k.sold.taken n).sorted)).whole in
          omega (arith, numbered_dollars (suc b.numbered) b.rate terms gots, w))

  ordered_fix : (d r : ℤ) (room : ℕ) → AllByRecursion (λ t. t.1 ≡ false) (tests P T C b (fix d r room)) → Ordered P T (entry P T C h b k (fix d r room) ∷ h) (after P T C b (fix d r room))
  ordered_fix d r room p = record {
    today = refl;
    ahead = All-map (λ x. x.live ≡ true → day ≤ x.deal.maturity) turn (open_ones b.hedges) (All-weaker (λ x. lt_z (pos x.deal.maturity) d ≡ false) (λ x. (x.live && not (closing day x)) ≡ true → day ≤ x.deal.maturity) (λ x q _. reach x.deal.maturity q) (open_ones b.hedges) none);
    caps = s.caps;
    sums = λ f.
        turned-sum (pays C day (nat_abs r)) (closing day) day (nat_abs r) closes-now f (open_ones b.hedges) (λ x _. refl)
        ∙ ap (λ hs. total (map (λ x. cond (closes-now x.deal) 0 (f x.deal)) hs)) (open_twice b.hedges) ∙ s.sums (λ g. cond (closes-now g) 0 (f g))
        ∙ sum-kept_kept f (λ g. not (is_some (closed_at g h))) closes-now (dealt T h)
        ∙ ap (λ gs. total (map f gs)) (kept_alike (λ g. not (is_some (closed_at g h)) && not (closes-now g)) (λ g. not (is_some (closed_at g (e ∷ h)))) (dealt T h) (λ g. sym (open_after (closed_at g h) (closes-now g) (nat_abs r))));
    covered = sum0 (total (map (λ x. x.deal.dollars) (filter (closing day) (open_ones b.hedges))))
        ∙ kept_sum (λ x. x.deal.dollars) (closing day) (open_ones b.hedges) ∙ s.sums (λ g. cond (closes-now g) g.dollars 0)
        ∙ sym (kept_sum (λ g. g.dollars) closes-now (filter (λ g. not (is_some (closed_at g h))) (dealt T h)))
        ∙ ap (λ gs. total (map (λ g. g.dollars) gs)) (kept_kept closes-now (λ g. not (is_some (closed_at g h))) (dealt T h));
    offer = no_cover (total (map (λ x. x.deal.dollars) (filter (closing day) (open_ones b.hedges)))) p.1.1.1.0;
  }
    where
      e : Entry
      e = entry P T C h b k (fix d r room)

      day : ℕ
      day = nat_abs d

      turn : Hedge → Hedge
      turn x = turned (pays C day (nat_abs r) x) (closing day x) day (nat_abs r) x

      closes-now : Deal → Bool
      closes-now g = eqb g.maturity day

      order : (le_z d (pos b.day) ≡ false) × (not (eqb (length (skipped d b.hedges)) 0) ≡ false)
      order = or_parts (le_z d (pos b.day)) (not (eqb (length (skipped d b.hedges)) 0)) p.1.1.1.1.0

      none : AllByRecursion (λ x. lt_z (pos x.deal.maturity) d ≡ false) (open_ones b.hedges)
      none = none_kept (λ x. lt_z (pos x.deal.maturity) d) (open_ones b.hedges) (eqb-true (length (skipped d b.hedges)) 0 (not-false (eqb (length (skipped d b.hedges)) 0) order.1))

      reach : (m : ℕ) → lt_z (pos m) d ≡ false → day ≤ m
      reach m q = let z = order.0 in omega (arith, ints)

      sum0 : (n : ℕ) → n + 0 ≡ n
      sum0 n = omega arith

  ordered_end : (n : ℤ) → Ordered P T (entry P T C h b k (terminate n) ∷ h) (after P T C b (terminate n))
  ordered_end n = record {
    today = s.today;
    ahead = All-map (λ x. x.live ≡ true → b.day ≤ x.deal.maturity) turn b.hedges (All-weaker (λ x. x.live ≡ true → b.day ≤ x.deal.maturity) (λ x. (x.live && not (of_number (nat_abs n) x)) ≡ true → b.day ≤ x.deal.maturity) (λ x a q. a (and_parts x.live (not (of_number (nat_abs n) x)) q).0) b.hedges s.ahead);
    caps = s.caps;
    sums = λ f.
        turned-sum (of_number (nat_abs n)) (of_number (nat_abs n)) b.day b.rate named-now f b.hedges (λ x o. ap (λ t. t && eqb x.deal.number (nat_abs n)) o) ∙ s.sums (λ g. cond (named-now g) 0 (f g))
        ∙ sum-kept_kept f (λ g. not (is_some (closed_at g h))) named-now (dealt T h)
        ∙ ap (λ gs. total (map f gs)) (kept_alike (λ g. not (is_some (closed_at g h)) && not (named-now g)) (λ g. not (is_some (closed_at g (e ∷ h)))) (dealt T h) (λ g. sym (open_after (closed_at g h) (named-now g) (rate_now h))));
    covered = s.covered;
    offer = s.offer;
  }
    where
      e : Entry
      e = entry P T C h b k (terminate n)

      turn : Hedge → Hedge
      turn x = turned (of_number (nat_abs n) x) (of_number (nat_abs n) x) b.day b.rate x

      named-now : Deal → Bool
      named-now g = eqb g.number (nat_abs n)

  ordered_after : (c : Call) → AllByRecursion (λ t. t.1 ≡ false) (tests P T C b c) → Ordered P T (entry P T C h b k c ∷ h) (after P T C b c)
  ordered_after (admit i) p = quiet (entry P T C h b k (admit i)) (after P T C b (admit i)) (λ g. refl) refl refl refl refl refl refl s.caps s.offer
  ordered_after (announce kd o c m) p = quiet (entry P T C h b k (announce kd o c m)) (after P T C b (announce kd o c m)) (λ g. refl) refl refl (dealt-announce T h b.day b.auction b.auctions kd o c m k.sold) refl refl refl (caps_announce kd o c m) (offer_announce kd o c m p.1.1.1.1.0)
  ordered_after (bid n i q m) p =
      let v = stood_bidding P T C h b k n i q m p in
      quiet (entry P T C h b k (bid n i q m)) (after P T C b (bid n i q m)) (λ g. refl) refl refl (dealt-bid T h b.day b.auction b.auctions n i q m v) refl refl refl
      (caps_bid n (bid_given i q m) v (ltb-false (standing b.auction).terms.cap (millions_of (nat_abs i) (standing b.auction).bids + nat_abs m) p.1.1.1.1.1.1.0)) s.offer
  ordered_after (seal n) p = quiet (entry P T C h b k (seal n)) (after P T C b (seal n)) (λ g. refl) refl refl refl refl refl refl s.caps s.offer
  ordered_after (publish n) p = ordered_publish n p
  ordered_after (void t) p = quiet (entry P T C h b k (void t)) (after P T C b (void t)) (λ g. refl) refl refl refl refl refl refl s.caps tt
  ordered_after (fix d r room) p = ordered_fix d r room p
  ordered_after (lodge i z) p = quiet (entry P T C h b k (lodge i z)) (after P T C b (lodge i z)) (λ g. refl) refl refl refl refl refl refl s.caps s.offer
  ordered_after (release i z) p = quiet (entry P T C h b k (release i z)) (after P T C b (release i z)) (λ g. refl) refl refl refl refl refl refl s.caps s.offer
  ordered_after (terminate n) p = ordered_end n

  ordered_step : (c : Call) → Ordered P T (record { call = c; answer = (step P T C b c).0.answer; lines = (step P T C b c).0.lines } ∷ h) (step P T C b c).1
  ordered_step c = go (first (tests P T C b c)) refl
    where
      go : (o : Option Refusal) → first (tests P T C b c) ≡ o
          → Ordered P T (record { call = c; answer = (judged o (answers P T C b c) b (after P T C b c)).0.answer; lines = (judged o (answers P T C b c) b (after P T C b c)).0.lines } ∷ h) (judged o (answers P T C b c) b (after P T C b c)).1
      go (Some why) e = quiet (record { call = c; answer = Err why; lines = [] }) b (λ g. refl) refl refl refl refl refl refl s.caps s.offer
      go None e = ordered_after c (passed (tests P T C b c) e)

ordered_run : (P : Plan) (T : Sharing) (C : Deciding) (free : ℕ) (calls : List Call) → Ordered P T (run P T C free calls).history (run P T C free calls).books
ordered_run P T C free [] = record { today = refl; ahead = tt; caps = λ n i. omega arith; sums = λ f. refl; covered = refl; offer = tt }
ordered_run P T C free (c ∷ cs) = ordered_step P T C (run P T C free cs).history (run P T C free cs).books (kept_run P T C free cs) (ordered_run P T C free cs) c

orderly : (P : Plan) (T : Sharing) (h : History) (b : Books) → Kept T h b → Ordered P T h b → Orderly P T h
orderly P T h b k s = record {
  none_past = All-weaker (Known h b.hedges b.numbered) (λ g. closed_at g h ≡ None → day_now P h ≤ g.maturity) (λ g v c. go g v.lived.life c) (dealt T h) k.placed.known;
  covered = omega (arith, s.covered);
  capped = s.caps;
}
  where
    go : (g : Deal) → Life h b.hedges g → closed_at g h ≡ None → day_now P h ≤ g.maturity
    go g (over c e) q = let z : ◌≡◌ {A = ℕ} 0 1 = cc in absurd (omega arith)
    go g (going c x e d r) q =
        let a = (subst (AllByRecursion (λ x. x.live ≡ true → b.day ≤ x.deal.maturity)) e (all_kept_by (of_number g.number) (λ x. x.live ≡ true → b.day ≤ x.deal.maturity) b.hedges s.ahead)).0 (was_live g.number b.hedges x e) in
        omega (arith, a, s.today, ap (λ (y : Deal). y.maturity) d)

pub order_kept : OrderKept
order_kept P T C free calls = orderly P T (run P T C free calls).history (run P T C free calls).books (kept_run P T C free calls) (ordered_run P T C free calls)
