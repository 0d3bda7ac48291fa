-- Sizes: every line of a run can be posted.
use Rattle.std.proofs.Common.{◌≡◌, ℕ, suc, ◌+◌, ◌-◌, ◌*◌, ◌/◌, ◌<◌, ◌≤◌, Bool, true, false, cond, not, ◌&&◌, eqb, ltb, ◌⊎◌, List, [], ◌∷◌, ◌++◌, map, length, ℤ, pos, negsuc, ◌+ℤ◌, ◌*ℤ◌, neg_ℤ, nat_abs, Some, None, filter, Option, sym, refl, ap, ◌∙◌, subst, ap₂, inl, inr, mul-le-mul, arith, length-append}
use lib.Signed.{lt_z}
use borrow.Author.Differences.{neg_is, abs_is}
use Rattle.std.proofs.lemmas.Int.{ints}
use Rattle.std.proofs.lemmas.Bool.{both_ways, or_parts, not-false, ltb-false, eqb-false, cases_lt, and_parts}
use Rattle.std.proofs.lemmas.List.{length-map}
use Rattle.std.proofs.lemmas.List.Elements.{filter-append}
use Rattle.std.proofs.ByRecursion.{All-append, All-weaker, all_kept_by, All-map}
use Rattle.std.specs.List.{AllByRecursion}
use Rattle.rules.proofs.Allotment.{Sound, Sorted, allotted-keeps, allotted-all, entered_all}
use Rattle.rules.proofs.Lives.{here, here-turned, here-turned_open}
use Rattle.rules.proofs.Places.{length_both, rising_single, Rising, none_here, rising_bounds, here-fresh_none, numbered_rising}
use Rattle.rules.proofs.Stands.{Stood}
use Rattle.rules.proofs.Runs.{Kept, kept_run, passed, bounds}
use Rattle.rules.specs.declared.call.Call.TheVariants.{Admit as admit, Announce as announce, Bid as bid, Seal as seal, Publish as publish, Void as void, Fix as fix, Lodge as lodge, Release as release, Terminate as terminate}
use Rattle.rules.specs.declared.auction.Kind.TheVariants.{Initial as initial, Maturity as maturing}
use Rattle.rules.specs.declared.auction.Kind.{Kind}
use Rattle.rules.specs.declared.call.Call.{Call}
use Rattle.rules.specs.Books.{sealed, Auction, Books, sum_by, standing, stands, institutions, holds, with_desk, with_auction}
use Rattle.terms.specs.declared.refusal.Refusal.{Refusal}
use Rattle.rules.specs.declared.auction.Terms.{Terms}
use Rattle.rules.specs.declared.auction.Bid.{Bid}
use Rattle.rules.specs.declared.hedge.Line.{Line}
use Rattle.rules.specs.declared.hedge.Deal.{Deal}
use Rattle.rules.specs.declared.hedge.Hedge.{Hedge}
use Rattle.rules.specs.declared.hedge.Desk.{Desk}
use Rattle.terms.specs.declared.plan.Plan.{Plan}
use Rattle.tie_rules.specs.Sharing.{Sharing}
use Rattle.conventions.specs.Deciding.{Deciding}
use Rattle.terms.specs.Ranges.{is_rate, is_units}
use Rattle.terms.specs.Rounding.{rounded, rounded_up, requirement_of}
use Rattle.terms.specs.Refusals.{first}
use Rattle.rules.specs.Rules.{is_price, judged, tests, answers, after, step, new_deals, fix_lines, end_lines, admitted_ones, bid_given}
use Rattle.rules.specs.Settlement.{open_ones, of_number, pays, closing, turned, line_of, worth, rise, penalties, penalty, short, value_of, fresh}
use Rattle.rules.specs.Allotment.{named, numbered_from, deal_of, allotted, Got, assigned_rate}
use Rattle.rules.specs.Law.{PostingsFit, Postable, History, Entry, run, told, ending, OneIf}

-- ---- bounds of numbers
times : (d D Z : ℕ) (z : ℤ) → d ≤ D → nat_abs z ≤ Z → nat_abs (pos d *ℤ z) ≤ D * Z
times d D Z (pos n) h k = mul-le-mul h k
times d D Z (negsuc n) h k = omega (arith, abs_is (neg_ℤ (pos (d * suc n))), neg_is (pos (d * suc n)), mul-le-mul {n₁ = d} {m₁ = suc n} {n₂ = D} {m₂ = Z} h k)

abbrev pub Fit : Hedge → Type 0
Fit x = (x.deal.dollars ≤ 2000000000) × (x.settled ≤ 999999)

pub worth-fits : (r : ℕ) (x : Hedge) → r ≤ 999999 → Fit x → nat_abs (worth r x) ≤ 2000000000000000
worth-fits r x h f = let t = times x.deal.dollars 2000000000 1000000 (rise r x) f.0 (omega (arith, ints, f.1)) in omega arith

pub rounded-fits : (z : ℤ) (m : ℕ) → nat_abs z ≤ m → 100 * nat_abs (rounded z) ≤ m + 50
rounded-fits (pos n) m h = omega arith
rounded-fits (negsuc n) m h = omega (arith, abs_is (neg_ℤ (pos ((suc n + 50) / 100))), neg_is (pos ((suc n + 50) / 100)))

value_fits : (r : ℕ) (xs : List Hedge) → r ≤ 999999 → AllByRecursion Fit xs → nat_abs (sum_by (worth r) xs) ≤ length xs * 2000000000000000
value_fits r [] h f = omega arith
value_fits r (x ∷ xs) h f = go (worth r x) (sum_by (worth r) xs) (worth-fits r x h f.0) (value_fits r xs h f.1)
  where
    go : (a b : ℤ) → nat_abs a ≤ 2000000000000000 → nat_abs b ≤ length xs * 2000000000000000 → nat_abs (a +ℤ b) ≤ suc (length xs) * 2000000000000000
    go a b p q = omega (arith, ints)

required_fits : (part : ℕ) (v : ℤ) → part ≤ 100 → nat_abs v ≤ 256000000000000000 → requirement_of part v ≤ 2560000000000000
required_fits part (pos n) h k = omega arith
required_fits part (negsuc n) h k = let u : rounded_up (suc n) ≤ 2560000000000000 = omega arith in let m : rounded_up (suc n) * part ≤ 2560000000000000 * 100 = mul-le-mul u h in go (rounded_up (suc n) * part) m
  where
    go : (k : ℕ) → k ≤ 256000000000000000 → rounded_up k ≤ 2560000000000000
    go k m = omega arith

pub length-kept : {X : Type 0} (p : X → Bool) (xs : List X) → length (filter p xs) ≤ length xs
length-kept p [] = omega arith
length-kept p (x ∷ xs) = go (p x) (length-kept p xs)
  where
    go : (t : Bool) → length (filter p xs) ≤ length xs → length (cond t (x ∷ filter p xs) (filter p xs)) ≤ suc (length xs)
    go true h = omega arith
    go false h = omega arith

-- ---- what the rules keep in size
abbrev Priced : Kind → ℕ → Bid → Type 0
Priced kind rate x = nat_abs (assigned_rate kind rate x.price) ≤ 999999

record Sized (h : History) (b : Books) (free : ℕ) : Type 0 where
  rate : b.rate ≤ 999999
  priced : AllByRecursion (Priced (standing b.auction).terms.kind b.rate) (standing b.auction).bids
  fit : AllByRecursion Fit b.hedges
  few : length b.hedges ≤ 128
  single : (n : ℕ) → length (here n b.hedges) ≤ 1
  guarantee : (i : ℕ) → (b.desk i).requirement ≤ 2560000000000000
  post : Postable free h b

a_rate : (z : ℤ) → is_rate z ≡ true → nat_abs z ≤ 999999
a_rate z e = (bounds 1 999999 z (omega arith) e).1

price_fits : (k : Kind) (rate : ℕ) (p : ℤ) → is_price k rate p ≡ true → nat_abs (assigned_rate k rate p) ≤ 999999
price_fits initial rate p e = a_rate p e
price_fits maturing rate p e = a_rate (p +ℤ pos rate) (and_parts (is_units p) (is_rate (p +ℤ pos rate)) e).1

numbered_each : (Q : Got → Type 0) (R : Deal → Type 0) (r : ℕ) (t : Terms) → ((n : ℕ) (x : Got) → Q x → R (deal_of n r t x)) → (n : ℕ) (gs : List Got) → AllByRecursion Q gs → AllByRecursion R (numbered_from n r t gs)
numbered_each Q R r t f n [] h = tt
numbered_each Q R r t f n (x ∷ xs) h = go (eqb x.dollars 0) (numbered_each Q R r t f n xs h.1) (numbered_each Q R r t f (suc n) xs h.1)
  where
    go : (b : Bool) → AllByRecursion R (numbered_from n r t xs) → AllByRecursion R (numbered_from (suc n) r t xs) → AllByRecursion R (cond b (numbered_from n r t xs) (deal_of n r t x ∷ numbered_from (suc n) r t xs))
    go true i j = i
    go false i j = (f n x h.0, j)

all_both : {X : Type 0} (P Q : X → Type 0) (xs : List X) → AllByRecursion P xs → AllByRecursion Q xs → AllByRecursion (λ x. P x × Q x) xs
all_both P Q [] a b = tt
all_both P Q (x ∷ xs) a b = ((a.0, b.0), all_both P Q xs a.1 b.1)

no-bids : (Q : Bid → Type 0) (o : Option Auction) → stands o ≡ false → AllByRecursion Q (standing o).bids
no-bids Q None e = tt
no-bids Q (Some a) e = absurd (both_ways true e refl)

desk_fits : (t : Bool) (d e : Desk) → d.requirement ≤ 2560000000000000 → e.requirement ≤ 2560000000000000 → (cond t d e).requirement ≤ 2560000000000000
desk_fits true d e p q = p
desk_fits false d e p q = q

turned-fits : (paid shut : Bool) (day r : ℕ) (x : Hedge) → r ≤ 999999 → Fit x → Fit (turned paid shut day r x)
turned-fits true shut day r x h f = (f.0, h)
turned-fits false shut day r x h f = f

lines_fit : (r : ℕ) (xs : List Hedge) → r ≤ 999999 → AllByRecursion Fit xs → AllByRecursion (λ l. nat_abs l.centavos ≤ 30000000000000) (map (line_of r) xs)
lines_fit r xs h f = All-map (λ l. nat_abs l.centavos ≤ 30000000000000) (line_of r) xs (All-weaker Fit (λ x. nat_abs (rounded (worth r x)) ≤ 30000000000000) (λ x g. let q = rounded-fits (worth r x) 2000000000000000 (worth-fits r x h g) in omega arith) xs f)

penalties-fit : (desk : ℕ → Desk) (is : List ℕ) → ((i : ℕ) → (desk i).requirement ≤ 2560000000000000) → AllByRecursion (λ l. nat_abs l.centavos ≤ 30000000000000) (map (penalty desk) is)
penalties-fit desk [] g = tt
penalties-fit desk (i ∷ is) g = (one ((desk i).requirement - (desk i).collateral) (omega (arith, g i)), penalties-fit desk is g)
  where
    one : (n : ℕ) → n ≤ 2560000000000000 → nat_abs (rounded (neg_ℤ (pos n))) ≤ 30000000000000
    one n h = let q = rounded-fits (neg_ℤ (pos n)) 2560000000000000 (omega (arith, abs_is (neg_ℤ (pos n)), neg_is (pos n))) in omega arith

module _ (P : Plan) (T : Sharing) (C : Deciding) (free : ℕ) (h : History) (b : Books) (k : Kept T h b) (s : Sized h b free) where
  abbrev entry : Call → Entry
  entry c = record { call = c; answer = (answers P T C b c).answer; lines = (answers P T C b c).lines }

  -- a call that no .lines line, posts none and terminates nothing
  quiet : (c : Call) (b' : Books) → (entry c).lines ≡ [] → ending (entry c) ≡ None → b'.free ≡ b.free → Postable free (entry c ∷ h) b'
  quiet c b' none e f = record {
    amounts = subst (λ (ls : List Line). AllByRecursion (λ l. nat_abs l.centavos ≤ 30000000000000) (ls ++ told h)) (sym none) s.post.amounts;
    count = ap₂ (λ (n : ℕ) (ls : List Line). n + length (ls ++ told h)) f none ∙ s.post.count;
    one = (subst (λ (o : Option ℕ). OneIf o (entry c).lines) (sym e) tt, s.post.one);
  }

  sized-desk : (c : Call) (i : ℕ) (d : Desk) → (entry c).lines ≡ [] → ending (entry c) ≡ None → d.requirement ≤ 2560000000000000 → Sized (entry c ∷ h) (with_desk i d b) free
  sized-desk c i d none e g = record { rate = s.rate; priced = s.priced; fit = s.fit; few = s.few; single = s.single; guarantee = λ j. desk_fits (eqb j i) d (b.desk j) g (s.guarantee j); post = quiet c (with_desk i d b) none e refl }

  sized-auction : (c : Call) (o : Option Auction) (n : ℕ) → (entry c).lines ≡ [] → ending (entry c) ≡ None → AllByRecursion (Priced (standing o).terms.kind b.rate) (standing o).bids → Sized (entry c ∷ h) (with_auction o n b) free
  sized-auction c o n none e priced = record { rate = s.rate; priced = priced; fit = s.fit; few = s.few; single = s.single; guarantee = s.guarantee; post = quiet c (with_auction o n b) none e refl }

  sized-publish : (n : ℕ) → AllByRecursion (λ t. t.1 ≡ false) (tests P T C b (publish n)) → Sized (entry (publish n) ∷ h) (after P T C b (publish n)) free
  sized-publish n p = record {
    rate = s.rate;
    priced = tt;
    fit = All-append Fit b.hedges (map (fresh b.day) (new_deals P T C b)) s.fit
        (All-map Fit (fresh b.day) (new_deals P T C b) (numbered_each Small (λ g. (g.dollars ≤ 2000000000) × (g.assigned ≤ 999999)) b.rate terms (λ m x q. (omega (arith, q.0, q.1.0.3), q.1.1)) (suc b.numbered) gots small));
    few = omega (arith, ltb-false 128 (length b.hedges + length (new_deals P T C b)) p.1.0, length-append b.hedges (map (fresh b.day) (new_deals P T C b)), length-map (new_deals P T C b) (fresh b.day));
    single = λ m. go m (cases_lt b.numbered m);
    guarantee = s.guarantee;
    post = quiet (publish n) (after P T C b (publish n)) refl refl refl;
  }
    where
      v : Stood h b.day b.auction b.auctions n
      v = k.sold.stood (sealed n) (not-false (holds b.auction (sealed n)) p.0)

      terms : Terms
      terms = (standing b.auction).terms

      bids : List Bid
      bids = (standing b.auction).bids

      gots : List Got
      gots = allotted T terms bids

      Small : Got → Type 0
      Small x = (x.dollars ≤ named x.of) × (Sound x.of × Priced terms.kind b.rate x.of)

      sound : AllByRecursion Sound bids
      sound = subst (AllByRecursion Sound) (sym v.bids) (k.sold.taken n).sound

      small : AllByRecursion Small gots
      small = all_both (λ x. x.dollars ≤ named x.of) (λ x. Sound x.of × Priced terms.kind b.rate x.of) gots
          (allotted-keeps T terms bids (omega (arith, ap (λ (t : Terms). t.offer) v.terms, k.sold.offered n)) (omega (arith, ap length v.bids, (k.sold.taken n).few)) sound (subst Sorted (sym v.bids) (k.sold.taken n).sorted)).no_more
          (allotted-all T terms (λ x. Sound x × Priced terms.kind b.rate x) bids (all_both Sound (Priced terms.kind b.rate) bids sound s.priced))

      rising : Rising (suc b.numbered) (new_deals P T C b)
      rising = numbered_rising (suc b.numbered) b.rate terms gots

      parts : (m : ℕ) → length (here m (b.hedges ++ map (fresh b.day) (new_deals P T C b))) ≡ length (here m b.hedges) + length (here m (map (fresh b.day) (new_deals P T C b)))
      parts m = ap length (filter-append (of_number m) b.hedges (map (fresh b.day) (new_deals P T C b))) ∙ length-append (here m b.hedges) (here m (map (fresh b.day) (new_deals P T C b)))

      go : (m : ℕ) → (b.numbered < m) ⊎ (m ≤ b.numbered) → length (here m (b.hedges ++ map (fresh b.day) (new_deals P T C b))) ≤ 1
      go m (inl lt) = let z = ap length (none_here m b.numbered b.hedges lt k.placed.places) in let r = rising_single b.day m (suc b.numbered) (new_deals P T C b) rising in omega (arith, parts m)
      go m (inr le) = let z = ap length (here-fresh_none b.day m (new_deals P T C b) (All-weaker (λ g. (suc b.numbered ≤ g.number) × (g.number < suc b.numbered + length (new_deals P T C b))) (λ g. m < g.number) (λ g q. omega arith) (new_deals P T C b) (rising_bounds (suc b.numbered) (new_deals P T C b) rising))) in omega (arith, parts m, s.single m)

  sized-fix : (d r : ℤ) (room : ℕ) → AllByRecursion (λ t. t.1 ≡ false) (tests P T C b (fix d r room)) → Sized (entry (fix d r room) ∷ h) (after P T C b (fix d r room)) free
  sized-fix d r room p = record {
    rate = rate';
    priced = no-bids (Priced (standing b.auction).terms.kind (nat_abs r)) b.auction p.1.1.1.0;
    fit = fit';
    few = few';
    single = λ n. let e = ap length (here-turned_open paid (closing (nat_abs d)) (nat_abs d) (nat_abs r) n b.hedges) ∙ length-map (filter (λ x. not (closing (nat_abs d) x)) (here n b.hedges)) turn in omega (arith, e, length-kept (λ x. not (closing (nat_abs d) x)) (here n b.hedges), s.single n);
    guarantee = λ i. required_fits P.part.value (value_of (nat_abs r) hs' i) P.part.whole (value i);
    post = record {
      amounts = All-append (λ l. nat_abs l.centavos ≤ 30000000000000) new (told h)
          (All-append (λ l. nat_abs l.centavos ≤ 30000000000000) (penalties b.desk) (map (line_of (nat_abs r)) payers) (penalties-fit b.desk (filter (short b.desk) institutions) s.guarantee)
          (lines_fit (nat_abs r) payers rate' (all_kept_by paid Fit (open_ones b.hedges) fit_open))) s.post.amounts;
      count = let e = length-append new (told h) in omega (arith, enough, s.post.count);
      one = (tt, s.post.one);
    };
  }
    where
      rate' : nat_abs r ≤ 999999
      rate' = a_rate r (not-false (is_rate r) p.0)

      paid : Hedge → Bool
      paid x = pays C (nat_abs d) (nat_abs r) x

      turn : Hedge → Hedge
      turn x = turned (paid x) (closing (nat_abs d) x) (nat_abs d) (nat_abs r) x

      hs' : List Hedge
      hs' = map turn (open_ones b.hedges)

      payers : List Hedge
      payers = filter paid (open_ones b.hedges)

      new : List Line
      new = fix_lines P T C (nat_abs d) (nat_abs r) b

      fit_open : AllByRecursion Fit (open_ones b.hedges)
      fit_open = all_kept_by (λ x. x.live) Fit b.hedges s.fit

      fit' : AllByRecursion Fit hs'
      fit' = All-map Fit turn (open_ones b.hedges) (All-weaker Fit (λ x. Fit (turn x)) (λ x f. turned-fits (paid x) (closing (nat_abs d) x) (nat_abs d) (nat_abs r) x rate' f) (open_ones b.hedges) fit_open)

      few' : length hs' ≤ 128
      few' = omega (arith, length-map (open_ones b.hedges) turn, length-kept (λ x. x.live) b.hedges, s.few)

      value : (i : ℕ) → nat_abs (value_of (nat_abs r) hs' i) ≤ 256000000000000000
      value i = let ys = filter (λ x. x.live && eqb x.deal.institution i) hs' in
          omega (arith, value_fits (nat_abs r) ys rate' (all_kept_by (λ x. x.live && eqb x.deal.institution i) Fit hs' fit'), length-kept (λ x. x.live && eqb x.deal.institution i) hs', few')

      enough : length new ≤ b.free
      enough = omega (
        arith,
        length-append (penalties b.desk) (map (line_of (nat_abs r)) payers),
        length-map payers (line_of (nat_abs r)),
        length-kept paid (open_ones b.hedges),
        length-map (filter (short b.desk) institutions) (penalty b.desk),
        length_both (λ i. (b.desk i).admitted) (λ i. ltb (b.desk i).collateral (b.desk i).requirement) institutions,
        ltb-false b.free (length (open_ones b.hedges) + admitted_ones b) p.1.1.1.1.1.0,
      )

  sized-terminate : (n : ℤ) → AllByRecursion (λ t. t.1 ≡ false) (tests P T C b (terminate n)) → Sized (entry (terminate n) ∷ h) (after P T C b (terminate n)) free
  sized-terminate n p = record {
    rate = s.rate;
    priced = s.priced;
    fit = All-map Fit turn b.hedges (All-weaker Fit (λ x. Fit (turn x)) (λ x f. turned-fits (shut x) (shut x) b.day b.rate x s.rate f) b.hedges s.fit);
    few = omega (arith, length-map b.hedges turn, s.few);
    single = λ m. let e = ap length (here-turned shut shut b.day b.rate m b.hedges) ∙ length-map (filter (λ x. not (shut x)) (here m b.hedges)) turn in omega (arith, e, length-kept (λ x. not (shut x)) (here m b.hedges), s.single m);
    guarantee = s.guarantee;
    post = record {
      amounts = All-append (λ l. nat_abs l.centavos ≤ 30000000000000) (end_lines (nat_abs n) b) (told h) (lines_fit b.rate (here (nat_abs n) b.hedges) s.rate (all_kept_by shut Fit b.hedges s.fit)) s.post.amounts;
      count = let e = length-append (end_lines (nat_abs n) b) (told h) in let q = eqb-false b.free 0 p.0 in omega (arith, one', s.post.count);
      one = (one', s.post.one);
    };
  }
    where
      shut : Hedge → Bool
      shut x = of_number (nat_abs n) x

      turn : Hedge → Hedge
      turn x = turned (shut x) (shut x) b.day b.rate x

      one' : length (end_lines (nat_abs n) b) ≡ 1
      one' = let q = eqb-false (length (here (nat_abs n) b.hedges)) 0 (or_parts (lt_z n (pos 0)) (eqb (length (here (nat_abs n) b.hedges)) 0) p.1.0).1 in omega (arith, length-map (here (nat_abs n) b.hedges) (line_of b.rate), s.single (nat_abs n), q)

  sized-after : (c : Call) → AllByRecursion (λ t. t.1 ≡ false) (tests P T C b c) → Sized (entry c ∷ h) (after P T C b c) free
  sized-after (admit i) p = sized-desk (admit i) _ _ refl refl (omega arith)
  sized-after (announce kd o c m) p = sized-auction (announce kd o c m) _ _ refl refl tt
  sized-after (bid n i q m) p = sized-auction (bid n i q m) _ _ refl refl
      (entered_all (Priced (standing b.auction).terms.kind b.rate) (bid_given i q m) (standing b.auction).bids (price_fits (standing b.auction).terms.kind b.rate q (not-false (is_price (standing b.auction).terms.kind b.rate q) p.1.1.1.0)) s.priced)
  sized-after (seal n) p = sized-auction (seal n) _ _ refl refl s.priced
  sized-after (publish n) p = sized-publish n p
  sized-after (void t) p = sized-auction (void t) _ _ refl refl tt
  sized-after (fix d r room) p = sized-fix d r room p
  sized-after (lodge i c) p = sized-desk (lodge i c) _ _ refl refl (s.guarantee (nat_abs i))
  sized-after (release i c) p = sized-desk (release i c) _ _ refl refl (s.guarantee (nat_abs i))
  sized-after (terminate n) p = sized-terminate n p

  sized-step : (c : Call) → Sized (record { call = c; answer = (step P T C b c).0.answer; lines = (step P T C b c).0.lines } ∷ h) (step P T C b c).1 free
  sized-step c = go (first (tests P T C b c)) refl
    where
      go : (o : Option Refusal) → first (tests P T C b c) ≡ o → Sized (record { call = c; answer = (judged o (answers P T C b c) b (after P T C b c)).0.answer; lines = (judged o (answers P T C b c) b (after P T C b c)).0.lines } ∷ h) (judged o (answers P T C b c) b (after P T C b c)).1 free
      go (Some n) e = record { rate = s.rate; priced = s.priced; fit = s.fit; few = s.few; single = s.single; guarantee = s.guarantee; post = record { amounts = s.post.amounts; count = s.post.count; one = (tt, s.post.one) } }
      go None e = sized-after c (passed (tests P T C b c) e)

sized-run : (P : Plan) (T : Sharing) (C : Deciding) (free : ℕ) (calls : List Call) → Sized (run P T C free calls).history (run P T C free calls).books free
sized-run P T C free [] = record { rate = omega arith; priced = tt; fit = tt; few = omega arith; single = λ n. omega arith; guarantee = λ i. omega arith; post = record { amounts = tt; count = omega arith; one = tt } }
sized-run P T C free (c ∷ cs) = sized-step P T C free (run P T C free cs).history (run P T C free cs).books (kept_run P T C free cs) (sized-run P T C free cs) c

pub postings_fit : PostingsFit
postings_fit P T C free calls = (sized-run P T C free calls).post
