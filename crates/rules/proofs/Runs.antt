-- The law, by induction over the calls.
use Rattle.std.proofs.Common.{◌≡◌, Err, ℕ, suc, ◌<◌, ◌≤◌, Bool, true, false, cond, ◌&&◌, eqb, List, [], ◌∷◌, ◌++◌, map, length, ℤ, pos, nat_abs, Some, None, filter, Option, sym, refl, ap, ◌∙◌, subst, ap₂, arith}
use lib.Signed.{le_z, lt_z}
use Rattle.std.proofs.lemmas.Int.{ints}
use Rattle.std.proofs.lemmas.Bool.{or_parts, and_parts, not-false, leb-false, eqb-true}
use Rattle.std.proofs.ByRecursion.{All-append, All-weaker, all_kept_by}
use Rattle.std.specs.List.{AllByRecursion}
use Rattle.rules.proofs.Ledger.{ToInstitution, posted-balanced, quiet_balanced}
use Rattle.rules.proofs.Allotment.{Sound, allotted-all}
use Rattle.rules.proofs.Places.{Placed, On, placed_quiet, placed_fix, placed_end, placed_publish, penalties-to, lines_to, numbered_rising, numbered_none, numbered_all}
use Rattle.rules.proofs.Stands.{Sold, Stood, sold_as, sold_announce, sold_bid, sold_publish, none_stands, sealed-stands, dealt-announce, dealt-bid}
use Rattle.rules.specs.declared.call.Call.TheVariants.{Admit as admit, Announce as announce, Bid as bid, Seal as seal, Publish as publish, Void as void, Fix as fix, Lodge as lodge, Release as release, Terminate as terminate}
use Rattle.rules.specs.declared.call.Call.{Call}
use Rattle.rules.specs.declared.auction.TicketName.{TicketName}
use Rattle.rules.specs.Books.{bidding, sealed, Auction, Books, standing, holds, with_desk, with_auction}
use Rattle.terms.specs.declared.refusal.Refusal.{Refusal}
use Rattle.terms.specs.Ranges.{within, is_institution, is_millions}
use Rattle.rules.specs.declared.hedge.Deal.{Deal}
use Rattle.rules.specs.declared.hedge.Hedge.{Hedge}
use Rattle.rules.specs.declared.hedge.Desk.{Desk}
use Rattle.terms.specs.declared.plan.Plan.{Plan}
use Rattle.tie_rules.specs.Sharing.{Sharing}
use Rattle.conventions.specs.Deciding.{Deciding}
use Rattle.terms.specs.Refusals.{first}
use Rattle.rules.specs.Rules.{judged, tests, answers, after, step, new_deals, fix_lines, end_lines, first_of, bid_given, terms_given}
use Rattle.rules.specs.Settlement.{open_ones, of_number, pays, line_of, penalties}
use Rattle.rules.specs.Allotment.{numbered_from, allotted, entered, Got}
use Rattle.rules.specs.Law.{History, Entry, run, dealt, terms_of, bids_of, publications, got_of, rate_now, closes, Balanced}

-- what every run keeps
pub record Kept (T : Sharing) (h : History) (b : Books) : Type 0 where
  pub balanced : Balanced h b
  pub placed : Placed T h b.day b.rate b.hedges b.numbered
  pub sold : Sold h b.day b.auction b.auctions

-- every test of an accepted call failed
pub passed : (ts : List (Refusal × Bool)) → first ts ≡ None → AllByRecursion (λ t. t.1 ≡ false) ts
passed [] e = tt
passed (t ∷ ts) e = go t.1 refl e (λ q. passed ts q)
  where
    go : (b : Bool) → t.1 ≡ b → cond b (Some t.0) (first ts) ≡ None → (first ts ≡ None → AllByRecursion (λ t. t.1 ≡ false) ts) → AllByRecursion (λ t. t.1 ≡ false) (t ∷ ts)
    go true q n ih = let z : ◌≡◌ {A = ℕ} 0 1 = cc in absurd (omega arith)
    go false q n ih = (q, ih n)

pub bounds : (low high : ℕ) (z : ℤ) → 1 ≤ low → within (pos low) (pos high) z ≡ true → (low ≤ nat_abs z) × (nat_abs z ≤ high)
bounds low high z one e = let p = and_parts (le_z (pos low) z) (le_z z (pos high)) e in (omega (arith, ints, p.0, p.1), omega (arith, ints, p.0, p.1))

beyond : (z : ℤ) (n : ℕ) → le_z z (pos n) ≡ false → n < nat_abs z
beyond z n e = omega (arith, ints)

module _ (P : Plan) (T : Sharing) (C : Deciding) (h : History) (b : Books) (k : Kept T h b) where
  abbrev pub entry : Call → Entry
  entry c = record { call = c; answer = (answers P T C b c).answer; lines = (answers P T C b c).lines }

  pub kept_refused : (c : Call) (n : Refusal) → Kept T (record { call = c; answer = Err n; lines = [] } ∷ h) b
  kept_refused c n = record {
    balanced = quiet_balanced (record { call = c; answer = Err n; lines = [] }) h b b refl refl k.balanced;
    placed = placed_quiet T (record { call = c; answer = Err n; lines = [] }) h b.day b.rate b.hedges b.numbered refl (λ g. refl) refl refl k.placed;
    sold = sold_as (record { call = c; answer = Err n; lines = [] }) h b.day b.day b.auction b.auction b.auctions (λ _. refl) (λ _. refl) refl k.sold.stood k.sold;
  }

  -- a call that changes a desk only
  kept_desk : (c : Call) (i : ℕ) (d : Desk) → (entry c).lines ≡ [] → ((g : Deal) → closes g (entry c) ≡ false) → rate_now (entry c ∷ h) ≡ rate_now h → dealt T (entry c ∷ h) ≡ dealt T h
      → ((n : ℕ) → terms_of n (entry c ∷ h) ≡ terms_of n h) → ((n : ℕ) → bids_of n (entry c ∷ h) ≡ bids_of n h) → publications (entry c ∷ h) ≡ publications h → Kept T (entry c ∷ h) (with_desk i d b)
  kept_desk c i d none still same deals ts bs ps = record {
    balanced = quiet_balanced (entry c) h b (with_desk i d b) none refl k.balanced;
    placed = placed_quiet T (entry c) h b.day b.rate b.hedges b.numbered none still same deals k.placed;
    sold = sold_as (entry c) h b.day b.day b.auction b.auction b.auctions ts bs ps k.sold.stood k.sold;
  }

  -- a call that changes the standing auction only
  kept_auction : (c : Call) (o : Option Auction) (n : ℕ) → (entry c).lines ≡ [] → ((g : Deal) → closes g (entry c) ≡ false) → rate_now (entry c ∷ h) ≡ rate_now h → dealt T (entry c ∷ h) ≡ dealt T h
      → Sold (entry c ∷ h) b.day o n → Kept T (entry c ∷ h) (with_auction o n b)
  kept_auction c o n none still same deals s = record {
    balanced = quiet_balanced (entry c) h b (with_auction o n b) none refl k.balanced;
    placed = placed_quiet T (entry c) h b.day b.rate b.hedges b.numbered none still same deals k.placed;
    sold = s;
  }

  kept_announce : (kd o c m : ℤ) → AllByRecursion (λ t. t.1 ≡ false) (tests P T C b (announce kd o c m)) → Kept T (entry (announce kd o c m) ∷ h) (after P T C b (announce kd o c m))
  kept_announce kd o c m p = kept_auction (announce kd o c m) (Some (record { ticket = bidding (suc b.auctions); terms = terms_given kd o c m; bids = [] })) (suc b.auctions) refl (λ g. refl) refl (dealt-announce T h b.day b.auction b.auctions kd o c m k.sold)
      (sold_announce h b.day b.auction b.auctions kd o c m
      (bounds 1 2000 o (omega arith) (and_parts (is_millions o) (is_millions c) (not-false (is_millions o && is_millions c) p.0)).0).1
      (beyond m b.day p.1.1.1.1.1.1.0) k.sold)

  kept_bid : (n : ℕ) (i q m : ℤ) → AllByRecursion (λ t. t.1 ≡ false) (tests P T C b (bid n i q m)) → Kept T (entry (bid n i q m) ∷ h) (after P T C b (bid n i q m))
  kept_bid n i q m p = kept_auction (bid n i q m) (Some (record { ticket = bidding n; terms = (standing b.auction).terms; bids = entered (bid_given i q m) (standing b.auction).bids })) b.auctions refl (λ g. refl) refl (dealt-bid T h b.day b.auction b.auctions n i q m (k.sold.stood (bidding n) (not-false (holds b.auction (bidding n)) p.0)))
      (sold_bid h b.day b.auction b.auctions n i q m (not-false (holds b.auction (bidding n)) p.0) (leb-false 64 (length (standing b.auction).bids) p.1.1.1.1.1.0)
      (let u = bounds 1 16 i (omega arith) (not-false (is_institution i) p.1.0) in let v = bounds 1 2000 m (omega arith) (not-false (is_millions m) p.1.1.0) in (u.0, omega (arith, u.1), v.0, v.1)) k.sold)

  kept_seal : (n : ℕ) → AllByRecursion (λ t. t.1 ≡ false) (tests P T C b (seal n)) → Kept T (entry (seal n) ∷ h) (after P T C b (seal n))
  kept_seal n p = kept_auction (seal n) (Some (record { ticket = sealed n; terms = (standing b.auction).terms; bids = (standing b.auction).bids })) b.auctions refl (λ g. refl) refl refl
      (sold_as (entry (seal n)) h b.day b.day b.auction (Some (record { ticket = sealed n; terms = (standing b.auction).terms; bids = (standing b.auction).bids })) b.auctions (λ _. refl) (λ _. refl) refl
      (sealed-stands h b.day b.auction b.auctions n (k.sold.stood (bidding n) (not-false (holds b.auction (bidding n)) p.0))) k.sold)

  kept_void : (t : TicketName) → Kept T (entry (void t) ∷ h) (after P T C b (void t))
  kept_void t = kept_auction (void t) None b.auctions refl (λ g. refl) refl refl
      (sold_as (entry (void t)) h b.day b.day b.auction None b.auctions (λ _. refl) (λ _. refl) refl (none_stands h b.day None b.auctions refl) k.sold)

  pub stood_bidding : (n : ℕ) (i q m : ℤ) → AllByRecursion (λ t. t.1 ≡ false) (tests P T C b (bid n i q m)) → Stood h b.day b.auction b.auctions n
  stood_bidding n i q m p = k.sold.stood (bidding n) (not-false (holds b.auction (bidding n)) p.0)

  pub stood_sealed : (n : ℕ) → AllByRecursion (λ t. t.1 ≡ false) (tests P T C b (publish n)) → Stood h b.day b.auction b.auctions n
  stood_sealed n p = k.sold.stood (sealed n) (not-false (holds b.auction (sealed n)) p.0)

  -- the deals that the history has of the publication are those that the books have
  pub publish_new : (n : ℕ) → Stood h b.day b.auction b.auctions n → numbered_from (cond (eqb (length (new_deals P T C b)) 0) 0 (suc b.numbered)) (rate_now h) (terms_of n h) (got_of T n h) ≡ new_deals P T C b
  publish_new n v =
      ap₂ (λ r t. numbered_from start r t (allotted T t (bids_of n h))) k.placed.current (sym v.terms)
      ∙ ap (λ xs. numbered_from start b.rate (standing b.auction).terms (allotted T (standing b.auction).terms xs)) (sym v.bids)
      ∙ go (eqb (length (new_deals P T C b)) 0) refl
    where
      gots : List Got
      gots = allotted T (standing b.auction).terms (standing b.auction).bids

      start : ℕ
      start = cond (eqb (length (new_deals P T C b)) 0) 0 (suc b.numbered)

      go : (t : Bool) → eqb (length (new_deals P T C b)) 0 ≡ t → numbered_from start b.rate (standing b.auction).terms gots ≡ new_deals P T C b
      go true e = let z = eqb-true (length (new_deals P T C b)) 0 e in
          numbered_none (suc b.numbered) start b.rate (standing b.auction).terms gots z ∙ sym (numbered_none (suc b.numbered) (suc b.numbered) b.rate (standing b.auction).terms gots z)
      go false e = ap (λ t. numbered_from (cond t 0 (suc b.numbered)) b.rate (standing b.auction).terms gots) e

  pub publish_deals : (n : ℕ) → Stood h b.day b.auction b.auctions n → dealt T (entry (publish n) ∷ h) ≡ new_deals P T C b ++ dealt T h
  publish_deals n v = ap (λ ds. ds ++ dealt T h) (publish_new n v)

  kept_publish : (n : ℕ) → AllByRecursion (λ t. t.1 ≡ false) (tests P T C b (publish n)) → Kept T (entry (publish n) ∷ h) (after P T C b (publish n))
  kept_publish n p = record {
    balanced = quiet_balanced (entry (publish n)) h b (after P T C b (publish n)) refl refl k.balanced;
    placed = placed_publish T n (cond (eqb (length (new_deals P T C b)) 0) 0 (suc b.numbered)) (length (new_deals P T C b)) h b.day b.rate b.hedges b.numbered (new_deals P T C b)
        (publish_deals n v) (numbered_rising (suc b.numbered) b.rate (standing b.auction).terms (allotted T (standing b.auction).terms (standing b.auction).bids))
        (All-weaker (λ g. (g.maturity ≡ (standing b.auction).terms.maturity) × (1 ≤ g.institution) × (g.institution < 17)) (λ g. (b.day < g.maturity) × (1 ≤ g.institution) × (g.institution < 17))
        (λ g q. (omega (arith, v.ahead, q.0), q.1, q.2)) (new_deals P T C b)
        (numbered_all (suc b.numbered) b.rate (standing b.auction).terms (allotted T (standing b.auction).terms (standing b.auction).bids)
        (allotted-all T (standing b.auction).terms Sound (standing b.auction).bids (subst (AllByRecursion Sound) (sym v.bids) (k.sold.taken n).sound))))
        k.placed;
    sold = sold_publish n (cond (eqb (length (new_deals P T C b)) 0) 0 (suc b.numbered)) (length (new_deals P T C b)) h b.day b.auction b.auctions v.old k.sold;
  }
    where
      v : Stood h b.day b.auction b.auctions n
      v = k.sold.stood (sealed n) (not-false (holds b.auction (sealed n)) p.0)

  kept_fix : (d r : ℤ) (room : ℕ) → AllByRecursion (λ t. t.1 ≡ false) (tests P T C b (fix d r room)) → Kept T (entry (fix d r room) ∷ h) (after P T C b (fix d r room))
  kept_fix d r room p = record {
    balanced = posted-balanced (entry (fix d r room)) h b (after P T C b (fix d r room))
        (All-append ToInstitution (penalties b.desk) (map (line_of (nat_abs r)) payers) (penalties-to b.desk)
        (lines_to b.numbered (nat_abs r) payers (all_kept_by (pays C (nat_abs d) (nat_abs r)) (On b.numbered) (open_ones b.hedges) (all_kept_by (λ x. x.live) (On b.numbered) b.hedges k.placed.places))))
        refl k.balanced;
    placed = placed_fix T C d r room (length (fix_lines P T C (nat_abs d) (nat_abs r) b)) b.desk h b.day b.rate b.hedges b.numbered
        (beyond d b.day (or_parts (le_z d (pos b.day)) _ p.1.1.1.1.0).0) k.placed;
    sold = sold_as (entry (fix d r room)) h b.day (nat_abs d) b.auction b.auction b.auctions (λ _. refl) (λ _. refl) refl (none_stands h (nat_abs d) b.auction b.auctions p.1.1.1.0) k.sold;
  }
    where
      payers : List Hedge
      payers = filter (pays C (nat_abs d) (nat_abs r)) (open_ones b.hedges)

  kept_terminate : (n : ℤ) → AllByRecursion (λ t. t.1 ≡ false) (tests P T C b (terminate n)) → Kept T (entry (terminate n) ∷ h) (after P T C b (terminate n))
  kept_terminate n p = record {
    balanced = posted-balanced (entry (terminate n)) h b (after P T C b (terminate n))
        (lines_to b.numbered b.rate (filter (of_number (nat_abs n)) b.hedges) (all_kept_by (of_number (nat_abs n)) (On b.numbered) b.hedges k.placed.places)) refl k.balanced;
    placed = placed_end T n (first_of (end_lines (nat_abs n) b)) h b.day b.rate b.hedges b.numbered (or_parts (lt_z n (pos 0)) (eqb (length (filter (of_number (nat_abs n)) b.hedges)) 0) p.1.0).1 k.placed;
    sold = sold_as (entry (terminate n)) h b.day b.day b.auction b.auction b.auctions (λ _. refl) (λ _. refl) refl k.sold.stood k.sold;
  }

  pub kept_after : (c : Call) → AllByRecursion (λ t. t.1 ≡ false) (tests P T C b c) → Kept T (entry c ∷ h) (after P T C b c)
  kept_after (admit i) p = kept_desk (admit i) _ _ refl (λ g. refl) refl refl (λ _. refl) (λ _. refl) refl
  kept_after (announce kd o c m) p = kept_announce kd o c m p
  kept_after (bid n i q m) p = kept_bid n i q m p
  kept_after (seal n) p = kept_seal n p
  kept_after (publish n) p = kept_publish n p
  kept_after (void t) p = kept_void t
  kept_after (fix d r room) p = kept_fix d r room p
  kept_after (lodge i c) p = kept_desk (lodge i c) _ _ refl (λ g. refl) refl refl (λ _. refl) (λ _. refl) refl
  kept_after (release i c) p = kept_desk (release i c) _ _ refl (λ g. refl) refl refl (λ _. refl) (λ _. refl) refl
  kept_after (terminate n) p = kept_terminate n p

  pub kept_step : (c : Call) → Kept T (record { call = c; answer = (step P T C b c).0.answer; lines = (step P T C b c).0.lines } ∷ h) (step P T C b c).1
  kept_step c = go (first (tests P T C b c)) refl
    where
      go : (o : Option Refusal) → first (tests P T C b c) ≡ o → Kept T (record { call = c; answer = (judged o (answers P T C b c) b (after P T C b c)).0.answer; lines = (judged o (answers P T C b c) b (after P T C b c)).0.lines } ∷ h) (judged o (answers P T C b c) b (after P T C b c)).1
      go (Some n) e = kept_refused c n
      go None e = kept_after c (passed (tests P T C b c) e)

pub kept_run : (P : Plan) (T : Sharing) (C : Deciding) (free : ℕ) (calls : List Call) → Kept T (run P T C free calls).history (run P T C free calls).books
kept_run P T C free [] = record {
  balanced = record { nought = refl; each = λ i l u. refl };
  placed = record { current = refl; places = tt; apart = λ n. omega arith; lines = tt; unclosed = λ g n d. refl; known = tt };
  sold = record { offered = λ n. omega arith; taken = λ n. record { few = omega arith; sound = tt; sorted = tt }; later = λ n l. refl; spent = tt; stood = none_stands [] P.start None 0 refl };
}
kept_run P T C free (c ∷ cs) = kept_step P T C (run P T C free cs).history (run P T C free cs).books (kept_run P T C free cs) c
