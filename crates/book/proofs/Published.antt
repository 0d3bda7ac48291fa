-- Publishing the deals of the standing auction.
use Rattle.std.proofs.Common.{◌≡◌, ℕ, suc, ◌+◌, ◌-◌, ◌≤◌, Bool, true, false, cond, not, ◌&&◌, eqb, ltb, leb, List, [], ◌∷◌, ◌++◌, map, length, take, ℤ, pos, Some, None, Ok, Err, Option, Result, sym, refl, ap, ◌∙◌, arith, length-take, subst}
use lib.Signed.{le_z}
use Rattle.std.specs.List.{list_all, AllZip, AllByRecursion}
use Rattle.std.proofs.lemmas.List.{length-take-le}
use Rattle.std.proofs.lemmas.Int.{ints}
use Rattle.std.proofs.lemmas.Bool.{eqb-true, eq-eqb, leb-true, le-ltb, and_parts, and_from}
use Rattle.terms.specs.declared.refusal.Refusal.{Refusal}
use Rattle.terms.specs.declared.refusal.Refusal.TheVariants.{WrongTicket}
use Rattle.terms.specs.Ranges.{is_millions}
use Rattle.terms.specs.Refusals.{first, answered, unless_refused}
use Rattle.rules.specs.declared.auction.Kind.{Kind}
use Rattle.rules.specs.declared.auction.Kind.TheVariants.{Initial, Maturity}
use Rattle.rules.specs.declared.auction.Bid.{Bid}
use Rattle.rules.specs.declared.auction.Terms.{Terms}
use Rattle.rules.specs.declared.hedge.Hedge.{Hedge}
use Rattle.rules.specs.declared.hedge.Deal.{Deal}
use Rattle.rules.specs.declared.call.Accepted.TheVariants.{Published}
use Rattle.rules.specs.Allotment.{named, paired, allotted, deal_of, numbered_from, sold_at}
use Rattle.rules.specs.Books.{Books, total, sealed, holds, standing}
use Rattle.rules.specs.Rules.{Told, quietly, judged, new_deals}
use Rattle.rules.specs.Settlement.{fresh}
use Rattle.tie_rules.specs.Sharing.{Sharing}
use Rattle.allotment.specs.Allotting.{in_range, allot_refused, dollars_of}
use Rattle.allotment.proofs.Ranges.{Ranged, ranged}
use Rattle.allotment.proofs.Pairs.{allotted-paired, dollars_within}
use Rattle.portfolio.specs.View.{placed_of}
use Rattle.book.specs.declared.publication.Publication.{Publication}
use Rattle.book.specs.declared.standing.Standing.{Standing}
use Rattle.book.specs.declared.book.Book.{Book}
use Rattle.book.specs.Deals.{given, room_tests}
use Rattle.book.specs.Publishing.{taken_off, closed, told_of, published, deals_for, no_room, Issues}
use Rattle.book.specs.Soundness.{is_sound_bid, is_sound_auction}
use Rattle.book.specs.View.{auction_of, books_of, published_or, Publishes}
use Rattle.book.proofs.Issuing.{sound_parts}

-- ---- how many deals, and for how many dollars
pub deals_count : (n rate : ℕ) (t : Terms) (bids : List Bid) (ds : List ℕ) → length bids ≡ length ds → length (numbered_from n rate t (paired bids ds)) ≡ given ds
deals_count n rate t [] [] e = refl
deals_count n rate t [] (d ∷ ds) e = absurd (omega arith)
deals_count n rate t (x ∷ bids) [] e = absurd (omega arith)
deals_count n rate t (x ∷ bids) (d ∷ ds) e = go (eqb d 0) (deals_count n rate t bids ds (omega arith)) (deals_count (suc n) rate t bids ds (omega arith))
  where
    go : (b : Bool) → length (numbered_from n rate t (paired bids ds)) ≡ given ds → length (numbered_from (suc n) rate t (paired bids ds)) ≡ given ds
        → length (cond b (numbered_from n rate t (paired bids ds)) (deal_of n rate t (record { of = x; dollars = d }) ∷ numbered_from (suc n) rate t (paired bids ds))) ≡ cond b (given ds) (suc (given ds))
    go true p q = p
    go false p q = ap suc q

pub deals_total : (n rate : ℕ) (t : Terms) (bids : List Bid) (ds : List ℕ) → length bids ≡ length ds → total (map (λ d. d.dollars) (numbered_from n rate t (paired bids ds))) ≡ total ds
deals_total n rate t [] [] e = refl
deals_total n rate t [] (d ∷ ds) e = absurd (omega arith)
deals_total n rate t (x ∷ bids) [] e = absurd (omega arith)
deals_total n rate t (x ∷ bids) (d ∷ ds) e = go (eqb d 0) refl (deals_total n rate t bids ds (omega arith)) (deals_total (suc n) rate t bids ds (omega arith))
  where
    go : (b : Bool) → eqb d 0 ≡ b → total (map (λ y. y.dollars) (numbered_from n rate t (paired bids ds))) ≡ total ds → total (map (λ y. y.dollars) (numbered_from (suc n) rate t (paired bids ds))) ≡ total ds
        → total (map (λ y. y.dollars) (cond b (numbered_from n rate t (paired bids ds)) (deal_of n rate t (record { of = x; dollars = d }) ∷ numbered_from (suc n) rate t (paired bids ds)))) ≡ d + total ds
    go true b p q = let z = eqb-true d 0 b in omega arith
    go false b p q = omega arith

sold : (kind : Kind) (n rate : ℕ) (t : Terms) (bids : List Bid) (ds : List ℕ) → length bids ≡ length ds → taken_off kind (total ds) ≡ sold_at kind (numbered_from n rate t (paired bids ds))
sold Initial n rate t bids ds e = refl
sold Maturity n rate t bids ds e = sym (deals_total n rate t bids ds e)

-- ---- with room or without
module _ (k : Book) (a : Standing) (ds : List ℕ) (sizes : length (take k.taken k.bids) ≡ length ds) where
  counted : length (deals_for k a ds) ≡ given ds
  counted = deals_count (suc k.portfolio.numbered) k.rate a.terms (take k.taken k.bids) ds sizes

  abbrev asked : ℕ → Option Refusal
  asked n = first (room_tests (length (placed_of k.portfolio)) k.portfolio.numbered n)

  pub issues_refused : (why : Refusal) → Some why ≡ asked (given ds) → Issues k (deals_for k a ds) a.terms.kind (Err why) k
  issues_refused why e =
      let is : Some why ≡ no_room k (deals_for k a ds) = e ∙ ap asked (sym counted) in
      record {
        answer = ap (λ o. answered o (told_of k.portfolio.numbered (length (deals_for k a ds)))) is;
        books = λ balance free. ap (λ o. unless_refused o (published a.terms.kind (deals_for k a ds) (books_of balance free k)) (books_of balance free k)) is;
        plan = refl;
      }

  pub issues_made : (k' : Book) (hs : List Hedge) (n count : ℕ) (answer : Publication) → count ≡ given ds → None ≡ asked count → answer ≡ told_of k.portfolio.numbered count
      → hs ≡ placed_of k.portfolio ++ map (fresh k.day) (deals_for k a ds) → n ≡ k.portfolio.numbered + given ds
      → ((balance : ℕ → ℤ) (free : ℕ) → books_of balance free k' ≡ closed hs n (k.matured - taken_off a.terms.kind (total ds)) (books_of balance free k)) → k'.plan ≡ k.plan
      → Issues k (deals_for k a ds) a.terms.kind (Ok answer) k'
  issues_made k' hs n count answer is none told placed numbers after same =
      let deals = deals_for k a ds in
      let long : length deals ≡ count = counted ∙ sym is in
      let room : None ≡ no_room k deals = none ∙ ap asked (sym long) in
      let off = sold a.terms.kind (suc k.portfolio.numbered) k.rate a.terms (take k.taken k.bids) ds sizes in
      record {
        answer = ap Ok told ∙ ap (λ m. Ok (told_of k.portfolio.numbered m)) (sym long) ∙ ap (λ o. answered o (told_of k.portfolio.numbered (length deals))) room;
        books = λ balance free.
            after balance free
            ∙ ap (λ zs. closed zs n (k.matured - taken_off a.terms.kind (total ds)) (books_of balance free k)) placed
            ∙ ap (λ m. closed (placed_of k.portfolio ++ map (fresh k.day) deals) m (k.matured - taken_off a.terms.kind (total ds)) (books_of balance free k)) (numbers ∙ ap (λ m. k.portfolio.numbered + m) (sym counted))
            ∙ ap (λ m. closed (placed_of k.portfolio ++ map (fresh k.day) deals) (k.portfolio.numbered + length deals) (k.matured - m) (books_of balance free k)) off
            ∙ ap (λ o. unless_refused o (published a.terms.kind deals (books_of balance free k)) (books_of balance free k)) room;
        plan = same;
      }

-- ---- a sound auction is allotted
sound_in_range : (kind : Kind) (rate : ℕ) (xs : List Bid) → list_all (is_sound_bid kind rate) xs ≡ true → list_all in_range xs ≡ true
sound_in_range kind rate [] e = refl
sound_in_range kind rate (x ∷ xs) e =
    let p = and_parts (is_sound_bid kind rate x) (list_all (is_sound_bid kind rate) xs) e in
    let s = sound_parts kind rate x p.0 in
    let least = s.least in
    let most = s.most in
    and_from (in_range x) (list_all in_range xs) (and_from (le_z (pos 1) (pos x.millions)) (le_z (pos x.millions) (pos 2000)) (grind (arith, ints)) (grind (arith, ints))) (sound_in_range kind rate xs p.1)

small : (ds : List ℕ) (xs : List Bid) → AllZip ◌≤◌ ds (map named xs) → AllByRecursion Ranged xs → AllByRecursion (λ d. d ≤ 2000000000) ds
small [] xs h r = tt
small (d ∷ ds) [] h r = absurd h
small (d ∷ ds) (x ∷ xs) h r = (omega (arith, h.0, r.0.1), small ds xs h.1 r.1)

-- an auction whose bids can be allotted
pub record Allottable (T : Sharing) (t : Terms) (xs : List Bid) : Type 0 where
  pub passed : allot_refused t.offer xs (length xs) ≡ None
  pub pairs : allotted T t xs ≡ paired xs (dollars_of T t.offer xs)
  pub most : AllByRecursion (λ d. d ≤ 2000000000) (dollars_of T t.offer xs)

pub allottable : (T : Sharing) (rate : ℕ) (a : Standing) (xs : List Bid) → length xs ≤ 64 → is_sound_auction rate (Some a) xs ≡ true → Allottable T a.terms xs
allottable T rate a xs few sound =
    let offer = a.terms.offer in
    let p = and_parts (leb 1 offer && leb offer 2000) (list_all (is_sound_bid a.terms.kind rate) xs) sound in
    let q = and_parts (leb 1 offer) (leb offer 2000) p.0 in
    let least = leb-true 1 offer q.0 in
    let most = leb-true offer 2000 q.1 in
    let dollars_in_range = sound_in_range a.terms.kind rate xs p.1 in
    let each = ranged xs dollars_in_range in
    let b : ltb 64 (length xs) ≡ false = le-ltb 64 (length xs) few in
    let d : eqb (length xs) (length xs) ≡ true = eq-eqb (length xs) (length xs) refl in
    let e : is_millions (pos offer) ≡ true = and_from (le_z (pos 1) (pos offer)) (le_z (pos offer) (pos 2000)) (grind (arith, ints)) (grind (arith, ints)) in
    record {
      passed = rw (b, d, e, dollars_in_range);
      pairs = allotted-paired T a.terms xs most few each;
      most = small (dollars_of T offer xs) xs (dollars_within T a.terms xs most few each) each;
    }

-- ---- the call
module _ (T : Sharing) (k : Book) (n : ℕ) where
  abbrev bids : List Bid
  bids = take k.taken k.bids

  -- the step of the rules, over the standing auction, whether the ticket is its own, and the deals
  abbrev stepped : Books → Option Standing → Bool → List Deal → Told × Books
  stepped b o held deals =
      judged (first ((WrongTicket, not held) ∷ room_tests (length b.hedges) b.numbered (length deals))) (quietly (Ok (Published (cond (eqb (length deals) 0) 0 (suc b.numbered)) (length deals)))) b (published (standing (auction_of o bids)).terms.kind deals b)

  pub publish_refused : ((xs : List Bid) → false ≡ holds (auction_of k.auction xs) (sealed n)) → Publishes T k n (quietly (Err WrongTicket)) k
  publish_refused unheld = record {
    steps = λ C balance free. ap (λ t. stepped (books_of balance free k) k.auction t (new_deals k.plan T C (books_of balance free k))) (sym (unheld bids));
    plan = refl;
  }

  told : (o : Option Refusal) (p : Publication) (b b' : Books) → judged o (quietly (Ok (Published p.first p.count))) b b' ≡ (quietly (published_or (answered o p)), unless_refused o b' b)
  told None p b b' = refl
  told (Some why) p b b' = refl

  pub publish_issued : (a : Standing) (ds : List ℕ) (r : Result Publication Refusal) (k' : Book) → k.auction ≡ Some a → ((xs : List Bid) → true ≡ holds (auction_of k.auction xs) (sealed n))
      → allotted T a.terms bids ≡ paired bids ds → Issues k (deals_for k a ds) a.terms.kind r k' → Publishes T k n (quietly (published_or r)) k'
  publish_issued a ds r k' stood held pairs done = record {
    steps = λ C balance free.
        let b = books_of balance free k in
        let these : new_deals k.plan T C b ≡ deals_for k a ds =
        ap (λ o. numbered_from (suc k.portfolio.numbered) k.rate (standing (auction_of o bids)).terms (allotted T (standing (auction_of o bids)).terms (standing (auction_of o bids)).bids)) stood
        ∙ ap (numbered_from (suc k.portfolio.numbered) k.rate a.terms) pairs in
        ap (λ t. stepped b k.auction t (new_deals k.plan T C b)) (sym (held bids)) ∙ ap (λ o. stepped b o true (new_deals k.plan T C b)) stood ∙ ap (stepped b (Some a) true) these
        ∙ told (no_room k (deals_for k a ds)) (told_of k.portfolio.numbered (length (deals_for k a ds))) b (published a.terms.kind (deals_for k a ds) b)
        ∙ ap (λ s. (quietly (published_or s), unless_refused (no_room k (deals_for k a ds)) (published a.terms.kind (deals_for k a ds) b) b)) (sym done.answer)
        ∙ ap (λ c. (quietly (published_or r), c)) (sym (done.books balance free));
    plan = done.plan;
  }

-- what was written for the first n bids, as the code reads it
pub front : (n : ℕ) (xs : List Bid) (out : List ℕ) (F : List Bid → List ℕ) → length xs ≡ 64 → n ≤ 64 → take (length (take n xs)) out ≡ F (take n xs) → take n out ≡ F (take n xs)
front n xs out F long few e = ap (λ m. take m out) (sym (length-take-le n xs (omega arith))) ∙ e

-- the standing auction can be allotted
pub standing-allottable : (T : Sharing) (k : Book) (a : Standing) → k.auction ≡ Some a → Allottable T a.terms (take k.taken k.bids)
standing-allottable T k a e =
    let n = length-take k.taken k.bids in
    allottable T k.rate a (take k.taken k.bids) (omega (arith, k.few.0)) (subst (λ (o : Option Standing). is_sound_auction k.rate o (take k.taken k.bids) ≡ true) e k.sound)
