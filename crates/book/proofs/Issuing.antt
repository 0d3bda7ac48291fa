-- What a publication makes of the bids and their dollars.
use Rattle.std.proofs.Common.{◌≡◌, ℕ, zero, suc, ◌+◌, ◌≤◌, Bool, true, false, cond, ◌&&◌, eqb, ltb, leb, List, [], ◌∷◌, ◌++◌, map, length, sym, refl, ap, ◌∙◌, arith}
use Rattle.std.specs.List.{list_all, count_by, AllByRecursion}
use Rattle.std.proofs.lemmas.List.Recursion.{is_count_by}
use Rattle.std.proofs.lemmas.List.{length-append, length-map, append_assoc, map-append}
use Rattle.std.proofs.lemmas.Bool.{and_parts, leb-true, lt-ltb}
use Rattle.terms.specs.Ranges.{is_rate}
use Rattle.rules.specs.declared.auction.Kind.{Kind}
use Rattle.rules.specs.declared.auction.Bid.{Bid}
use Rattle.rules.specs.declared.auction.Terms.{Terms}
use Rattle.rules.specs.declared.hedge.Hedge.{Hedge}
use Rattle.rules.specs.Allotment.{assigned_rate, deal_of, paired, numbered_from}
use Rattle.rules.specs.Settlement.{fresh}
use Rattle.book.specs.Deals.{deals_of, given}
use Rattle.book.specs.Soundness.{is_sound_bid}

given-step : (d : ℕ) (ds : List ℕ) → given (d ∷ ds) ≡ cond (ltb 0 d) (1 + given ds) (given ds)
given-step zero ds = refl
given-step (suc d) ds = let e : ltb 0 (suc d) ≡ true = lt-ltb 0 (suc d) (omega arith) in let z : eqb (suc d) 0 ≡ false = grind arith in rw (e, z) (omega arith)

-- how many bids got dollars, as the library counts
pub given_is-count : (ds : List ℕ) → given ds ≡ count_by (λ d. ltb 0 d) ds
given_is-count = is_count_by given (λ d. ltb 0 d) refl given-step

-- ---- one hedge
pub record Sound (kind : Kind) (rate : ℕ) (x : Bid) : Type 0 where
  pub some : 1 ≤ x.institution
  pub institution : x.institution ≤ 16
  pub least : 1 ≤ x.millions
  pub most : x.millions ≤ 2000
  pub assigned : is_rate (assigned_rate kind rate x.price) ≡ true

pub sound_parts : (kind : Kind) (rate : ℕ) (x : Bid) → is_sound_bid kind rate x ≡ true → Sound kind rate x
sound_parts kind rate x e =
    let a = and_parts (leb 1 x.institution && leb x.institution 16 && leb 1 x.millions && leb x.millions 2000) (is_rate (assigned_rate kind rate x.price)) e in
    let b = and_parts (leb 1 x.institution && leb x.institution 16 && leb 1 x.millions) (leb x.millions 2000) a.0 in
    let c = and_parts (leb 1 x.institution && leb x.institution 16) (leb 1 x.millions) b.0 in
    let d = and_parts (leb 1 x.institution) (leb x.institution 16) c.0 in
    record { some = leb-true 1 x.institution d.0; institution = leb-true x.institution 16 d.1; least = leb-true 1 x.millions c.1; most = leb-true x.millions 2000 b.1; assigned = a.1 }

-- ---- one bid after the other
-- the deal of the first bid, if it got dollars, comes before those of the others
deals_more : (n rate : ℕ) (t : Terms) (x : Bid) (d : ℕ) (bids : List Bid) (ds : List ℕ) → deals_of n rate t (x ∷ bids) (d ∷ ds) ≡ deals_of n rate t (x ∷ []) (d ∷ []) ++ deals_of (n + given (d ∷ [])) rate t bids ds
deals_more n rate t x d bids ds = go (eqb d 0)
  where
    go : (b : Bool) → cond b (deals_of n rate t bids ds) (deal_of (suc n) rate t (record { of = x; dollars = d }) ∷ numbered_from (suc (suc n)) rate t (paired bids ds)) ≡ cond b [] (deal_of (suc n) rate t (record { of = x; dollars = d }) ∷ []) ++ deals_of (n + cond b 0 1) rate t bids ds
    go true = let e : n ≡ n + 0 = omega arith in ap (λ m. deals_of m rate t bids ds) e
    go false = let e : suc n ≡ n + 1 = omega arith in ap (λ m. deal_of (suc n) rate t (record { of = x; dollars = d }) ∷ deals_of m rate t bids ds) e

given-more : (d : ℕ) (ds : List ℕ) → given (d ∷ ds) ≡ given (d ∷ []) + given ds
given-more d ds = go (eqb d 0)
  where
    go : (b : Bool) → cond b (given ds) (suc (given ds)) ≡ cond b 0 1 + given ds
    go true = omega arith
    go false = omega arith

deals_one : (n rate : ℕ) (t : Terms) (x : Bid) (d : ℕ) → length (deals_of n rate t (x ∷ []) (d ∷ [])) ≡ given (d ∷ [])
deals_one n rate t x d = go (eqb d 0)
  where
    go : (b : Bool) → length (cond b [] (deal_of (suc n) rate t (record { of = x; dollars = d }) ∷ [])) ≡ cond b 0 1
    go true = refl
    go false = refl

-- with the hedges of some bids issued: hs and n are the hedges and the numbers before, hs' and n' those by now, for the bids and dollars that are left
pub record Left (day rate : ℕ) (t : Terms) (bids : List Bid) (ds : List ℕ) (hs : List Hedge) (n : ℕ) (rest : List Bid) (left : List ℕ) (hs' : List Hedge) (n' : ℕ) : Type 0 where
  pub hedges : hs' ++ map (fresh day) (deals_of n' rate t rest left) ≡ hs ++ map (fresh day) (deals_of n rate t bids ds)
  pub places : length hs' + given left ≡ length hs + given ds
  pub numbers : n' + given left ≡ n + given ds
  pub sizes : length rest ≡ length left
  pub sound : list_all (is_sound_bid t.kind rate) rest ≡ true
  pub small : AllByRecursion (λ d. d ≤ 2000000000) left

module _ (day rate : ℕ) (t : Terms) (bids : List Bid) (ds : List ℕ) (hs : List Hedge) (n : ℕ) (x : Bid) (d : ℕ) (rest : List Bid) (left : List ℕ) (hs' : List Hedge) (n' : ℕ) where
  pub left_more : (hs'' : List Hedge) (n'' : ℕ)
      → hs'' ≡ hs' ++ map (fresh day) (deals_of n' rate t (x ∷ []) (d ∷ []))
      → n'' ≡ n' + given (d ∷ [])
      → Left day rate t bids ds hs n (x ∷ rest) (d ∷ left) hs' n' → Left day rate t bids ds hs n rest left hs'' n''
  left_more hs'' n'' e f inv =
      let one = deals_of n' rate t (x ∷ []) (d ∷ []) in
      let more = deals_of (n' + given (d ∷ [])) rate t rest left in
      let split = deals_more n' rate t x d rest left in
      let g = given-more d left in
      let l : length hs'' ≡ length hs' + given (d ∷ []) = ap length e ∙ length-append hs' (map (fresh day) one) ∙ ap (λ m. length hs' + m) (length-map one (fresh day) ∙ deals_one n' rate t x d) in
      record {
        hedges = ap (λ zs. zs ++ map (fresh day) (deals_of n'' rate t rest left)) e
            ∙ ap (λ m. (hs' ++ map (fresh day) one) ++ map (fresh day) (deals_of m rate t rest left)) f
            ∙ append_assoc hs' (map (fresh day) one) (map (fresh day) more) ∙ ap (λ zs. hs' ++ zs) (sym (map-append (fresh day) one more) ∙ ap (map (fresh day)) (sym split))
            ∙ inv.hedges;
        places = omega (arith, inv.places);
        numbers = omega (arith, inv.numbers);
        sizes = omega (arith, inv.sizes);
        sound = (and_parts (is_sound_bid t.kind rate x) (list_all (is_sound_bid t.kind rate) rest) inv.sound).1;
        small = inv.small.1;
      }

  pub left_room : length hs + given ds ≤ 128 → n + given ds ≤ 100000 → Left day rate t bids ds hs n (x ∷ rest) (d ∷ left) hs' n' → (length hs' + given (d ∷ []) ≤ 128) × (n' + given (d ∷ []) ≤ 100000)
  left_room places numbers inv =
      let g = given-more d left in
      (omega (arith, inv.places), omega (arith, inv.numbers))
