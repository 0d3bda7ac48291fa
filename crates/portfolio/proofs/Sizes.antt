-- Bounds: of a fit hedge's worth, of its line, and of sums of worths.
use Rattle.std.proofs.Common.{◌≡◌, ℕ, ◌+◌, ◌*◌, ◌<◌, ◌≤◌, Bool, true, false, cond, ◌&&◌, eqb, leb, List, ◌∷◌, length, get_or, drop, ℤ, pos, ◌+ℤ◌, nat_abs, filter, sym, refl, ap, ◌∙◌, subst, arith, w64, to_z, of_z}
use Rattle.std.proofs.lemmas.Int.{ints}
use Rattle.std.proofs.lemmas.List.{at_drop_more}
use Rattle.std.proofs.lemmas.Bool.{and_parts, leb-true}
use Rattle.rules.specs.declared.hedge.Hedge.{Hedge}
use Rattle.rules.specs.Books.{sum_by}
use Rattle.rules.specs.Settlement.{worth, line_of, value_of}
use Rattle.rules.proofs.Sizes.{worth-fits, rounded-fits}
use Rattle.portfolio.specs.Fitting.{is_fit, Payable, no_hedge}

pub record Fitting (x : Hedge) : Type 0 where
  pub some : 1 ≤ x.deal.institution
  pub known : x.deal.institution ≤ 16
  pub dollars : x.deal.dollars ≤ 2000000000
  pub settled : x.settled ≤ 999999

pub fitting : (x : Hedge) → is_fit x ≡ true → Fitting x
fitting x h =
    let p = and_parts (leb 1 x.deal.institution && leb x.deal.institution 16 && leb x.deal.dollars 2000000000) (leb x.settled 999999) h in
    let q = and_parts (leb 1 x.deal.institution && leb x.deal.institution 16) (leb x.deal.dollars 2000000000) p.0 in
    let r = and_parts (leb 1 x.deal.institution) (leb x.deal.institution 16) q.0 in
    record { some = leb-true 1 x.deal.institution r.0; known = leb-true x.deal.institution 16 r.1; dollars = leb-true x.deal.dollars 2000000000 q.1; settled = leb-true x.settled 999999 p.1 }

pub worth-small : (r : ℕ) (x : Hedge) → r ≤ 999999 → is_fit x ≡ true → nat_abs (worth r x) ≤ 2000000000000000
worth-small r x h f = let p = fitting x f in worth-fits r x h (p.dollars, p.settled)

pub line-payable : (r : ℕ) (x : Hedge) → r ≤ 999999 → is_fit x ≡ true → Payable (line_of r x)
line-payable r x h f = let p = fitting x f in let q = rounded-fits (worth r x) 2000000000000000 (worth-small r x h f) in (p.some, p.known, omega arith)

-- ---- an institution's value
value_cons : (r i : ℕ) (x : Hedge) (xs : List Hedge) → value_of r (x ∷ xs) i ≡ cond (x.live && eqb x.deal.institution i) (worth r x) (pos 0) +ℤ value_of r xs i
value_cons r i x xs = go (x.live && eqb x.deal.institution i)
  where
    go : (t : Bool) → sum_by (worth r) (cond t (x ∷ filter (λ y. y.live && eqb y.deal.institution i) xs) (filter (λ y. y.live && eqb y.deal.institution i) xs)) ≡ cond t (worth r x) (pos 0) +ℤ value_of r xs i
    go true = refl
    go false = omega (arith, ints)

pub value_more : (r i : ℕ) (xs : List Hedge) (k : ℕ) → k < length xs → value_of r (drop k xs) i ≡ cond ((get_or xs k no_hedge).live && eqb (get_or xs k no_hedge).deal.institution i) (worth r (get_or xs k no_hedge)) (pos 0) +ℤ value_of r (drop (k + 1) xs) i
value_more r i xs k h = at_drop_more (λ ys. value_of r ys i) xs k no_hedge h ∙ value_cons r i (get_or xs k no_hedge) (drop (k + 1) xs)

-- how far a sum of worths has come
pub record Summed (r i : ℕ) (xs : List Hedge) (k : ℕ) (sum : ℤ) : Type 0 where
  pub whole : sum +ℤ value_of r (drop k xs) i ≡ value_of r xs i
  pub small : nat_abs sum ≤ k * 2000000000000000

module _ (r i : ℕ) (xs : List Hedge) (k : ℕ) (sum w : ℤ) (l : k < length xs) (few : length xs ≤ 128) (inv : Summed r i xs k sum) (is : w ≡ cond ((get_or xs k no_hedge).live && eqb (get_or xs k no_hedge).deal.institution i) (worth r (get_or xs k no_hedge)) (pos 0)) (small : nat_abs w ≤ 2000000000000000) where
  plain : Summed r i xs (k + 1) (sum +ℤ w)
  plain =
      let e : value_of r (drop k xs) i ≡ w +ℤ value_of r (drop (k + 1) xs) i = value_more r i xs k l ∙ ap (λ (z : ℤ). z +ℤ value_of r (drop (k + 1) xs) i) (sym is) in
      record { whole = go sum w (value_of r (drop k xs) i) (value_of r (drop (k + 1) xs) i) (value_of r xs i) e inv.whole; small = bound sum w inv.small small }
    where
      go : (a b c d v : ℤ) → c ≡ b +ℤ d → a +ℤ c ≡ v → (a +ℤ b) +ℤ d ≡ v
      go a b c d v p q = omega (arith, ints)

      bound : (a b : ℤ) → nat_abs a ≤ k * 2000000000000000 → nat_abs b ≤ 2000000000000000 → nat_abs (a +ℤ b) ≤ (k + 1) * 2000000000000000
      bound a b p q = omega (arith, ints)

  -- one hedge more, as 64 bits hold the sum
  pub summed_more : Summed r i xs (k + 1) (to_z w64 (of_z w64 (sum +ℤ to_z w64 (of_z w64 w))))
  summed_more = let p = inv.small in let e : to_z w64 (of_z w64 (sum +ℤ to_z w64 (of_z w64 w))) ≡ sum +ℤ w = omega (arith, ints) in subst (Summed r i xs (k + 1)) (sym e) plain
