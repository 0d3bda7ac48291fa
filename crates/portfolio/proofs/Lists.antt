-- The questions over hedges, as iterators answer them.
use Rattle.std.proofs.Common.{◌≡◌, ℕ, Bool, true, false, cond, not, ◌&&◌, ◌||◌, eqb, List, [], ◌∷◌, map, length, ℤ, pos, nat_abs, Some, None, filter, sym, refl, ap, ap₂, ◌∙◌, arith}
use lib.Signed.{lt_z}
use Rattle.std.specs.List.{find, list_any, sum_by}
use Rattle.std.proofs.lemmas.List.Sums.{sum-map}
use Rattle.std.specs.Ordering.{int_eq}
use Rattle.rules.proofs.Allotment.{sum-total}
use Rattle.std.proofs.lemmas.Bool.{ne_eqb}
use Rattle.std.proofs.lemmas.Int.{ints}
use Rattle.std.proofs.lemmas.Bool.Decides.{Decides-int_eq, nat_tests}
use Rattle.rules.specs.declared.hedge.Hedge.{Hedge}
use Rattle.rules.specs.Books.{total}
use Rattle.rules.specs.Rules.{ask, skipped}
use Rattle.rules.specs.Settlement.{closing, open_ones}
use Rattle.portfolio.specs.View.{maturing_at}

-- ---- the question for a hedge
pub same_number : (n : ℕ) (number : ℤ) → lt_z number (pos 0) ≡ false → int_eq (pos n) number ≡ eqb n (nat_abs number)
same_number n number s = grind (arith, ints, nat_tests, Decides-int_eq)

pub below_none : (n : ℕ) (number : ℤ) → lt_z number (pos 0) ≡ true → int_eq (pos n) number ≡ false
below_none n number s = grind (arith, ints, nat_tests, Decides-int_eq)

none_below : (number : ℤ) (xs : List Hedge) → lt_z number (pos 0) ≡ true → find (λ x. int_eq (pos x.deal.number) number) xs ≡ None
none_below number [] s = refl
none_below number (x ∷ xs) s = ap (λ t. cond t (Some x) (find (λ y. int_eq (pos y.deal.number) number) xs)) (below_none x.deal.number number s) ∙ none_below number xs s

found : (number : ℤ) (xs : List Hedge) → lt_z number (pos 0) ≡ false → find (λ x. int_eq (pos x.deal.number) number) xs ≡ ask (nat_abs number) xs
found number [] s = refl
found number (x ∷ xs) s = ap₂ (λ t r. cond t (Some x) r) (same_number x.deal.number number s) (found number xs s)

pub asked : (number : ℤ) (xs : List Hedge) → find (λ x. int_eq (pos x.deal.number) number) xs ≡ cond (lt_z number (pos 0)) None (ask (nat_abs number) xs)
asked number xs = go (lt_z number (pos 0)) (none_below number xs) (found number xs)
  where
    go : (t : Bool) → (t ≡ true → find (λ x. int_eq (pos x.deal.number) number) xs ≡ None) → (t ≡ false → find (λ x. int_eq (pos x.deal.number) number) xs ≡ ask (nat_abs number) xs) → find (λ x. int_eq (pos x.deal.number) number) xs ≡ cond t None (ask (nat_abs number) xs)
    go true f g = f refl
    go false f g = g refl

-- ---- whether a maturity day would be passed over
abbrev pub late : ℤ → Hedge → Bool
late day x = x.live && lt_z (pos x.deal.maturity) day

pub skips : (day : ℤ) (xs : List Hedge) → list_any (late day) xs ≡ not (eqb (length (skipped day xs)) 0)
skips day [] = refl
skips day (x ∷ xs) = go x.live (λ u. kept u (skips day xs))
  where
    kept : (u : Bool) → list_any (late day) xs ≡ not (eqb (length (skipped day xs)) 0) → (u || list_any (late day) xs) ≡ not (eqb (length (cond u (x ∷ skipped day xs) (skipped day xs))) 0)
    kept true e = sym (ap not (ne_eqb (length (x ∷ skipped day xs)) 0 (λ e. omega arith)))
    kept false e = e

    go : (t : Bool) → ((u : Bool) → (u || list_any (late day) xs) ≡ not (eqb (length (cond u (x ∷ skipped day xs) (skipped day xs))) 0)) → ((t && lt_z (pos x.deal.maturity) day) || list_any (late day) xs) ≡ not (eqb (length (filter (λ y. lt_z (pos y.deal.maturity) day) (cond t (x ∷ open_ones xs) (open_ones xs)))) 0)
    go true f = f (lt_z (pos x.deal.maturity) day)
    go false f = f false

-- ---- dollars that mature
both : (p q : Hedge → Bool) (xs : List Hedge) → filter (λ x. p x && q x) xs ≡ filter q (filter p xs)
both p q [] = refl
both p q (x ∷ xs) = go (p x) (both p q xs)
  where
    go : (t : Bool) → filter (λ x. p x && q x) xs ≡ filter q (filter p xs) → cond (t && q x) (x ∷ filter (λ x. p x && q x) xs) (filter (λ x. p x && q x) xs) ≡ filter q (cond t (x ∷ filter p xs) (filter p xs))
    go true e = ap (λ ys. cond (q x) (x ∷ ys) ys) e
    go false e = e

pub maturing : (day : ℕ) (xs : List Hedge) → sum_by (λ x. x.deal.dollars) (filter (λ x. x.live && closing day x) xs) ≡ maturing_at day xs
maturing day xs =
    let ys = filter (λ x. x.live && closing day x) xs in
    sym (sum-map (λ (x : Hedge). x.deal.dollars) ys) ∙ sum-total (map (λ x. x.deal.dollars) ys) ∙ ap (λ ys. total (map (λ x. x.deal.dollars) ys)) (both (λ x. x.live) (closing day) xs)
