-- Lines posted one after another.
use Rattle.std.proofs.Common.{◌≡◌, ℕ, ◌-◌, ◌<◌, ◌≤◌, min, Bool, true, false, cond, eqb, ◌≢◌, ◌⊎◌, List, [], ◌∷◌, ◌++◌, length, get_or, take, set, ℤ, pos, ◌+ℤ◌, ◌-ℤ◌, nat_abs, None, sym, refl, ap, ◌∙◌, inl, inr, arith, length-set}
use mathlib.Core.Path.{fun_ext}
use lib.Signed.{le_z}
use Rattle.std.proofs.lemmas.Int.{ints}
use Rattle.std.proofs.lemmas.List.{get_or-set_same, get_or-set_other, length-append, take_all}
use Rattle.std.proofs.lemmas.Bool.{cases_eq, cases_lt, ne_eqb, eq-eqb}
use Rattle.terms.specs.Refusals.{unless_refused}
use Rattle.accounts.specs.Postings.{line_refused, line_paid, moved}
use Rattle.portfolio.specs.Fitting.{Payable}
use Rattle.rules.specs.declared.hedge.Line.{Line}
use Rattle.rules.specs.Books.{sum_by, moves, posted}
use Rattle.house.specs.Posting.{by_party, Posts}

-- a line of nobody
abbrev pub no_line : Line
no_line = record { hedge = 0; institution = 0; centavos = pos 0 }

sum-append : {X : Type 0} (f : X → ℤ) (xs ys : List X) → sum_by f (xs ++ ys) ≡ sum_by f xs +ℤ sum_by f ys
sum-append f [] ys = omega (arith, ints)
sum-append f (x ∷ xs) ys = go (f x) (sum_by f xs) (sum_by f ys) (sum_by f (xs ++ ys)) (sum-append f xs ys)
  where
    go : (a b c d : ℤ) → d ≡ b +ℤ c → a +ℤ d ≡ (a +ℤ b) +ℤ c
    go a b c d e = omega (arith, ints)

pub posted-append : (xs ys : List Line) (f : ℕ → ℤ) → posted (xs ++ ys) f ≡ posted ys (posted xs f)
posted-append xs ys f = fun_ext (λ p. go (f p) (sum_by (moves p) xs) (sum_by (moves p) ys) (sum_by (moves p) (xs ++ ys)) (sum-append (moves p) xs ys))
  where
    go : (a b c d : ℤ) → d ≡ b +ℤ c → a +ℤ d ≡ (a +ℤ b) +ℤ c
    go a b c d e = omega (arith, ints)

pub posted-none : (f : ℕ → ℤ) → posted [] f ≡ f
posted-none f = fun_ext (λ p. go (f p))
  where
    go : (a : ℤ) → a +ℤ pos 0 ≡ a
    go a = omega (arith, ints)

pub line-accepted : (i : ℕ) (z : ℤ) (free : ℕ) → 1 ≤ i → i ≤ 16 → nat_abs z ≤ 30000000000000 → 0 < free → line_refused (pos i) z free ≡ None
line-accepted i z free low high small some = grind (arith, ints)

-- what a posting moves, party by party
moved_at : (a b : ℕ) (z : ℤ) (xs : List ℤ) → a < length xs → b < length xs → a ≢ b → (p : ℕ) → get_or (moved (pos a) (pos b) z xs) p (pos 0) ≡ get_or xs p (pos 0) +ℤ (cond (eqb b p) z (pos 0) -ℤ cond (eqb a p) z (pos 0))
moved_at a b z xs la lb apart p = go (cases_eq p b) (cases_eq p a)
  where
    first : List ℤ
    first = set xs a (get_or xs a (pos 0) -ℤ z)

    there : b < length first
    there = omega (arith, length-set xs a (get_or xs a (pos 0) -ℤ z))

    go : (p ≡ b) ⊎ (p ≢ b) → (p ≡ a) ⊎ (p ≢ a) → get_or (moved (pos a) (pos b) z xs) p (pos 0) ≡ get_or xs p (pos 0) +ℤ (cond (eqb b p) z (pos 0) -ℤ cond (eqb a p) z (pos 0))
    go (inl e) (inl e') = absurd (apart (sym e' ∙ e))
    go (inl e) (inr n) =
        let x = get_or-set_same first b (get_or xs b (pos 0) +ℤ z) (pos 0) there in
        let y : eqb b p ≡ true = eq-eqb b p (sym e) in
        let w : eqb a p ≡ false = ne_eqb a p (λ q. n (sym q)) in
        rw (y, w) (ap (λ k. get_or (moved (pos a) (pos b) z xs) k (pos 0)) e ∙ x ∙ ap (λ k. get_or xs k (pos 0) +ℤ z) (sym e) ∙ plain (get_or xs p (pos 0)))
      where
        plain : (v : ℤ) → v +ℤ z ≡ v +ℤ (z -ℤ pos 0)
        plain v = omega (arith, ints)
    go (inr n) (inl e) =
        let o = get_or-set_other first b p (get_or xs b (pos 0) +ℤ z) (pos 0) n in
        let s = get_or-set_same xs a (get_or xs a (pos 0) -ℤ z) (pos 0) la in
        let y : eqb b p ≡ false = ne_eqb b p (λ q. n (sym q)) in
        let w : eqb a p ≡ true = eq-eqb a p (sym e) in
        rw (y, w) (o ∙ ap (λ k. get_or first k (pos 0)) e ∙ s ∙ ap (λ k. get_or xs k (pos 0) -ℤ z) (sym e) ∙ plain (get_or xs p (pos 0)))
      where
        plain : (v : ℤ) → v -ℤ z ≡ v +ℤ (pos 0 -ℤ z)
        plain v = omega (arith, ints)
    go (inr n) (inr m) =
        let o = get_or-set_other first b p (get_or xs b (pos 0) +ℤ z) (pos 0) n in
        let s = get_or-set_other xs a p (get_or xs a (pos 0) -ℤ z) (pos 0) m in
        let y : eqb b p ≡ false = ne_eqb b p (λ q. n (sym q)) in
        let w : eqb a p ≡ false = ne_eqb a p (λ q. m (sym q)) in
        rw (y, w) (o ∙ s ∙ plain (get_or xs p (pos 0)))
      where
        plain : (v : ℤ) → v ≡ v +ℤ (pos 0 -ℤ pos 0)
        plain v = omega (arith, ints)

-- a line moves its centavos from the bank to the institution, or back where they are below nought
paid_at : (l : Line) (xs : List ℤ) → Payable l → length xs ≡ 17 → (p : ℕ) → get_or (line_paid (pos l.institution) l.centavos xs) p (pos 0) ≡ posted (l ∷ []) (by_party xs) p
paid_at l xs h seventeen p = go (le_z (pos 0) z) refl
  where
    i : ℕ
    i = l.institution

    z : ℤ
    z = l.centavos

    m : ℤ
    m = pos (nat_abs z)

    paid : Bool → List ℤ
    paid t = moved (cond t (pos 0) (pos i)) (cond t (pos i) (pos 0)) m xs

    ends : (v : ℤ) (t u : Bool) → le_z (pos 0) z ≡ true → v +ℤ (cond t m (pos 0) -ℤ cond u m (pos 0)) ≡ v +ℤ ((cond t z (pos 0) -ℤ cond u z (pos 0)) +ℤ pos 0)
    ends v true true e = omega (arith, ints)
    ends v true false e = let k : m ≡ z = grind (arith, ints) in omega (arith, ints, k)
    ends v false true e = let k : m ≡ z = grind (arith, ints) in omega (arith, ints, k)
    ends v false false e = omega (arith, ints)

    back : (v : ℤ) (t u : Bool) → le_z (pos 0) z ≡ false → v +ℤ (cond u m (pos 0) -ℤ cond t m (pos 0)) ≡ v +ℤ ((cond t z (pos 0) -ℤ cond u z (pos 0)) +ℤ pos 0)
    back v true true e = omega (arith, ints)
    back v true false e = let k : m ≡ pos 0 -ℤ z = grind (arith, ints) in omega (arith, ints, k)
    back v false true e = let k : m ≡ pos 0 -ℤ z = grind (arith, ints) in omega (arith, ints, k)
    back v false false e = omega (arith, ints)

    go : (t : Bool) → le_z (pos 0) z ≡ t → get_or (paid (le_z (pos 0) z)) p (pos 0) ≡ posted (l ∷ []) (by_party xs) p
    go true e = ap (λ t. get_or (paid t) p (pos 0)) e ∙ moved_at 0 i m xs (omega arith) (omega (arith, h.1)) (λ q. omega (arith, h.0)) p ∙ ends (get_or xs p (pos 0)) (eqb i p) (eqb 0 p) e
    go false e = ap (λ t. get_or (paid t) p (pos 0)) e ∙ moved_at i 0 m xs (omega (arith, h.1)) (omega arith) (λ q. omega (arith, h.0)) p ∙ back (get_or xs p (pos 0)) (eqb i p) (eqb 0 p) e

pub posts_one : (l : Line) (xs ys : List ℤ) (free free' : ℕ) → Payable l → 0 < free → length xs ≡ 17
    → ys ≡ unless_refused (line_refused (pos l.institution) l.centavos free) (line_paid (pos l.institution) l.centavos xs) xs
    → free' ≡ unless_refused (line_refused (pos l.institution) l.centavos free) (free - 1) free
    → Posts (l ∷ []) xs free ys free'
posts_one l xs ys free free' h some seventeen m u =
    let ok = line-accepted l.institution l.centavos free h.0 h.1 h.2 some in
    let m' : ys ≡ line_paid (pos l.institution) l.centavos xs = m ∙ ap (λ o. unless_refused o (line_paid (pos l.institution) l.centavos xs) xs) ok in
    record {
      moves = ap by_party m' ∙ fun_ext (λ p. paid_at l xs h seventeen p);
      uses = u ∙ ap (λ o. unless_refused o (free - 1) free) ok;
    }

pub posts_more : (ls ms : List Line) (xs ys zs : List ℤ) (a b c : ℕ) → Posts ls xs a ys b → Posts ms ys b zs c → Posts (ls ++ ms) xs a zs c
posts_more ls ms xs ys zs a b c p q = record {
  moves = q.moves ∙ ap (posted ms) p.moves ∙ sym (posted-append ls ms (by_party xs));
  uses = omega (arith, p.uses, q.uses, length-append ls ms);
}

pub posts_none : (xs : List ℤ) (a : ℕ) → Posts [] xs a xs a
posts_none xs a = record { moves = sym (posted-none (by_party xs)); uses = omega arith }

-- a count past the list takes all of it
pub take-capped : (n : ℕ) (xs : List Line) → take (min n (length xs) - 0) xs ≡ take n xs
take-capped n xs = go (cases_lt n (length xs))
  where
    go : (n < length xs) ⊎ (length xs ≤ n) → take (min n (length xs) - 0) xs ≡ take n xs
    go (inl lt) = let e : min n (length xs) - 0 ≡ n = omega arith in ap (λ (k : ℕ). take k xs) e
    go (inr le) = take_all (min n (length xs) - 0) xs (omega arith) ∙ sym (take_all n xs le)
