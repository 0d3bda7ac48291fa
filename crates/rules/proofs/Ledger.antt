-- (a): what a posting of lines does to the balances.
use Rattle.std.proofs.Common.{◌≡◌, ℕ, zero, suc, ◌<◌, ◌≤◌, Bool, true, false, cond, eqb, List, [], ◌∷◌, ◌++◌, ℤ, pos, ◌+ℤ◌, ◌-ℤ◌, sym, refl, ap, ◌∙◌, ap₂, arith}
use Rattle.std.proofs.lemmas.Int.{ints}
use Rattle.std.proofs.lemmas.Bool.{eqb-true, eqb-false, ne_eqb}
use Rattle.std.proofs.lemmas.List.Elements.{filter-append}
use Rattle.std.specs.List.{AllByRecursion}
use Rattle.rules.specs.declared.hedge.Line.{Line}
use Rattle.rules.specs.Books.{Books, sum_by, bank, parties, moves, posted}
use Rattle.rules.specs.Law.{History, Entry, Balanced, told, lines_for, sum_of, sum_to}

-- the line goes to an institution
abbrev pub ToInstitution : Line → Type 0
ToInstitution l = (1 ≤ l.institution) × (l.institution < parties)

abbrev pick : ℕ → ℤ → ℕ → ℤ
pick k c p = cond (eqb k p) c (pos 0)

sum_to-add : (n : ℕ) (f g : ℕ → ℤ) → sum_to n (λ p. f p +ℤ g p) ≡ sum_to n f +ℤ sum_to n g
sum_to-add zero f g = refl
sum_to-add (suc n) f g = go (sum_to-add n f g)
  where
    go : sum_to n (λ p. f p +ℤ g p) ≡ sum_to n f +ℤ sum_to n g → sum_to n (λ p. f p +ℤ g p) +ℤ (f n +ℤ g n) ≡ (sum_to n f +ℤ f n) +ℤ (sum_to n g +ℤ g n)
    go e = omega (arith, ints, e)

sum_to-sub : (n : ℕ) (f g : ℕ → ℤ) → sum_to n (λ p. f p -ℤ g p) ≡ sum_to n f -ℤ sum_to n g
sum_to-sub zero f g = refl
sum_to-sub (suc n) f g = go (sum_to-sub n f g)
  where
    go : sum_to n (λ p. f p -ℤ g p) ≡ sum_to n f -ℤ sum_to n g → sum_to n (λ p. f p -ℤ g p) +ℤ (f n -ℤ g n) ≡ (sum_to n f +ℤ f n) -ℤ (sum_to n g +ℤ g n)
    go e = omega (arith, ints, e)

unpicked : (n k : ℕ) (c : ℤ) → n ≤ k → sum_to n (pick k c) ≡ pos 0
unpicked zero k c h = refl
unpicked (suc n) k c h = ap₂ (λ x y. x +ℤ y) (unpicked n k c (omega arith)) (ap (λ t. cond t c (pos 0)) (ne_eqb k n (λ e. omega arith)))

picked : (n k : ℕ) (c : ℤ) → k < n → sum_to n (pick k c) ≡ c
picked zero k c h = absurd (omega arith)
picked (suc n) k c h = go (λ lt. picked n k c lt) (eqb k n) refl
  where
    go : (k < n → sum_to n (pick k c) ≡ c) → (t : Bool) → eqb k n ≡ t → sum_to n (pick k c) +ℤ pick k c n ≡ c
    go ih true e = ap₂ (λ x y. x +ℤ y) (unpicked n k c (omega (arith, eqb-true k n e))) (ap (λ t. cond t c (pos 0)) e) ∙ omega (arith, ints)
    go ih false e = ap₂ (λ x y. x +ℤ y) (ih (omega (arith, eqb-false k n e))) (ap (λ t. cond t c (pos 0)) e) ∙ omega (arith, ints)

line-nought : (l : Line) → ToInstitution l → sum_to parties (λ p. moves p l) ≡ pos 0
line-nought l h = sum_to-sub parties (pick l.institution l.centavos) (pick bank l.centavos)
    ∙ ap₂ (λ x y. x -ℤ y) (picked parties l.institution l.centavos h.1) (picked parties bank l.centavos (omega arith)) ∙ omega (arith, ints)

lines_nought : (ls : List Line) → AllByRecursion ToInstitution ls → sum_to parties (λ p. sum_by (moves p) ls) ≡ pos 0
lines_nought [] h = refl
lines_nought (l ∷ ls) h = sum_to-add parties (λ p. moves p l) (λ p. sum_by (moves p) ls) ∙ ap₂ (λ x y. x +ℤ y) (line-nought l h.0) (lines_nought ls h.1)

pub posted-nought : (ls : List Line) (f : ℕ → ℤ) → AllByRecursion ToInstitution ls → sum_to parties f ≡ pos 0 → sum_to parties (posted ls f) ≡ pos 0
posted-nought ls f h e = sum_to-add parties f (λ p. sum_by (moves p) ls) ∙ ap₂ (λ x y. x +ℤ y) e (lines_nought ls h)

moves-for : (i : ℕ) (ls : List Line) → 1 ≤ i → sum_by (moves i) ls ≡ sum_of (lines_for i ls)
moves-for i [] h = refl
moves-for i (l ∷ ls) h = go (eqb l.institution i) refl (moves-for i ls h) (ne_eqb bank i (λ e. omega arith))
  where
    go : (t : Bool) → eqb l.institution i ≡ t → sum_by (moves i) ls ≡ sum_of (lines_for i ls) → eqb bank i ≡ false
        → (cond (eqb l.institution i) l.centavos (pos 0) -ℤ cond (eqb bank i) l.centavos (pos 0)) +ℤ sum_by (moves i) ls ≡ sum_of (cond (eqb l.institution i) (l ∷ lines_for i ls) (lines_for i ls))
    go true e ih n = rw (e, n) (let x : l.centavos -ℤ pos 0 ≡ l.centavos = omega (arith, ints) in ap₂ (λ u v. u +ℤ v) x ih)
    go false e ih n = rw (e, n) (omega (arith, ints, ih))

pub sum_by-append : {X : Type 0} (f : X → ℤ) (xs ys : List X) → sum_by f (xs ++ ys) ≡ sum_by f xs +ℤ sum_by f ys
sum_by-append f [] ys = omega (arith, ints)
sum_by-append f (x ∷ xs) ys = go (sum_by f (xs ++ ys)) (sum_by f xs) (sum_by f ys) (f x) (sum_by-append f xs ys)
  where
    go : (a b c d : ℤ) → a ≡ b +ℤ c → d +ℤ a ≡ (d +ℤ b) +ℤ c
    go a b c d e = omega (arith, ints)

-- the balances after a call that told the lines ls
pub posted-for : (i : ℕ) (ls : List Line) (f : ℕ → ℤ) (told-before : List Line) → 1 ≤ i → f i ≡ sum_of (lines_for i told-before) → posted ls f i ≡ sum_of (lines_for i (ls ++ told-before))
posted-for i ls f before h e =
    ap₂ (λ x y. x +ℤ y) e (moves-for i ls h) ∙ swap (sum_of (lines_for i before)) (sum_of (lines_for i ls))
    ∙ sym (ap sum_of (filter-append (λ l. eqb l.institution i) ls before) ∙ sum_by-append (λ l. l.centavos) (lines_for i ls) (lines_for i before))
  where
    swap : (a b : ℤ) → a +ℤ b ≡ b +ℤ a
    swap a b = omega (arith, ints)

-- a call that the .lines lines ls, each to an institution, and posts them
pub posted-balanced : (e : Entry) (h : History) (b b' : Books) → AllByRecursion ToInstitution e.lines → b'.balance ≡ posted e.lines b.balance → Balanced h b → Balanced (e ∷ h) b'
posted-balanced e h b b' to p bal = record {
  nought = ap (sum_to parties) p ∙ posted-nought e.lines b.balance to bal.nought;
  each = λ i l u. ap (λ (f : ℕ → ℤ). f i) p ∙ posted-for i e.lines b.balance (told h) l (bal.each i l u);
}

-- a call that none.lines, and posts none
pub quiet_balanced : (e : Entry) (h : History) (b b' : Books) → e.lines ≡ [] → b'.balance ≡ b.balance → Balanced h b → Balanced (e ∷ h) b'
quiet_balanced e h b b' none p bal = record {
  nought = ap (sum_to parties) p ∙ bal.nought;
  each = λ i l u. ap (λ (f : ℕ → ℤ). f i) p ∙ bal.each i l u ∙ sym (ap (λ (ls : List Line). sum_of (lines_for i (ls ++ told h))) none);
}
