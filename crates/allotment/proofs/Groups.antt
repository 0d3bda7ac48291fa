-- The first group of the prices, and how many bids it has.
use Rattle.std.proofs.Common.{◌≡◌, ℕ, zero, suc, ◌<◌, ◌≤◌, Bool, true, false, cond, not, List, [], ◌∷◌, ◌++◌, length, take, drop, ℤ, sym, refl, ap, ◌∙◌, arith, length-append}
use lib.Signed.{lt_z, le_z}
use Rattle.std.specs.List.{IsChunkByPrefix}
use Rattle.std.proofs.lemmas.Int.{ints}
use Rattle.std.proofs.Math.Seq.{take-append_seam}
use native.Mathlib.Numerals.{unary_clauses}
use Rattle.rules.specs.declared.auction.Bid.{Bid}
use Rattle.rules.specs.Allotment.{joined_to, prices}
use Rattle.allotment.specs.Groups.{level_with, group_size}

-- the first group is the bids level with the first
pub prices-first : (x : Bid) (xs : List Bid) → prices (x ∷ xs) ≡ (x ∷ take (level_with x xs) xs) ∷ prices (drop (level_with x xs) xs)
prices-first x [] = refl
prices-first x (y ∷ ys) = ap (joined_to x) (prices-first y ys) ∙ go (lt_z y.price x.price) (prices-first y ys)
  where
    go : (t : Bool) → prices (y ∷ ys) ≡ (y ∷ take (level_with y ys) ys) ∷ prices (drop (level_with y ys) ys) → cond t ((x ∷ []) ∷ (y ∷ take (level_with y ys) ys) ∷ prices (drop (level_with y ys) ys)) ((x ∷ y ∷ take (level_with y ys) ys) ∷ prices (drop (level_with y ys) ys)) ≡ (x ∷ take (cond t 0 (suc (level_with y ys))) (y ∷ ys)) ∷ prices (drop (cond t 0 (suc (level_with y ys))) (y ∷ ys))
    go true e = ap (λ gs. (x ∷ []) ∷ gs) (sym e)
    go false e = refl

-- the same of any bids that are not none
pub prices-group : (xs : List Bid) → 0 < length xs → prices xs ≡ take (group_size xs) xs ∷ prices (drop (group_size xs) xs)
prices-group [] some = absurd (omega arith)
prices-group (x ∷ xs) some = prices-first x xs

-- neighbours at one price, the second not lower
abbrev pub level : Bid → Bid → Bool
level x y = le_z x.price y.price

lower : (x y : ℤ) → lt_z y x ≡ not (le_z x y)
lower x y = grind (arith, ints)

level_sized : (x : Bid) (xs : List Bid) (n : ℕ) → n ≤ length xs → IsChunkByPrefix level (x ∷ xs) (suc n) → n ≡ level_with x xs
level_sized x [] n l p = omega arith
level_sized x (y ∷ ys) zero l p = sym (ap (λ t. cond t 0 (suc (level_with y ys))) (lower x.price y.price ∙ ap not (p.1 (omega arith) x)))
level_sized x (y ∷ ys) (suc n) l p =
    let rest : IsChunkByPrefix level (y ∷ ys) (suc n) = (λ k d h. simp unary_clauses (simp unary_clauses at (p.0 (suc k) d (omega arith))), λ h d. simp unary_clauses (simp unary_clauses at (p.1 (omega arith) d))) in
    ap suc (level_sized y ys n (omega arith) rest) ∙ sym (ap (λ t. cond t 0 (suc (level_with y ys))) (lower x.price y.price ∙ ap not (p.0 0 x (omega arith))))

-- the longest run of neighbours at one price is the first group
pub group_sized : (xs : List Bid) (n : ℕ) → 0 < n → n ≤ length xs → IsChunkByPrefix level xs n → n ≡ group_size xs
group_sized [] n some l p = absurd (omega arith)
group_sized (x ∷ xs) zero some l p = absurd (omega arith)
group_sized (x ∷ xs) (suc n) some l p = ap suc (level_sized x xs n (omega arith) p)

level_most : (x : Bid) (xs : List Bid) → level_with x xs ≤ length xs
level_most x [] = omega arith
level_most x (y ∷ ys) = go (lt_z y.price x.price) (level_most y ys)
  where
    go : (t : Bool) → level_with y ys ≤ length ys → cond t 0 (suc (level_with y ys)) ≤ suc (length ys)
    go true ih = omega arith
    go false ih = omega arith

pub group_most : (xs : List Bid) → group_size xs ≤ length xs
group_most [] = omega arith
group_most (x ∷ xs) = omega (arith, level_most x xs)

-- the same of a run that the bids begin with
pub group_run : (xs ys rest : List Bid) → xs ≡ ys ++ rest → 0 < length ys → IsChunkByPrefix level xs (length ys) → ys ≡ take (group_size xs) xs
group_run xs ys rest e some p =
    let n : length ys ≤ length xs = omega (arith, ap length e, length-append ys rest) in
    sym (take-append_seam ys rest) ∙ ap (take (length ys)) (sym e) ∙ ap (λ m. take m xs) (group_sized xs (length ys) some n p)
