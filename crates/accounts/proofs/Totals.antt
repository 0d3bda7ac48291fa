-- The sum of a list of amounts, as the list grows or changes.
use Rattle.std.proofs.Common.{◌≡◌, ℕ, zero, suc, ◌<◌, ◌≢◌, List, [], ◌∷◌, ◌++◌, length, get_or, set, ℤ, pos, ◌+ℤ◌, ◌-ℤ◌, nat_abs, arith, length-set}
use Rattle.std.proofs.lemmas.Int.{ints}
use Rattle.std.proofs.lemmas.List.{get_or-set_other}
use Rattle.accounts.specs.Postings.{Accepted, moved, total}

pub total-push : (xs : List ℤ) (y : ℤ) → total (xs ++ (y ∷ [])) ≡ total xs +ℤ y
total-push [] y = omega (arith, ints)
total-push (x ∷ xs) y = let h = total-push xs y in omega (arith, ints)

pub total-set : (xs : List ℤ) (i : ℕ) (y : ℤ) → i < length xs → total (set xs i y) +ℤ get_or xs i (pos 0) ≡ total xs +ℤ y
total-set [] i y h = absurd (omega arith)
total-set (x ∷ xs) zero y h = omega (arith, ints)
total-set (x ∷ xs) (suc i) y h = let k : i < length xs = omega arith in let t = total-set xs i y k in omega (arith, ints)

-- a posting between two parties keeps the sum of the balances
pub total-moved : (a b c : ℤ) (free : ℕ) (xs : List ℤ) → length xs ≡ 17 → Accepted a b c free → total (moved a b c xs) ≡ total xs
total-moved a b c free xs seventeen h =
    let p = nat_abs a in
    let q = nat_abs b in
    let first = set xs p (get_or xs p (pos 0) -ℤ c) in
    let i : nat_abs a < length xs = omega (arith, ints) in
    let j : nat_abs b < length first = simp length-set (omega (arith, ints)) in
    let apart : nat_abs b ≢ nat_abs a = λ e. h.apart (omega (arith, ints)) in
    let t = total-set xs p (get_or xs p (pos 0) -ℤ c) i in
    let u = total-set first q (get_or xs q (pos 0) +ℤ c) j in
    let o = get_or-set_other xs p q (get_or xs p (pos 0) -ℤ c) (pos 0) apart in
    omega (arith, ints)
