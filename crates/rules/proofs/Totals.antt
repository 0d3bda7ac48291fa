-- A total is the library's sum.
use Rattle.std.proofs.Common.{◌≡◌, ℕ, List, [], ◌∷◌, sum, refl, arith}
use Rattle.std.proofs.lemmas.List.Sums.{sum_by-cons}
use Rattle.rules.specs.Books.{total}

pub total_is-sum : (xs : List ℕ) → total xs ≡ sum xs
total_is-sum [] = refl
total_is-sum (x ∷ xs) = omega (arith, total_is-sum xs, sum_by-cons (λ s. s) x xs)
