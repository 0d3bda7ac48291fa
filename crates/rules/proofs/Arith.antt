-- Rounding, nearness and the distributive law.
use Rattle.std.proofs.Common.{◌≡◌, ℕ, suc, ◌+◌, ◌*◌, ◌≤◌, ℤ, pos, negsuc, ◌+ℤ◌, ◌-ℤ◌, ◌*ℤ◌, nat_abs, ap, ◌∙◌, arith}
use borrow.Author.Differences.{up, down, same_in, sum_is_lem, product_is}
use Rattle.std.proofs.lemmas.Int.{ints}
use Rattle.terms.specs.Rounding.{rounded}
use Rattle.rules.specs.Law.{near}

-- a hundred times a rounded hundredth is within fifty
pub rounded-near : (z : ℤ) → near 50 (pos 100 *ℤ rounded z) z
rounded-near (pos n) = omega (arith, ints)
rounded-near (negsuc n) = omega (arith, ints)

pub near_none : (d : ℤ) (x : ℤ) → near 0 (pos 100 *ℤ pos 0) (d *ℤ (x -ℤ x))
near_none d x = let e : x -ℤ x ≡ pos 0 = omega (arith, ints) in let z : d *ℤ (x -ℤ x) ≡ pos 0 = ap (λ y. d *ℤ y) e ∙ omega (arith, ints) in omega (arith, ints)

pub dist : (d x y : ℤ) → d *ℤ (x +ℤ y) ≡ (d *ℤ x) +ℤ (d *ℤ y)
dist d x y = same_in (d *ℤ (x +ℤ y)) ((d *ℤ x) +ℤ (d *ℤ y))
    (let u : up d * (up (x +ℤ y) + down x + down y) ≡ up d * (down (x +ℤ y) + up x + up y) = ap (λ n. up d * n) (sum_is_lem x y) in
    let v : down d * (up (x +ℤ y) + down x + down y) ≡ down d * (down (x +ℤ y) + up x + up y) = ap (λ n. down d * n) (sum_is_lem x y) in
    omega (arith, product_is d (x +ℤ y), product_is d x, product_is d y, sum_is_lem (d *ℤ x) (d *ℤ y)))

-- one more line l, for the rise from s to r
pub near-more : (n : ℕ) (d l sum a s r : ℤ) → near (50 * n) (pos 100 *ℤ sum) (d *ℤ (s -ℤ a)) → near 50 (pos 100 *ℤ l) (d *ℤ (r -ℤ s)) → near (50 * suc n) (pos 100 *ℤ (l +ℤ sum)) (d *ℤ (r -ℤ a))
near-more n d l sum a s r h k =
    let e : r -ℤ a ≡ (r -ℤ s) +ℤ (s -ℤ a) = omega (arith, ints) in
    let f : d *ℤ (r -ℤ a) ≡ (d *ℤ (r -ℤ s)) +ℤ (d *ℤ (s -ℤ a)) = ap (λ x. d *ℤ x) e ∙ dist d (r -ℤ s) (s -ℤ a) in
    more (d *ℤ (r -ℤ a)) (d *ℤ (r -ℤ s)) (d *ℤ (s -ℤ a)) f h k
  where
    more : (t u v : ℤ) → t ≡ u +ℤ v → nat_abs ((pos 100 *ℤ sum) -ℤ v) ≤ 50 * n → nat_abs ((pos 100 *ℤ l) -ℤ u) ≤ 50 → nat_abs ((pos 100 *ℤ (l +ℤ sum)) -ℤ t) ≤ 50 * suc n
    more t u v f h k = omega (arith, ints)
