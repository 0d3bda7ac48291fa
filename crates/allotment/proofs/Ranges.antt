-- Bids whose millions are in range name as many dollars as a tie rule may be asked for.
use Rattle.std.proofs.Common.{◌≡◌, ℕ, zero, suc, ◌≤◌, true, List, [], ◌∷◌, take, drop, pos, refl, arith}
use lib.Signed.{le_z}
use Rattle.std.specs.List.{AllByRecursion, list_all}
use Rattle.std.proofs.lemmas.Int.{ints}
use Rattle.std.proofs.lemmas.Bool.{and_parts, and_from}
use Rattle.rules.specs.declared.auction.Bid.{Bid}
use Rattle.allotment.specs.Allotting.{in_range}

-- what a bid in range names
abbrev pub Ranged : Bid → Type 0
Ranged x = (1 ≤ x.millions) × (x.millions ≤ 2000)

pub ranged : (xs : List Bid) → list_all in_range xs ≡ true → AllByRecursion Ranged xs
ranged [] e = tt
ranged (x ∷ xs) e =
    let p = and_parts (in_range x) (list_all in_range xs) e in
    let q = and_parts (le_z (pos 1) (pos x.millions)) (le_z (pos x.millions) (pos 2000)) p.0 in
    let low = q.0 in
    let high = q.1 in
    ((omega (arith, ints), omega (arith, ints)), ranged xs p.1)

-- a part of bids in range is in range
pub range_take : (n : ℕ) (xs : List Bid) → list_all in_range xs ≡ true → list_all in_range (take n xs) ≡ true
range_take zero xs e = refl
range_take (suc n) [] e = refl
range_take (suc n) (x ∷ xs) e = let p = and_parts (in_range x) (list_all in_range xs) e in and_from (in_range x) (list_all in_range (take n xs)) p.0 (range_take n xs p.1)

pub range_drop : (n : ℕ) (xs : List Bid) → list_all in_range xs ≡ true → list_all in_range (drop n xs) ≡ true
range_drop zero xs e = e
range_drop (suc n) [] e = refl
range_drop (suc n) (x ∷ xs) e = range_drop n xs (and_parts (in_range x) (list_all in_range xs) e).1
