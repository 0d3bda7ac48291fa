-- The bids at one price: what they name, and what they get.
use Rattle.std.proofs.Common.{◌≡◌, ℕ, ◌<◌, ◌≤◌, true, false, eqb, ltb, leb, List, map, length, None, sum, arith}
use Rattle.std.specs.List.{list_all}
use Rattle.std.proofs.ByRecursion.{All-map, All-weaker}
use Rattle.std.proofs.lemmas.Bool.{le-ltb, eq-eqb, lt-leb}
use Rattle.std.proofs.lemmas.Bool.Decides.{nat_tests}
use Rattle.tie_rules.specs.Sharing.{is_dollars, refusal}
use Rattle.rules.proofs.Allotment.{sum-total, dollars_in_range}
use Rattle.rules.specs.declared.auction.Bid.{Bid}
use Rattle.rules.specs.Allotment.{named}
use Rattle.rules.specs.Books.{total}
use Rattle.allotment.specs.Allotting.{in_range}
use Rattle.allotment.proofs.Ranges.{Ranged, ranged}

-- what bids in range name are amounts that a tie rule takes
pub named-range : (xs : List Bid) → list_all in_range xs ≡ true → list_all is_dollars (map named xs) ≡ true
named-range xs e = dollars_in_range (map named xs) (All-map (λ a. (1 ≤ a) × (a ≤ 2000000000)) named xs (All-weaker Ranged (λ x. (1 ≤ named x) × (named x ≤ 2000000000)) (λ x r. omega arith) xs (ranged xs e)))

-- a tie is not refused
pub tie-shared : (amounts : List ℕ) (left places : ℕ) → length amounts ≤ 64 → length amounts ≡ places → list_all is_dollars amounts ≡ true → 1 ≤ left → left ≤ 2000000000 → left < total amounts → refusal amounts left places ≡ None
tie-shared amounts left places few placed ranged some most short =
    let a : ltb 64 (length amounts) ≡ false = le-ltb 64 (length amounts) few in
    let b : eqb (length amounts) places ≡ true = eq-eqb (length amounts) places placed in
    let d : is_dollars left ≡ true = grind (arith, nat_tests) in
    let e : leb (sum amounts) left ≡ false = lt-leb (sum amounts) left (omega (arith, sum-total amounts)) in
    rw (a, b, ranged, d, e)
