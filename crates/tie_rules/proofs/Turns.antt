-- One turn of each loop. Assumes nothing.
use Rattle.std.proofs.Common.{◌≡◌, ℕ, ◌+◌, ◌-◌, ◌*◌, ◌/◌, ◌<◌, ◌≤◌, true, leb, List, [], ◌∷◌, length, get_or, take, set, sum, arith}
use Rattle.std.specs.List.{AllByRecursion, list_all}
use Rattle.std.proofs.lemmas.List.{take_more_set, map_more}
use Rattle.std.proofs.lemmas.Bool.{and_parts, leb-true}
use Rattle.std.proofs.lemmas.List.Sums.{sum-map, sum_by_more, sum_by-take-le}
use Rattle.tie_rules.specs.Rules.{parts}
use Rattle.tie_rules.specs.Meanings.{missing, part_less}
use Rattle.tie_rules.specs.Sharing.{is_dollars}

-- ---- pro rata
-- the parts of the first i amounts are written, and what they leave of the dollars is missing
pub record Written (amounts : List ℕ) (left total i rest : ℕ) (shares : List ℕ) : Type 0 where
  pub front : take i shares ≡ parts left total (take i amounts)
  pub dollars : rest + sum (parts left total (take i amounts)) ≡ left

parts-sum_more : (left total : ℕ) (amounts : List ℕ) (i : ℕ) → i < length amounts → sum (parts left total (take (i + 1) amounts)) ≡ sum (parts left total (take i amounts)) + left * get_or amounts i 0 / total
parts-sum_more left total amounts i la =
    omega (arith, sum-map (λ a. left * a / total) (take (i + 1) amounts), sum_by_more (λ a. left * a / total) amounts i 0 la, sum-map (λ a. left * a / total) (take i amounts))

-- the part of the next amount is still there to give
pub written-room : (amounts : List ℕ) (left total i rest : ℕ) (shares : List ℕ) → total ≡ sum amounts → left < total → i < length amounts → Written amounts left total i rest shares → left * get_or amounts i 0 / total ≤ rest
written-room amounts left total i rest shares is less la w =
    omega (arith, (missing left total amounts is less).none_over, parts-sum_more left total amounts i la, sum-map (λ a. left * a / total) (take (i + 1) amounts), sum_by-take-le (λ a. left * a / total) amounts (i + 1), sum-map (λ a. left * a / total) amounts)

pub written-more : (amounts : List ℕ) (left total i rest : ℕ) (shares : List ℕ) (part : ℕ) → i < length amounts → i < length shares → part ≡ left * get_or amounts i 0 / total → part ≤ rest → Written amounts left total i rest shares → Written amounts left total (i + 1) (rest - part) (set shares i part)
written-more amounts left total i rest shares part la ls is room w =
    let t = take_more_set shares i part ls in
    let m = map_more (λ a. left * a / total) amounts i 0 la in
    let f : take (i + 1) (set shares i part) ≡ parts left total (take (i + 1) amounts) = cc w.front in
    record { front = f; dollars = omega (arith, parts-sum_more left total amounts i la, w.dollars) }

-- the parts of a tie are below 2,000,000,000 dollars, so that one more still fits
pub parts-small : (left total : ℕ) (amounts : List ℕ) → left < total → list_all is_dollars amounts ≡ true → AllByRecursion (λ s. s < 2000000000) (parts left total amounts)
parts-small left total [] less each = tt
parts-small left total (a ∷ amounts) less each =
    let b = and_parts (is_dollars a) (list_all is_dollars amounts) each in
    let d = and_parts (leb 1 a) (leb a 2000000000) b.0 in
    (omega (arith, part_less left total a less (leb-true 1 a d.0), leb-true a 2000000000 d.1), parts-small left total amounts less b.1)
