-- One price after the other.
use Rattle.std.proofs.Common.{◌≡◌, ℕ, ◌+◌, ◌-◌, ◌<◌, ◌≤◌, List, ◌++◌, map, length, take, drop, sym, ap, ap₂, ◌∙◌, arith}
use borrow.Rule.Slice.PartMut.{put_mid}
use Rattle.std.specs.List.{AllByRecursion}
use Rattle.std.proofs.ByRecursion.{All-take, All-drop}
use Rattle.std.proofs.lemmas.List.{length-take, length-drop, map-append, append_assoc, drop-drop}
use Rattle.std.proofs.lemmas.Slice.{take-put_mid}
use Rattle.tie_rules.specs.Sharing.{Sharing}
use Rattle.rules.specs.declared.auction.Bid.{Bid}
use Rattle.rules.specs.Allotment.{named, prices, paired, served, allot}
use Rattle.rules.specs.Books.{total}
use Rattle.rules.proofs.Allotment.{paired-dollars}
use Rattle.allotment.specs.Allotting.{dollars_of, Fair}
use Rattle.allotment.specs.Groups.{group_size}
use Rattle.allotment.proofs.Groups.{prices-group, group_most}
use Rattle.allotment.proofs.Pairs.{group_served}
use Rattle.allotment.proofs.Ranges.{Ranged, ranged}

-- the dollars that bids get of those left
abbrev pub gets : Sharing → ℕ → List Bid → List ℕ
gets T left xs = map (λ x. x.dollars) (allot T left (prices xs))

-- the first group gets what is served to it, and the others get of what is left
pub gets-group : (T : Sharing) (left : ℕ) (xs : List Bid) → 0 < length xs → length xs ≤ 64 → left ≤ 2000000000 → AllByRecursion Ranged xs
    → gets T left xs ≡ served T left (map named (take (group_size xs) xs)) ++ gets T (left - total (map named (take (group_size xs) xs))) (drop (group_size xs) xs)
gets-group T left xs some few most sound =
    let g = take (group_size xs) xs in
    let rest = drop (group_size xs) xs in
    let ds = served T left (map named g) in
    let ok = group_served T left g (omega (arith, length-take (group_size xs) xs)) most (All-take Ranged (group_size xs) xs sound) in
    ap (λ gs. map (λ x. x.dollars) (allot T left gs)) (prices-group xs some)
    ∙ map-append (λ x. x.dollars) (paired g ds) (allot T (left - total (map named g)) (prices rest))
    ∙ ap (λ ys. ys ++ gets T (left - total (map named g)) rest) (paired-dollars g ds ok.within)

-- the bids before start have their dollars, and the others get of those left
pub record Serving (T : Sharing) (offer : ℕ) (bids : List Bid) (start left : ℕ) (dollars : List ℕ) : Type 0 where
  pub whole : take start dollars ++ gets T left (drop start bids) ≡ dollars_of T offer bids
  pub reached : start ≤ length bids
  pub most : left ≤ 2000000000

pub serving_more : (T : Sharing) (offer : ℕ) (bids : List Bid) (start left rest : ℕ) (group : List Bid) (dollars given : List ℕ) (places : ℕ) → Fair offer bids places → length dollars ≡ places
    → group ≡ take (group_size (drop start bids)) (drop start bids) → 0 < length group
    → given ≡ served T left (map named group) → rest ≡ left - total (map named group) → length given ≡ length group
    → Serving T offer bids start left dollars → Serving T offer bids (start + length group) rest (put_mid start (start + length group - start) dollars given)
serving_more T offer bids start left rest group dollars given places fair same is some gave left' long inv =
    let xs = drop start bids in
    let end = start + length group in
    let dl = length-drop start bids in
    let most = group_most xs in
    let size : length group ≡ group_size xs = omega (arith, ap length is, length-take (group_size xs) xs) in
    let one = gets-group T left xs (omega arith) (omega (arith, fair.few)) inv.most (All-drop Ranged start bids (ranged bids fair.ranged)) ∙ ap (λ ys. served T left (map named ys) ++ gets T (left - total (map named ys)) (drop (group_size xs) xs)) (sym is) in
    let back : drop (group_size xs) xs ≡ drop end bids = drop-drop (group_size xs) start bids ∙ ap (λ m. drop (start + m) bids) (sym size) in
    let front : take end (put_mid start (end - start) dollars given) ≡ take start dollars ++ given = take-put_mid start (end - start) dollars given end (omega arith) (omega (arith, fair.placed)) in
    let others : given ++ gets T rest (drop end bids) ≡ gets T left xs = ap₂ (λ ys m. ys ++ gets T m (drop end bids)) gave left' ∙ ap (λ ys. served T left (map named group) ++ gets T (left - total (map named group)) ys) (sym back) ∙ sym one in
    record {
      whole = ap (λ ys. ys ++ gets T rest (drop end bids)) front ∙ append_assoc (take start dollars) given (gets T rest (drop end bids)) ∙ ap (λ ys. take start dollars ++ ys) others ∙ inv.whole;
      reached = omega arith;
      most = omega (arith, inv.most);
    }
