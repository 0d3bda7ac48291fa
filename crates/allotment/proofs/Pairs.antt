-- Each bid stands beside what it gets, which is at most what it names.
use Rattle.std.proofs.Common.{◌≡◌, ℕ, ◌-◌, ◌*◌, ◌≤◌, List, [], ◌∷◌, ◌++◌, map, length, refl, ap, ◌∙◌, subst, ap₂, arith, length-append}
use Rattle.std.specs.List.{AllZip, AllByRecursion}
use Rattle.std.proofs.ByRecursion.{All-map, All-weaker, All-append}
use Rattle.std.proofs.lemmas.List.{length-map, map-append}
use Rattle.tie_rules.specs.Sharing.{Sharing}
use Rattle.rules.specs.declared.auction.Bid.{Bid}
use Rattle.rules.specs.declared.auction.Terms.{Terms}
use Rattle.rules.specs.Allotment.{named, prices, Got, paired, served, allot, allotted}
use Rattle.rules.specs.Books.{total}
use Rattle.rules.proofs.Allotment.{Served, served-ok, paired-of, paired-within, prices-all, prices-flat, flat}
use Rattle.allotment.specs.Allotting.{dollars_of}
use Rattle.allotment.proofs.Ranges.{Ranged}

-- what a group of bids in range is served
pub group_served : (T : Sharing) (left : ℕ) (g : List Bid) → length g ≤ 64 → left ≤ 2000000000 → AllByRecursion Ranged g → Served left (map named g) (served T left (map named g))
group_served T left g few most sound =
    served-ok T left (map named g) (omega (arith, length-map g named)) (All-map (λ a. (1 ≤ a) × (a ≤ 2000000000)) named g (All-weaker Ranged (λ x. (1 ≤ named x) × (named x ≤ 2000000000)) (λ x r. omega arith) g sound)) most

-- groups that are allotted: whose the dollars are, and how many
record Shared (gs : List (List Bid)) (out : List Got) : Type 0 where
  whose : map (λ x. x.of) out ≡ flat gs
  no_more : AllByRecursion (λ x. x.dollars ≤ named x.of) out

shared : (T : Sharing) (left : ℕ) (gs : List (List Bid)) → left ≤ 2000000000 → length (flat gs) ≤ 64 → AllByRecursion (AllByRecursion Ranged) gs → Shared gs (allot T left gs)
shared T left [] most few sound = record { whose = refl; no_more = tt }
shared T left (g ∷ gs) most few sound =
    let len = length-append g (flat gs) in
    let ok = group_served T left g (omega arith) most sound.0 in
    let ds = served T left (map named g) in
    let rest = shared T (left - total (map named g)) gs (omega arith) (omega arith) sound.1 in
    record {
      whose = map-append (λ x. x.of) (paired g ds) (allot T (left - total (map named g)) gs) ∙ ap₂ (λ x y. x ++ y) (paired-of g ds ok.within) rest.whose;
      no_more = All-append (λ x. x.dollars ≤ named x.of) (paired g ds) (allot T (left - total (map named g)) gs) (paired-within g ds ok.within) rest.no_more;
    }

pairs : (out : List Got) → out ≡ paired (map (λ x. x.of) out) (map (λ x. x.dollars) out)
pairs [] = refl
pairs (x ∷ out) = ap (λ ys. x ∷ ys) (pairs out)

each_dollars : (out : List Got) → AllByRecursion (λ x. x.dollars ≤ named x.of) out → AllZip ◌≤◌ (map (λ x. x.dollars) out) (map named (map (λ x. x.of) out))
each_dollars [] h = tt
each_dollars (x ∷ out) h = (h.0, each_dollars out h.1)

module _ (T : Sharing) (t : Terms) (xs : List Bid) (most : t.offer ≤ 2000) (few : length xs ≤ 64) (sound : AllByRecursion Ranged xs) where
  whole : Shared (prices xs) (allotted T t xs)
  whole = shared T (1000000 * t.offer) (prices xs) (omega arith) (omega (arith, ap length (prices-flat xs))) (prices-all Ranged xs sound)

  -- the bids, each with its dollars
  pub allotted-paired : allotted T t xs ≡ paired xs (dollars_of T t.offer xs)
  allotted-paired = pairs (allotted T t xs) ∙ ap (λ ys. paired ys (dollars_of T t.offer xs)) (whole.whose ∙ prices-flat xs)

  -- none gets more than it names
  pub dollars_within : AllZip ◌≤◌ (dollars_of T t.offer xs) (map named xs)
  dollars_within = subst (λ (ys : List Bid). AllZip ◌≤◌ (dollars_of T t.offer xs) (map named ys)) (whole.whose ∙ prices-flat xs) (each_dollars (allotted T t xs) whole.no_more)
