-- (c): the allotment of an auction's bids, over every tie rule.
use Rattle.std.proofs.Common.{◌≡◌, ℕ, suc, ◌+◌, ◌-◌, ◌*◌, ◌<◌, ◌≤◌, min, Bool, true, false, cond, eqb, leb, List, [], ◌∷◌, ◌++◌, map, length, ℤ, ◌≤ℤ◌, ◌<ℤ◌, sum, sym, refl, ap, ◌∙◌, subst, ap₂, arith, length-append}
use lib.Signed.{lt_z}
use Rattle.std.proofs.lemmas.Int.{ints}
use Rattle.std.proofs.lemmas.Bool.{leb-true, leb-false, eqb-true, eqb-false}
use Rattle.std.proofs.lemmas.List.{map-append, length-map}
use Rattle.std.proofs.ByRecursion.{All-append, All-weaker, All-map}
use Rattle.std.specs.List.{AllZip, flat_map, AllByRecursion, list_all}
use Rattle.std.proofs.lemmas.List.Sums.{sum_by-cons}
use Rattle.rules.specs.declared.auction.Bid.{Bid}
use Rattle.rules.specs.declared.auction.Terms.{Terms}
use Rattle.tie_rules.specs.Sharing.{Sharing, Tied, is_dollars}
use Rattle.rules.specs.Books.{total}
use Rattle.rules.specs.Allotment.{named, entered, joined_to, prices, Got, paired, served, allot, allotted}
use Rattle.rules.specs.Law.{Allotted}

-- what the tests of a bid leave
abbrev pub Sound : Bid → Type 0
Sound x = (1 ≤ x.institution) × (x.institution < 17) × (1 ≤ x.millions) × (x.millions ≤ 2000)

-- ---- falling prices
abbrev pub Sorted : List Bid → Type 0
Sorted [] = Unit {0}
Sorted (x ∷ xs) = AllByRecursion (λ y. y.price ≤ℤ x.price) xs × Sorted xs

abbrev Falling : List (List Bid) → Type 0
Falling [] = Unit {0}
Falling (g ∷ gs) = (p : ℤ) × AllByRecursion (λ x. x.price ≡ p) g × AllByRecursion (AllByRecursion (λ y. y.price ≤ℤ p)) gs × Falling gs

pub entered_all : (Q : Bid → Type 0) (x : Bid) (xs : List Bid) → Q x → AllByRecursion Q xs → AllByRecursion Q (entered x xs)
entered_all Q x [] q h = (q, tt)
entered_all Q x (y ∷ ys) q h = go (lt_z y.price x.price) (entered_all Q x ys q h.1)
  where
    go : (t : Bool) → AllByRecursion Q (entered x ys) → AllByRecursion Q (cond t (x ∷ y ∷ ys) (y ∷ entered x ys))
    go true ih = (q, h)
    go false ih = (h.0, ih)

pub entered-sorted : (x : Bid) (xs : List Bid) → Sorted xs → Sorted (entered x xs)
entered-sorted x [] h = (tt, tt)
entered-sorted x (y ∷ ys) h = go (lt_z y.price x.price) refl (entered-sorted x ys h.1)
  where
    go : (t : Bool) → lt_z y.price x.price ≡ t → Sorted (entered x ys) → Sorted (cond t (x ∷ y ∷ ys) (y ∷ entered x ys))
    go true e ih = ((omega (arith, ints), All-weaker (λ z. z.price ≤ℤ y.price) (λ z. z.price ≤ℤ x.price) (λ z k. omega (arith, ints)) ys h.0), h)
    go false e ih = (entered_all (λ z. z.price ≤ℤ y.price) x ys (omega (arith, ints)) h.0, ih)

pub entered-length : (x : Bid) (xs : List Bid) → length (entered x xs) ≡ suc (length xs)
entered-length x [] = refl
entered-length x (y ∷ ys) = go (lt_z y.price x.price) (entered-length x ys)
  where
    go : (t : Bool) → length (entered x ys) ≡ suc (length ys) → length (cond t (x ∷ y ∷ ys) (y ∷ entered x ys)) ≡ suc (suc (length ys))
    go true ih = refl
    go false ih = ap suc ih

-- ---- the groups of one price
joined_to-all : (Q : Bid → Type 0) (x : Bid) (gs : List (List Bid)) → Q x → AllByRecursion (AllByRecursion Q) gs → AllByRecursion (AllByRecursion Q) (joined_to x gs)
joined_to-all Q x [] q h = ((q, tt), tt)
joined_to-all Q x ([] ∷ gs) q h = ((q, tt), h.1)
joined_to-all Q x ((y ∷ ys) ∷ gs) q h = go (lt_z y.price x.price)
  where
    go : (t : Bool) → AllByRecursion (AllByRecursion Q) (cond t ((x ∷ []) ∷ (y ∷ ys) ∷ gs) ((x ∷ y ∷ ys) ∷ gs))
    go true = ((q, tt), h)
    go false = ((q, h.0), h.1)

pub prices-all : (Q : Bid → Type 0) (xs : List Bid) → AllByRecursion Q xs → AllByRecursion (AllByRecursion Q) (prices xs)
prices-all Q [] h = tt
prices-all Q (x ∷ xs) h = joined_to-all Q x (prices xs) h.0 (prices-all Q xs h.1)

joined_to-falling : (x : Bid) (gs : List (List Bid)) → AllByRecursion (AllByRecursion (λ y. y.price ≤ℤ x.price)) gs → Falling gs → Falling (joined_to x gs)
joined_to-falling x [] u h = (x.price, (refl, tt), tt, tt)
joined_to-falling x ([] ∷ gs) u h = (x.price, (refl, tt), u.1, h.3)
joined_to-falling x ((y ∷ ys) ∷ gs) u h = go (lt_z y.price x.price) refl
  where
    go : (t : Bool) → lt_z y.price x.price ≡ t → Falling (cond t ((x ∷ []) ∷ (y ∷ ys) ∷ gs) ((x ∷ y ∷ ys) ∷ gs))
    go true e = (x.price, (refl, tt), u, h)
    go false e = let same : x.price ≡ y.price = omega (arith, ints, u.0.0) in (h.0, (same ∙ h.1.0, h.1), h.2, h.3)

prices-falling : (xs : List Bid) → Sorted xs → Falling (prices xs)
prices-falling [] h = tt
prices-falling (x ∷ xs) h = joined_to-falling x (prices xs) (prices-all (λ y. y.price ≤ℤ x.price) xs h.0) (prices-falling xs h.1)

abbrev pub flat : List (List Bid) → List Bid
flat = flat_map (λ g. g)

joined_to-flat : (x : Bid) (gs : List (List Bid)) → flat (joined_to x gs) ≡ x ∷ flat gs
joined_to-flat x [] = refl
joined_to-flat x ([] ∷ gs) = refl
joined_to-flat x ((y ∷ ys) ∷ gs) = go (lt_z y.price x.price)
  where
    go : (t : Bool) → flat (cond t ((x ∷ []) ∷ (y ∷ ys) ∷ gs) ((x ∷ y ∷ ys) ∷ gs)) ≡ x ∷ flat ((y ∷ ys) ∷ gs)
    go true = refl
    go false = refl

pub prices-flat : (xs : List Bid) → flat (prices xs) ≡ xs
prices-flat [] = refl
prices-flat (x ∷ xs) = joined_to-flat x (prices xs) ∙ ap (λ ys. x ∷ ys) (prices-flat xs)

-- ---- one price
pub total-append : (xs ys : List ℕ) → total (xs ++ ys) ≡ total xs + total ys
total-append [] ys = omega arith
total-append (x ∷ xs) ys = omega (arith, total-append xs ys)

each_same : (xs : List ℕ) → AllZip ◌≤◌ xs xs
each_same [] = tt
each_same (x ∷ xs) = (omega arith, each_same xs)

each_zero : (xs : List ℕ) → AllZip ◌≤◌ (map (λ _. 0) xs) xs
each_zero [] = tt
each_zero (x ∷ xs) = (omega arith, each_zero xs)

total-zero : (xs : List ℕ) → total (map (λ _. 0) xs) ≡ 0
total-zero [] = refl
total-zero (x ∷ xs) = omega (arith, total-zero xs)

pub record Served (left : ℕ) (amounts given : List ℕ) : Type 0 where
  pub within : AllZip ◌≤◌ given amounts
  pub whole : total given ≡ min left (total amounts)
  pub full : total amounts ≤ left → given ≡ amounts

-- the words of the tie rules
pub sum-total : (xs : List ℕ) → sum xs ≡ total xs
sum-total [] = refl
sum-total (x ∷ xs) = omega (arith, sum_by-cons (λ a. a) x xs, sum-total xs)

pub dollars_in_range : (amounts : List ℕ) → AllByRecursion (λ a. (1 ≤ a) × (a ≤ 2000000000)) amounts → list_all is_dollars amounts ≡ true
dollars_in_range [] h = refl
dollars_in_range (a ∷ amounts) h = let one : is_dollars a ≡ true = grind (arith, h.0) in rw one (dollars_in_range amounts h.1)

pub served-ok : (T : Sharing) (left : ℕ) (amounts : List ℕ) → length amounts ≤ 64 → AllByRecursion (λ a. (1 ≤ a) × (a ≤ 2000000000)) amounts → left ≤ 2000000000 → Served left amounts (served T left amounts)
served-ok T left amounts few range most = go (leb (total amounts) left) refl (eqb left 0) refl
  where
    go : (t : Bool) → leb (total amounts) left ≡ t → (u : Bool) → eqb left 0 ≡ u → Served left amounts (cond t amounts (cond u (map (λ _. 0) amounts) (T.shares amounts left)))
    go true e u f = let le = leb-true (total amounts) left e in record { within = each_same amounts; whole = omega arith; full = λ _. refl }
    go false e true f = let lt = leb-false (total amounts) left e in let z = eqb-true left 0 f in record { within = each_zero amounts; whole = omega (arith, total-zero amounts); full = λ k. absurd (omega arith) }
    go false e false f =
        let lt = leb-false (total amounts) left e in
        let ne = eqb-false left 0 f in
        let tied : Tied amounts left = record { few = few; each = dollars_in_range amounts range; some = omega (arith, ne); most = most; short = omega (arith, lt, sum-total amounts) } in
        record { within = T.within amounts left tied; whole = omega (arith, T.whole amounts left tied, sum-total (T.shares amounts left)); full = λ k. absurd (omega arith) }

pub paired-of : (g : List Bid) (ds : List ℕ) → AllZip ◌≤◌ ds (map named g) → map (λ x. x.of) (paired g ds) ≡ g
paired-of [] ds h = refl
paired-of (x ∷ xs) [] h = absurd h
paired-of (x ∷ xs) (d ∷ ds) h = ap (λ ys. x ∷ ys) (paired-of xs ds h.1)

pub paired-dollars : (g : List Bid) (ds : List ℕ) → AllZip ◌≤◌ ds (map named g) → map (λ x. x.dollars) (paired g ds) ≡ ds
paired-dollars [] [] h = refl
paired-dollars [] (d ∷ ds) h = absurd h
paired-dollars (x ∷ xs) [] h = absurd h
paired-dollars (x ∷ xs) (d ∷ ds) h = ap (λ ys. d ∷ ys) (paired-dollars xs ds h.1)

pub paired-within : (g : List Bid) (ds : List ℕ) → AllZip ◌≤◌ ds (map named g) → AllByRecursion (λ x. x.dollars ≤ named x.of) (paired g ds)
paired-within [] ds h = tt
paired-within (x ∷ xs) [] h = tt
paired-within (x ∷ xs) (d ∷ ds) h = (h.0, paired-within xs ds h.1)

paired-full : (g : List Bid) → AllByRecursion (λ x. x.dollars ≡ named x.of) (paired g (map named g))
paired-full [] = tt
paired-full (x ∷ xs) = (refl, paired-full xs)

paired-all : (Q : Bid → Type 0) (g : List Bid) (ds : List ℕ) → AllByRecursion Q g → AllByRecursion (λ x. Q x.of) (paired g ds)
paired-all Q [] ds h = tt
paired-all Q (x ∷ xs) [] h = tt
paired-all Q (x ∷ xs) (d ∷ ds) h = (h.0, paired-all Q xs ds h.1)

all_zero : (gs : List Got) → total (map (λ x. x.dollars) gs) ≡ 0 → AllByRecursion (λ x. x.dollars ≡ 0) gs
all_zero [] e = tt
all_zero (x ∷ xs) e = (omega arith, all_zero xs (omega arith))

-- ---- all prices
abbrev Lower : Got → Got → Type 0
Lower x y = x.dollars < named x.of → y.of.price <ℤ x.of.price → y.dollars ≡ 0

record Good (left : ℕ) (gs : List (List Bid)) (out : List Got) : Type 0 where
  whose : map (λ x. x.of) out ≡ flat gs
  whole : total (map (λ x. x.dollars) out) ≡ min left (total (map named (flat gs)))
  no_more : AllByRecursion (λ x. x.dollars ≤ named x.of) out
  no_lower : AllByRecursion (λ x. AllByRecursion (Lower x) out) out

-- A, the bids at the first price p, above B, the rest: each of A got all that it named, or B got nought
good_join : (left : ℕ) (g : List Bid) (gs : List (List Bid)) (A B : List Got) (p : ℤ)
    → map (λ x. x.of) A ≡ g → total (map (λ x. x.dollars) A) ≡ min left (total (map named g)) → AllByRecursion (λ x. x.dollars ≤ named x.of) A
    → (total (map named g) ≤ left → AllByRecursion (λ x. x.dollars ≡ named x.of) A)
    → AllByRecursion (λ x. x.of.price ≡ p) A → AllByRecursion (λ y. y.of.price ≤ℤ p) B
    → Good (left - total (map named g)) gs B → Good left (g ∷ gs) (A ++ B)
good_join left g gs A B p of whole within full level under good = record {
  whose = map-append (λ x. x.of) A B ∙ ap₂ (λ x y. x ++ y) of good.whose;
  whole = ap total (map-append (λ x. x.dollars) A B) ∙ total-append (map (λ x. x.dollars) A) (map (λ x. x.dollars) B)
      ∙ sums (total (map (λ x. x.dollars) A)) (total (map (λ x. x.dollars) B)) (total (map named g)) (total (map named (flat gs))) whole good.whole
      ∙ ap (min left) (sym (ap total (map-append named g (flat gs)) ∙ total-append (map named g) (map named (flat gs))));
  no_more = All-append (λ x. x.dollars ≤ named x.of) A B within good.no_more;
  no_lower = All-append (λ x. AllByRecursion (Lower x) (A ++ B)) A B (above (leb (total (map named g)) left) refl)
      (both_below B under good.no_lower);
}
  where
    sums : (a b m n : ℕ) → a ≡ min left m → b ≡ min (left - m) n → a + b ≡ min left (m + n)
    sums a b m n e f = omega arith

    -- y is of A, at the price p, and x is not above it
    a_not_lower : (x : Got) → x.of.price ≤ℤ p → AllByRecursion (Lower x) A
    a_not_lower x u = All-weaker (λ y. y.of.price ≡ p) (Lower x) (λ y e s l. absurd (omega (arith, ints))) A level

    both_below : (C : List Got) → AllByRecursion (λ y. y.of.price ≤ℤ p) C → AllByRecursion (λ x. AllByRecursion (Lower x) B) C → AllByRecursion (λ x. AllByRecursion (Lower x) (A ++ B)) C
    both_below [] u h = tt
    both_below (x ∷ xs) u h = (All-append (Lower x) A B (a_not_lower x u.0) h.0, both_below xs u.1 h.1)

    none_short : (C : List Got) → AllByRecursion (λ x. x.of.price ≡ p) C → AllByRecursion (λ x. x.dollars ≡ named x.of) C → AllByRecursion (λ x. AllByRecursion (Lower x) (A ++ B)) C
    none_short [] u h = tt
    none_short (x ∷ xs) u h = (anything (A ++ B), none_short xs u.1 h.1)
      where
        anything : (ys : List Got) → AllByRecursion (Lower x) ys
        anything [] = tt
        anything (y ∷ ys) = ((λ s l. absurd (omega (arith, h.0))), anything ys)

    none_left : (C : List Got) → AllByRecursion (λ x. x.of.price ≡ p) C → AllByRecursion (λ y. y.dollars ≡ 0) B → AllByRecursion (λ x. AllByRecursion (Lower x) (A ++ B)) C
    none_left [] u z = tt
    none_left (x ∷ xs) u z = (All-append (Lower x) A B (a_not_lower x (omega (arith, ints, u.0))) (All-weaker (λ y. y.dollars ≡ 0) (Lower x) (λ y e s l. e) B z), none_left xs u.1 z)

    above : (t : Bool) → leb (total (map named g)) left ≡ t → AllByRecursion (λ x. AllByRecursion (Lower x) (A ++ B)) A
    above true e = none_short A level (full (leb-true (total (map named g)) left e))
    above false e = none_left A level (all_zero B (let lt = leb-false (total (map named g)) left e in omega (arith, good.whole)))

allot-all : (T : Sharing) (left : ℕ) (Q : Bid → Type 0) (gs : List (List Bid)) → AllByRecursion (AllByRecursion Q) gs → AllByRecursion (λ x. Q x.of) (allot T left gs)
allot-all T left Q [] h = tt
allot-all T left Q (g ∷ gs) h = All-append (λ x. Q x.of) (paired g (served T left (map named g))) (allot T (left - total (map named g)) gs)
    (paired-all Q g (served T left (map named g)) h.0) (allot-all T (left - total (map named g)) Q gs h.1)

allot-good : (T : Sharing) (left : ℕ) (gs : List (List Bid)) → left ≤ 2000000000 → length (flat gs) ≤ 64 → AllByRecursion (AllByRecursion Sound) gs → Falling gs → Good left gs (allot T left gs)
allot-good T left [] most few sound fall = record { whose = refl; whole = omega arith; no_more = tt; no_lower = tt }
allot-good T left (g ∷ gs) most few sound fall =
    let len = length-append g (flat gs) in
    let ok : Served left (map named g) (served T left (map named g)) =
    served-ok T left (map named g) (omega (arith, length-map g named))
    (All-map (λ a. (1 ≤ a) × (a ≤ 2000000000)) named g (All-weaker Sound (λ x. (1 ≤ named x) × (named x ≤ 2000000000)) (λ x s. omega (arith, s.2, s.3)) g sound.0)) most in
    let ds = served T left (map named g) in
    good_join left g gs (paired g ds) (allot T (left - total (map named g)) gs) fall.0
    (paired-of g ds ok.within) (ap total (paired-dollars g ds ok.within) ∙ ok.whole) (paired-within g ds ok.within)
    (λ k. subst (λ (es : List ℕ). AllByRecursion (λ x. x.dollars ≡ named x.of) (paired g es)) (sym (ok.full k)) (paired-full g))
    (paired-all (λ x. x.price ≡ fall.0) g ds fall.1) (allot-all T (left - total (map named g)) (λ y. y.price ≤ℤ fall.0) gs fall.2)
    (allot-good T (left - total (map named g)) gs (omega arith) (omega arith) sound.1 fall.3)

-- what the rule gives keeps (c), over every tie rule
pub allotted-keeps : (T : Sharing) (t : Terms) (xs : List Bid) → t.offer ≤ 2000 → length xs ≤ 64 → AllByRecursion Sound xs → Sorted xs → Allotted t.offer xs (allotted T t xs)
allotted-keeps T t xs most few sound sorted =
    let f = prices-flat xs in
    let good = allot-good T (1000000 * t.offer) (prices xs) (omega arith) (omega (arith, ap length f)) (prices-all Sound xs sound) (prices-falling xs sorted) in
    record { whose = good.whose ∙ f; whole = good.whole ∙ ap (λ ys. min (1000000 * t.offer) (total (map named ys))) f; no_more = good.no_more; no_lower = good.no_lower }

-- what holds of each bid holds of each that got something
pub allotted-all : (T : Sharing) (t : Terms) (Q : Bid → Type 0) (xs : List Bid) → AllByRecursion Q xs → AllByRecursion (λ x. Q x.of) (allotted T t xs)
allotted-all T t Q xs h = allot-all T (1000000 * t.offer) Q (prices xs) (prices-all Q xs h)
