-- Bids: where a new one goes.
use Rattle.std.proofs.Common.{◌≡◌, ℕ, suc, ◌+◌, ◌-◌, ◌⊎◌, inl, inr, ltb, Option, ◌<◌, ◌≤◌, Bool, true, false, cond, not, List, [], ◌∷◌, ◌++◌, length, take, drop, set, sym, refl, ap, ◌∙◌, arith, add_comm, length-set}
use borrow.Rule.Slice.PartMut.{put_mid, mid_of}
use lib.Signed.{lt_z}
use Rattle.std.specs.List.{position, position_or_len}
use Rattle.std.proofs.lemmas.List.{take-set-le, drop-take, drop-append-le, take_more_set, take-take, length-take-le, length-drop, length-append, drop_at, take_at}
use Rattle.std.proofs.lemmas.List.Sums.{prefix_len-le-length}
use Rattle.std.specs.Option.{unwrap_or}
use Rattle.std.proofs.lemmas.Bool.{cases_lt, lt-ltb, le-ltb}
use Rattle.std.proofs.lemmas.Slice.{take-put_mid}
use Rattle.rules.specs.declared.auction.Bid.{Bid}
use Rattle.rules.specs.Allotment.{entered}

-- how many bids stand before the first that is lower than x
abbrev pub before : Bid → List Bid → ℕ
before x xs = position_or_len (λ y. lt_z y.price x.price) xs

-- a bid goes before the first lower one
pub entered-at : (x : Bid) (xs : List Bid) → entered x xs ≡ take (before x xs) xs ++ x ∷ drop (before x xs) xs
entered-at x [] = refl
entered-at x (y ∷ ys) = go (lt_z y.price x.price) (entered-at x ys)
  where
    plus_one : (n : ℕ) → n + 1 ≡ suc n
    plus_one n = omega arith

    go : (t : Bool) → entered x ys ≡ take (before x ys) ys ++ x ∷ drop (before x ys) ys → cond t (x ∷ y ∷ ys) (y ∷ entered x ys) ≡ take (cond (not t) (1 + before x ys) 0) (y ∷ ys) ++ x ∷ drop (cond (not t) (1 + before x ys) 0) (y ∷ ys)
    go true ih = refl
    go false ih = rw (add_comm 1 (before x ys)) (rw (plus_one (before x ys)) (ap (λ zs. y ∷ zs) ih))

-- where the first lower one is looked for, that is found
pub place_is : (x : Bid) (xs : List Bid) (n : ℕ) (r : Option ℕ) (p : ℕ) → length xs ≡ n → r ≡ position (λ y. lt_z y.price x.price) xs → p ≡ unwrap_or r n → p ≡ before x xs
place_is x xs n r p long is e = e ∙ ap (λ o. unwrap_or o n) is ∙ go (cases_lt (before x xs) (length xs))
  where
    go : (before x xs < length xs) ⊎ (length xs ≤ before x xs) → unwrap_or (position (λ y. lt_z y.price x.price) xs) n ≡ before x xs
    go (inl h) = let t : ltb (before x xs) (length xs) ≡ true = lt-ltb (before x xs) (length xs) h in rw t refl
    go (inr h) = let m = prefix_len-le-length (λ (y : Bid). not (lt_z y.price x.price)) xs in let t : ltb (before x xs) (length xs) ≡ false = le-ltb (before x xs) (length xs) h in let q : n ≡ before x xs = omega arith in rw (t, q) refl

-- the bid on the last place, turned to its own, with the bids that move on behind it
pub turned_in : (xs : List Bid) (n p : ℕ) (x : Bid) (ys : List Bid) → n < length xs → p ≤ n
    → ys ≡ drop (length (mid_of p (n + 1 - p) (set xs n x)) - 1) (mid_of p (n + 1 - p) (set xs n x)) ++ take (length (mid_of p (n + 1 - p) (set xs n x)) - 1) (mid_of p (n + 1 - p) (set xs n x))
    → take (n + 1) (put_mid p (n + 1 - p) (set xs n x) ys) ≡ take p (take n xs) ++ x ∷ drop p (take n xs)
turned_in xs n p x ys h within is =
    let zs = set xs n x in
    let long : length (take n xs) ≡ n = length-take-le n xs (omega arith) in
    let mid : mid_of p (n + 1 - p) zs ≡ drop p (take n xs) ++ x ∷ [] =
    sym (drop-take p (n + 1 - p) zs) ∙ ap (λ m. drop p (take m zs)) (sum_is p n within) ∙ ap (drop p) (take_more_set xs n x h) ∙ drop-append-le p (take n xs) (x ∷ []) (omega arith) in
    let rest : length (drop p (take n xs)) ≡ n - p = length-drop p (take n xs) ∙ ap (λ m. m - p) long in
    let turned : ys ≡ x ∷ drop p (take n xs) = is ∙ ap (λ m. drop (length m - 1) m ++ take (length m - 1) m) mid ∙ last_first (drop p (take n xs)) in
    let len : length ys ≡ suc (n - p) = ap length turned ∙ ap suc rest in
    let whole : n + 1 ≡ p + length ys = omega (arith, len) in
    let room : p ≤ length (set xs n x) = simp length-set (omega arith) in
    take-put_mid p (n + 1 - p) zs ys (n + 1) whole room
    ∙ ap (λ us. us ++ ys) (take-set-le p xs n x within ∙ sym (take-take p n xs within))
    ∙ ap (λ us. take p (take n xs) ++ us) turned
  where
    sum_is : (p n : ℕ) → p ≤ n → p + (n + 1 - p) ≡ n + 1
    sum_is p n h = omega arith

    last_first : (us : List Bid) → drop (length (us ++ x ∷ []) - 1) (us ++ x ∷ []) ++ take (length (us ++ x ∷ []) - 1) (us ++ x ∷ []) ≡ x ∷ us
    last_first us =
        let e : length us ≡ length (us ++ x ∷ []) - 1 = omega (arith, length-append us (x ∷ [])) in
        rw (drop_at us (x ∷ []) (length (us ++ x ∷ []) - 1) e, take_at us (x ∷ []) (length (us ++ x ∷ []) - 1) e) refl
