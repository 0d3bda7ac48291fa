-- What keeps the hedges on places sound.
use Rattle.std.proofs.Common.{◌≡◌, ℕ, zero, suc, ◌+◌, ◌<◌, ◌≤◌, Bool, true, false, cond, not, ◌&&◌, eqb, ltb, leb, List, [], ◌∷◌, ◌++◌, map, length, get_or, take, set, filter as kept_by, sym, refl, ap, ◌∙◌, ap₂, le_of_suc-le-suc, not-suc-le-zero, arith, length-take}
use Rattle.std.proofs.Math.Seq.{take-set-lt}
use Rattle.std.proofs.lemmas.List.{take_more_set, get_or-take}
use Rattle.std.proofs.lemmas.Bool.{and_parts, and_from, and_right, ltb-true, leb-true, eqb-true, lt-ltb, le-leb, ne_eqb, cond-true, cond-false}
use Rattle.rules.specs.declared.hedge.Hedge.{Hedge}
use Rattle.rules.specs.Settlement.{turned, of_number}
use Rattle.portfolio.specs.Fitting.{is_fit, is_sound, no_hedge}
use Rattle.portfolio.proofs.Sizes.{fitting}

pub fit_from : (x : Hedge) → (1 ≤ x.deal.institution) × (x.deal.institution ≤ 16) × (x.deal.dollars ≤ 2000000000) × (x.settled ≤ 999999) → is_fit x ≡ true
fit_from x h =
    and_from (leb 1 x.deal.institution && leb x.deal.institution 16 && leb x.deal.dollars 2000000000) (leb x.settled 999999)
    (and_from (leb 1 x.deal.institution && leb x.deal.institution 16) (leb x.deal.dollars 2000000000)
    (and_from (leb 1 x.deal.institution) (leb x.deal.institution 16) (le-leb 1 x.deal.institution h.0) (le-leb x.deal.institution 16 h.1))
    (le-leb x.deal.dollars 2000000000 h.2)) (le-leb x.settled 999999 h.3)

-- what the test says of a first hedge and those behind it
pub record Headed (low high : ℕ) (x : Hedge) (xs : List Hedge) : Type 0 where
  pub above : low < x.deal.number
  pub fit : is_fit x ≡ true
  pub rest : is_sound x.deal.number high xs ≡ true

pub headed : (low high : ℕ) (x : Hedge) (xs : List Hedge) → is_sound low high (x ∷ xs) ≡ true → Headed low high x xs
headed low high x xs h =
    let p = and_parts (ltb low x.deal.number && is_fit x) (is_sound x.deal.number high xs) h in
    let q = and_parts (ltb low x.deal.number) (is_fit x) p.0 in
    record { above = ltb-true low x.deal.number q.0; fit = q.1; rest = p.1 }

pub sound_cons : (low high : ℕ) (x : Hedge) (xs : List Hedge) → low < x.deal.number → is_fit x ≡ true → is_sound x.deal.number high xs ≡ true → is_sound low high (x ∷ xs) ≡ true
sound_cons low high x xs a f r = and_from (ltb low x.deal.number && is_fit x) (is_sound x.deal.number high xs) (and_from (ltb low x.deal.number) (is_fit x) (lt-ltb low x.deal.number a) f) r

-- a fit hedge with a higher number behind them all
pub sound_push : (low high : ℕ) (xs : List Hedge) (y : Hedge) → is_sound low high xs ≡ true → high < y.deal.number → is_fit y ≡ true → is_sound low y.deal.number (xs ++ (y ∷ [])) ≡ true
sound_push low high [] y h a f = let p = leb-true low high h in sound_cons low y.deal.number y [] (omega arith) f (le-leb y.deal.number y.deal.number (omega arith))
sound_push low high (x ∷ xs) y h a f = let p = headed low high x xs h in sound_cons low y.deal.number x (xs ++ (y ∷ [])) p.above p.fit (sound_push x.deal.number high xs y p.rest a f)

pub sound_placed : (high n : ℕ) (xs : List Hedge) (y : Hedge) → n < length xs → is_sound 0 high (take n xs) ≡ true → high < y.deal.number → is_fit y ≡ true → is_sound 0 y.deal.number (take (n + 1) (set xs n y)) ≡ true
sound_placed high n xs y l h a f = rw (take_more_set xs n y l) (sound_push 0 high (take n xs) y h a f)

-- every sound hedge is fit
pub sound_fit : (low high : ℕ) (xs : List Hedge) (i : ℕ) → i < length xs → is_sound low high xs ≡ true → is_fit (get_or xs i no_hedge) ≡ true
sound_fit low high [] i l h = absurd (not-suc-le-zero l)
sound_fit low high (x ∷ xs) zero l h = (headed low high x xs h).fit
sound_fit low high (x ∷ xs) (suc i) l h = sound_fit x.deal.number high xs i (le_of_suc-le-suc l) (headed low high x xs h).rest

-- numbers rise from the lowest on
pub sound_above : (low high : ℕ) (xs : List Hedge) (i : ℕ) → i < length xs → is_sound low high xs ≡ true → low < (get_or xs i no_hedge).deal.number
sound_above low high [] i l h = absurd (not-suc-le-zero l)
sound_above low high (x ∷ xs) zero l h = (headed low high x xs h).above
sound_above low high (x ∷ xs) (suc i) l h = let p = headed low high x xs h in let q = sound_above x.deal.number high xs i (le_of_suc-le-suc l) p.rest in omega (arith, p.above)

pub sound_lower : (low' low high : ℕ) (xs : List Hedge) → low' ≤ low → is_sound low high xs ≡ true → is_sound low' high xs ≡ true
sound_lower low' low high [] l h = le-leb low' high (omega (arith, leb-true low high h))
sound_lower low' low high (x ∷ xs) l h = let p = headed low high x xs h in sound_cons low' high x xs (omega (arith, p.above)) p.fit p.rest

-- a part of sound hedges is sound
pub sound_kept : (p : Hedge → Bool) (low high : ℕ) (xs : List Hedge) → is_sound low high xs ≡ true → is_sound low high (kept_by p xs) ≡ true
sound_kept p low high [] h = h
sound_kept p low high (x ∷ xs) h =
    let q = headed low high x xs h in
    go (p x) (sound_cons low high x (kept_by p xs) q.above q.fit (sound_kept p x.deal.number high xs q.rest)) (sound_kept p low high xs (sound_lower low x.deal.number high xs (let a = q.above in omega arith) q.rest))
  where
    go : (t : Bool) → is_sound low high (x ∷ kept_by p xs) ≡ true → is_sound low high (kept_by p xs) ≡ true → is_sound low high (cond t (x ∷ kept_by p xs) (kept_by p xs)) ≡ true
    go true a b = a
    go false a b = b

turned-fit : (paid shut : Bool) (day r : ℕ) (x : Hedge) → r ≤ 999999 → is_fit x ≡ true → is_fit (turned paid shut day r x) ≡ true
turned-fit false shut day r x l f = f
turned-fit true shut day r x l f = let p = fitting x f in fit_from (turned true shut day r x) (p.some, p.known, p.dollars, l)

-- hedges after a day's settlement are sound
pub sound_turned : (paid shut : Hedge → Bool) (day r low high : ℕ) (xs : List Hedge) → r ≤ 999999 → is_sound low high xs ≡ true → is_sound low high (map (λ x. turned (paid x) (shut x) day r x) xs) ≡ true
sound_turned paid shut day r low high [] l h = h
sound_turned paid shut day r low high (x ∷ xs) l h =
    let p = headed low high x xs h in
    sound_cons low high (turned (paid x) (shut x) day r x) (map (λ y. turned (paid y) (shut y) day r y) xs) p.above (turned-fit (paid x) (shut x) day r x l p.fit) (sound_turned paid shut day r x.deal.number high xs l p.rest)

-- ---- the one open hedge of a number
kept_open : (b : Bool) → (b && not false) ≡ b
kept_open true = refl
kept_open false = refl

unturned : (day r : ℕ) (x : Hedge) → turned false false day r x ≡ x
unturned day r x = ap (λ (b : Bool). (record { deal = x.deal; settled = x.settled; since = x.since; live = b })) (kept_open x.live)

-- ended one by one
abbrev pub ended : ℕ → ℕ → ℕ → Hedge → Hedge
ended n day r x = turned (of_number n x) (of_number n x) day r x

other : (n day r : ℕ) (x : Hedge) → (x.deal.number ≡ n → ⊥) → of_number n x ≡ false
other n day r x ne = and_right x.live (eqb x.deal.number n) (ne_eqb x.deal.number n ne)

stays : (n day r : ℕ) (x : Hedge) → of_number n x ≡ false → ended n day r x ≡ x
stays n day r x e = ap (λ (b : Bool). turned b b day r x) e ∙ unturned day r x

none_later : (n day r low high : ℕ) (xs : List Hedge) → n ≤ low → is_sound low high xs ≡ true → (kept_by (of_number n) xs ≡ []) × (map (ended n day r) xs ≡ xs)
none_later n day r low high [] l h = (refl, refl)
none_later n day r low high (x ∷ xs) l h =
    let p = headed low high x xs h in
    let ne : x.deal.number ≡ n → ⊥ = λ e. omega (arith, p.above) in
    let o = other n day r x ne in
    let q = none_later n day r x.deal.number high xs (omega (arith, p.above)) p.rest in
    (cond-false (of_number n x) (x ∷ kept_by (of_number n) xs) (kept_by (of_number n) xs) o ∙ q.0, ap₂ (λ (y : Hedge) (ys : List Hedge). y ∷ ys) (stays n day r x o) q.1)

number_of : (n : ℕ) (x : Hedge) → of_number n x ≡ true → x.deal.number ≡ n
number_of n x e = eqb-true x.deal.number n (and_parts x.live (eqb x.deal.number n) e).1

-- no other hedge has that number, and ending it is a write to its place
pub ended-alone : (n day r low high : ℕ) (xs : List Hedge) (i : ℕ) → i < length xs → is_sound low high xs ≡ true → of_number n (get_or xs i no_hedge) ≡ true → (kept_by (of_number n) xs ≡ get_or xs i no_hedge ∷ []) × (map (ended n day r) xs ≡ set xs i (turned true true day r (get_or xs i no_hedge)))
ended-alone n day r low high [] i l h o = absurd (not-suc-le-zero l)
ended-alone n day r low high (x ∷ xs) zero l h o =
    let p = headed low high x xs h in
    let q = none_later n day r x.deal.number high xs (omega (arith, number_of n x o)) p.rest in
    (cond-true (of_number n x) (x ∷ kept_by (of_number n) xs) (kept_by (of_number n) xs) o ∙ ap (λ ys. x ∷ ys) q.0, ap₂ (λ (y : Hedge) (ys : List Hedge). y ∷ ys) (ap (λ (b : Bool). turned b b day r x) o) q.1)
ended-alone n day r low high (x ∷ xs) (suc i) l h o =
    let p = headed low high x xs h in
    let a = sound_above x.deal.number high xs i (le_of_suc-le-suc l) p.rest in
    let m = number_of n (get_or xs i no_hedge) o in
    let ne : x.deal.number ≡ n → ⊥ = λ e. omega arith in
    let f = other n day r x ne in
    let q = ended-alone n day r x.deal.number high xs i (le_of_suc-le-suc l) p.rest o in
    (cond-false (of_number n x) (x ∷ kept_by (of_number n) xs) (kept_by (of_number n) xs) f ∙ q.0, ap₂ (λ (y : Hedge) (ys : List Hedge). y ∷ ys) (stays n day r x f) q.1)

-- ---- one place at a time
sound_set : (paid shut : Bool) (day r low high : ℕ) (xs : List Hedge) (i : ℕ) → r ≤ 999999 → is_sound low high xs ≡ true → is_sound low high (set xs i (turned paid shut day r (get_or xs i no_hedge))) ≡ true
sound_set paid shut day r low high [] i l h = h
sound_set paid shut day r low high (x ∷ xs) zero l h = let p = headed low high x xs h in sound_cons low high (turned paid shut day r x) xs p.above (turned-fit paid shut day r x l p.fit) p.rest
sound_set paid shut day r low high (x ∷ xs) (suc i) l h = let p = headed low high x xs h in sound_cons low high x (set xs i (turned paid shut day r (get_or xs i no_hedge))) p.above p.fit (sound_set paid shut day r x.deal.number high xs i l p.rest)

module _ (high n : ℕ) (hs : List Hedge) (i : ℕ) (l : i < n) (room : n ≤ length hs) (h : is_sound 0 high (take n hs) ≡ true) where
  within : i < length (take n hs)
  within = simp length-take (omega arith)

  pub fit_placed : is_fit (get_or hs i no_hedge) ≡ true
  fit_placed = ap is_fit (sym (get_or-take n hs i no_hedge l)) ∙ sound_fit 0 high (take n hs) i within h

  pub sound_written : (paid shut : Bool) (day r : ℕ) (y : Hedge) → r ≤ 999999 → y ≡ turned paid shut day r (get_or hs i no_hedge) → is_sound 0 high (take n (set hs i y)) ≡ true
  sound_written paid shut day r y q e =
      ap (is_sound 0 high) (take-set-lt n hs i y l ∙ ap (set (take n hs) i) (e ∙ ap (turned paid shut day r) (sym (get_or-take n hs i no_hedge l))))
      ∙ sound_set paid shut day r 0 high (take n hs) i q h

  at_place : (m : ℕ) → of_number m (get_or hs i no_hedge) ≡ true → of_number m (get_or (take n hs) i no_hedge) ≡ true
  at_place m o = ap (of_number m) (get_or-take n hs i no_hedge l) ∙ o

  -- the open hedge on a place is the only one of its number
  pub alone_at : (m : ℕ) → of_number m (get_or hs i no_hedge) ≡ true → kept_by (of_number m) (take n hs) ≡ get_or hs i no_hedge ∷ []
  alone_at m o = (ended-alone m 0 0 0 high (take n hs) i within h (at_place m o)).0 ∙ ap (λ x. x ∷ []) (get_or-take n hs i no_hedge l)

  pub ended_at : (m day r : ℕ) (y : Hedge) → of_number m (get_or hs i no_hedge) ≡ true → y ≡ turned true true day r (get_or hs i no_hedge) → take n (set hs i y) ≡ map (ended m day r) (take n hs)
  ended_at m day r y o e =
      take-set-lt n hs i y l ∙ ap (set (take n hs) i) (e ∙ ap (turned true true day r) (sym (get_or-take n hs i no_hedge l)))
      ∙ sym (ended-alone m day r 0 high (take n hs) i within h (at_place m o)).1
