-- A number's spelling determines it, and no spelling is the front of another. Assumes nothing.
use Rattle.std.proofs.Common.{◌≡◌, ℕ, zero, suc, ◌+◌, ◌-◌, ◌*◌, ◌/◌, ◌%◌, ◌^◌, ◌<◌, ◌≤◌, true, false, eqb, ltb, ◌⊎◌, List, [], ◌∷◌, ◌++◌, length, drop, Some, None, Option, sym, refl, ap, ◌∙◌, inl, inr, pow-suc, add-one, arith}
use Rattle.std.proofs.lemmas.Bool.{cases_lt, cases_eq, lt-ltb, le-ltb, ne_eqb, cond-true, cond-false, cond_both}
use Rattle.std.proofs.lemmas.Bool.Decides.{nat_tests}
use Rattle.std.proofs.lemmas.List.{append_cancel_left, drop-drop}
use Rattle.day_sheet.specs.Groups.{groups_by, groups, Short, Begins, Broken}
use Rattle.day_sheet.specs.Readings.{goes_on, number_by}

turns_enough : (f g n : ℕ) → n ≤ f → n ≤ g → groups_by f n ≡ groups_by g n
turns_enough zero zero n a b = refl
turns_enough zero (suc g) n a b = grind (arith, nat_tests)
turns_enough (suc f) zero n a b = grind (arith, nat_tests)
turns_enough (suc f) (suc g) n a b = go (cases_lt n 128) (turns_enough f g (n / 128))
  where
    go : (n < 128) ⊎ (128 ≤ n) → (n / 128 ≤ f → n / 128 ≤ g → groups_by f (n / 128) ≡ groups_by g (n / 128)) → groups_by (suc f) n ≡ groups_by (suc g) n
    go (inl h) ih = grind (arith, nat_tests)
    go (inr h) ih = let e = ih (omega arith) (omega arith) in grind (arith, nat_tests)

pub groups-small : (n : ℕ) → n < 128 → groups n ≡ n ∷ []
unfolding groups
groups-small zero h = refl
groups-small (suc n) h = grind (arith, nat_tests)

pub groups-large : (n : ℕ) → 128 ≤ n → groups n ≡ (128 + n % 128) ∷ groups (n / 128)
unfolding groups
groups-large zero h = absurd (omega arith)
groups-large (suc n) h =
    let e = turns_enough n (suc n / 128) (suc n / 128) (omega arith) (omega arith) in
    let f : ltb (suc n) 128 ≡ false = le-ltb (suc n) 128 h in
    cond-false _ _ _ f ∙ ap (λ gs. (128 + suc n % 128) ∷ gs) e

pub groups-some : (n : ℕ) → 1 ≤ length (groups n)
groups-some n = go (cases_lt n 128)
  where
    go : (n < 128) ⊎ (128 ≤ n) → 1 ≤ length (groups n)
    go (inl h) = omega (arith, ap length (groups-small n h))
    go (inr h) = omega (arith, ap length (groups-large n h))

-- ---- reading finds every number
pub number_groups : (k n : ℕ) (rest : List ℕ) → length (groups n) ≤ k → number_by k (groups n ++ rest) ≡ Some (n, length (groups n))
number_groups zero n rest few = absurd (omega (arith, groups-some n))
number_groups (suc k) n rest few = go (cases_lt n 128) (number_groups k (n / 128) rest)
  where
    go : (n < 128) ⊎ (128 ≤ n) → (length (groups (n / 128)) ≤ k → number_by k (groups (n / 128) ++ rest) ≡ Some (n / 128, length (groups (n / 128)))) → number_by (suc k) (groups n ++ rest) ≡ Some (n, length (groups n))
    go (inl h) ih = rw (groups-small n h) (cond-true _ _ _ (lt-ltb n 128 h))
    go (inr h) ih =
        let e = ih (omega (arith, ap length (groups-large n h))) in
        let a : ltb (128 + n % 128) 128 ≡ false = le-ltb _ _ (omega arith) in
        let b : ltb (128 + n % 128) 256 ≡ true = lt-ltb _ _ (omega arith) in
        let z : eqb (n / 128) 0 ≡ false = ne_eqb _ _ (λ z. omega arith) in
        let v : 128 + n % 128 - 128 + 128 * (n / 128) ≡ n = omega arith in
        rw (groups-large n h) (rw (a, b, e, z, v) (ap (λ m. Some (n, m)) (omega arith)))

power_some : (k : ℕ) → 1 ≤ 128 ^ k
power_some zero = omega arith
power_some (suc k) = omega (arith, pow-suc 128 k, power_some k)

-- a number of at most k groups is below 128 to the k
pub groups-bound : (k n : ℕ) → length (groups n) ≤ k → n < 128 ^ k
groups-bound zero n few = absurd (omega (arith, groups-some n))
groups-bound (suc k) n few = go (cases_lt n 128) (groups-bound k (n / 128))
  where
    go : (n < 128) ⊎ (128 ≤ n) → (length (groups (n / 128)) ≤ k → n / 128 < 128 ^ k) → n < 128 ^ suc k
    go (inl h) ih = omega (arith, pow-suc 128 k, power_some k)
    go (inr h) ih = omega (arith, pow-suc 128 k, ih (omega (arith, ap length (groups-large n h))))

-- ---- what reading finds is the number that is spelled there
pub record Spelled (k : ℕ) (bytes : List ℕ) (n len : ℕ) : Type 0 where
  pub few : length (groups n) ≤ k
  pub front : bytes ≡ groups n ++ drop len bytes
  pub len_is : len ≡ length (groups n)

spelled-last : (k b : ℕ) (bytes : List ℕ) → b < 128 → Spelled (suc k) (b ∷ bytes) b 1
spelled-last k b bytes h =
    let e = groups-small b h in
    let f : b ∷ bytes ≡ groups b ++ bytes = rw e in
    let g = ap length e in
    record { few = omega arith; front = f; len_is = omega arith }

spelled-more : (k b n len : ℕ) (bytes : List ℕ) → 128 ≤ b → b < 256 → (n ≡ 0 → ⊥) → Spelled k bytes n len → Spelled (suc k) (b ∷ bytes) (b - 128 + 128 * n) (len + 1)
spelled-more k b n len bytes hi lo nz s =
    let m = b - 128 + 128 * n in
    let e : groups m ≡ (128 + m % 128) ∷ groups (m / 128) = groups-large m (omega arith) in
    let p : 128 + m % 128 ≡ b = omega arith in
    let q : m / 128 ≡ n = omega arith in
    let g : groups m ≡ b ∷ groups n = cc in
    let l = ap length g in
    let d : drop (len + 1) (b ∷ bytes) ≡ drop len bytes = rw add-one in
    let f : b ∷ bytes ≡ groups m ++ drop (len + 1) (b ∷ bytes) = rw (g, d) (ap (λ bs. b ∷ bs) s.front) in
    record { few = omega (arith, s.few); front = f; len_is = omega (arith, s.len_is) }

some_pair : (a b c d : ℕ) → ◌≡◌ {A = Option (ℕ × ℕ)} (Some (a, b)) (Some (c, d)) → (a ≡ c) × (b ≡ d)
some_pair a b c d e = let p : ◌≡◌ {A = ℕ × ℕ} (a, b) (c, d) = cc in (ap (λ p. p.0) p, ap (λ p. p.1) p)

pub number_spelled : (k : ℕ) (bytes : List ℕ) (n len : ℕ) → number_by k bytes ≡ Some (n, len) → Spelled k bytes n len
number_spelled zero bytes n len e = absurd (grind arith)
number_spelled (suc k) [] n len e = absurd (grind arith)
number_spelled (suc k) (b ∷ bytes) n len e = go (cases_lt b 128) (cases_lt b 256) (number_spelled k bytes)
  where
    more : ((m l : ℕ) → number_by k bytes ≡ Some (m, l) → Spelled k bytes m l) → (o : Option (ℕ × ℕ)) → 128 ≤ b → b < 256 → number_by k bytes ≡ o → goes_on b o ≡ Some (n, len) → Spelled (suc k) (b ∷ bytes) n len
    more ih None hi lo is e = absurd (grind arith)
    more ih (Some (m, l)) hi lo is e = at (cases_eq m 0)
      where
        at : (m ≡ 0) ⊎ (m ≡ 0 → ⊥) → Spelled (suc k) (b ∷ bytes) n len
        at (inl z) = absurd (grind (arith, nat_tests))
        at (inr nz) =
            let f = some_pair _ _ _ _ (sym (cond-false _ _ _ (ne_eqb m 0 nz)) ∙ e) in
            rw (← f.0, ← f.1) (spelled-more k b m l bytes hi lo nz (ih m l is))

    go : (b < 128) ⊎ (128 ≤ b) → (b < 256) ⊎ (256 ≤ b) → ((m l : ℕ) → number_by k bytes ≡ Some (m, l) → Spelled k bytes m l) → Spelled (suc k) (b ∷ bytes) n len
    go (inl h) _ ih =
        let f = some_pair _ _ _ _ (sym (cond-true _ _ _ (lt-ltb b 128 h)) ∙ e) in
        rw (← f.0, ← f.1) (spelled-last k b bytes h)
    go (inr h) (inl l) ih = more ih (number_by k bytes) h l refl (sym (cond-false _ _ _ (le-ltb b 128 h) ∙ cond-true _ _ _ (lt-ltb b 256 l)) ∙ e)
    go (inr h) (inr l) ih = absurd (grind (arith, nat_tests))

-- ---- one turn of the reading
pub read_from : (k b : ℕ) (xs after : List ℕ) (o : Option (ℕ × ℕ)) → 1 ≤ k → xs ≡ b ∷ after → 128 ≤ b → b < 256 → o ≡ number_by (k - 1) after → goes_on b o ≡ number_by k xs
read_from zero b xs after o one is s big e = absurd (omega arith)
read_from (suc k) b xs after o one is s big e =
    let m : suc k - 1 ≡ k = omega arith in
    ap (goes_on b) (rw m at e) ∙ sym (ap (number_by (suc k)) is ∙ cond-false _ _ _ (le-ltb b 128 s) ∙ cond-true _ _ _ (lt-ltb b 256 big))

-- with one group before them, eight groups leave room in 64 bits
pub number_bound : (k : ℕ) (bytes : List ℕ) (n len : ℕ) → k ≤ 8 → Some (n, len) ≡ number_by k bytes → (n < 128 ^ 8) × (len ≤ 8)
number_bound k bytes n len few e =
    let s = number_spelled k bytes n len (sym e) in
    (groups-bound 8 n (omega (arith, s.few)), omega (arith, s.few, s.len_is))

-- what a number of nine groups read at a place says of the bytes there, and that none is there where none is read
pub begins_from : (xs : List ℕ) (at n len : ℕ) → Some (n, len) ≡ number_by 9 (drop at xs) → Begins (drop at xs) n (drop (at + len) xs) × (len ≡ length (groups n))
begins_from xs at n len e =
    let s = number_spelled 9 (drop at xs) n len (sym e) in
    ((s.few, s.front ∙ ap (λ r. groups n ++ r) (drop-drop len at xs)), s.len_is)

pub broken_from : (bytes : List ℕ) → 1 ≤ length bytes → None ≡ number_by 9 bytes → Broken bytes
broken_from bytes some e = (λ z. omega (arith, ap length z), λ n rest b. never n rest b)
  where
    never : (n : ℕ) (rest : List ℕ) → Begins bytes n rest → ⊥
    never n rest b =
        let z = e ∙ ap (number_by 9) b.1 ∙ number_groups 9 n rest b.0 in cc

-- ---- how many groups there are
pub groups-most : (n : ℕ) → length (groups n) ≤ n + 1
unfolding groups
groups-most n = by n n
  where
    by : (turns n : ℕ) → length (groups_by turns n) ≤ turns + 1
    by zero n = omega arith
    by (suc turns) n = cond_both (ltb n 128) (n ∷ []) ((128 + n % 128) ∷ groups_by turns (n / 128)) (λ gs. length gs ≤ suc turns + 1) (λ e. omega arith) (λ e. omega (arith, by turns (n / 128)))

-- a number below 128 to the k has at most k groups
pub groups-few : (k n : ℕ) → n < 128 ^ suc k → length (groups n) ≤ suc k
groups-few zero n small = omega (arith, pow-suc 128 0, ap length (groups-small n (omega (arith, pow-suc 128 0))))
groups-few (suc k) n small = go (cases_lt n 128) (groups-few k (n / 128))
  where
    go : (n < 128) ⊎ (128 ≤ n) → (n / 128 < 128 ^ suc k → length (groups (n / 128)) ≤ suc k) → length (groups n) ≤ suc (suc k)
    go (inl h) ih = omega (arith, ap length (groups-small n h))
    go (inr h) ih = omega (arith, ap length (groups-large n h), ih (omega (arith, pow-suc 128 (suc k))))

-- ---- a spelling determines its number, and is not the front of another
pub one-spelling : (m n : ℕ) (x y : List ℕ) → Short m → Short n → groups m ++ x ≡ groups n ++ y → (m ≡ n) × (x ≡ y)
one-spelling m n x y sm sn e =
    let p = some_pair _ _ _ _ (sym (number_groups 9 m x sm) ∙ ap (number_by 9) e ∙ number_groups 9 n y sn) in
    (p.0, append_cancel_left (groups m) x y (e ∙ ap (λ k. groups k ++ y) (sym p.0)))
