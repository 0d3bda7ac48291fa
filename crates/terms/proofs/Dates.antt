-- What the two ways between dates and day numbers rest on.
use Rattle.std.proofs.Common.{◌≡◌, ℕ, zero, suc, ◌+◌, ◌-◌, ◌*◌, ◌/◌, ◌<◌, ◌≤◌, Bool, true, false, cond, ◌&&◌, T, ltb, leb, sym, refl, ap, subst, inl, inr, Option, None, Some, le_of_suc-le-suc, not-suc-le-zero, arith, rules}
use Rattle.std.proofs.lemmas.Bool.{cases_lt}
use Rattle.std.specs.Option.{MatchOption, unwrap_or}
use Rattle.terms.specs.declared.calendar.Date.{Date}
use Rattle.terms.specs.Calendar.{leap_day, month_start, month_end, is_date, day_number}

-- a date by its year, its month counted from 0, and its day
pub date_is : (y k d : ℕ) → 2017 ≤ y → y ≤ 2099 → k < 12 → 1 ≤ d → month_start (leap_day y) k + d ≤ month_end (leap_day y) k → is_date (record { year = y; month = k + 1; day = d }) ≡ true
date_is y k d a b l p h = let e : k + 1 - 1 ≡ k = omega arith in rw e (search rules)

pub number_is : (y k d : ℕ) → day_number (record { year = y; month = k + 1; day = d }) ≡ 365 * (y - 2017) + (y - 2017) / 4 + month_start (leap_day y) k + d - 1
number_is y k d = let e : k + 1 - 1 ≡ k = omega arith in rw e refl

pub record Dated (d : Date) : Type 0 where
  pub low : 2017 ≤ d.year
  pub high : d.year ≤ 2099
  pub some : 1 ≤ d.month
  pub months : d.month ≤ 12
  pub first : 1 ≤ d.day
  pub last : month_start (leap_day d.year) (d.month - 1) + d.day ≤ month_end (leap_day d.year) (d.month - 1)

pub dated : (d : Date) → is_date d ≡ true → Dated d
dated d h = record { low = search rules; high = search rules; some = search rules; months = search rules; first = search rules; last = search rules }

pub leap_le : (y : ℕ) → leap_day y ≤ 1
leap_le y = search rules

pub year_long : (l k : ℕ) → k < 12 → l ≤ 1 → month_end l k ≤ 365 + l
year_long l k h m = search rules

-- a test at each number below n, computed
abbrev pub below : ℕ → (ℕ → Bool) → Bool
below zero f = true
below (suc n) f = f 0 && below n (λ i. f (suc i))

both_left : (a b : Bool) → T (a && b) → T a
both_left true b t = tt
both_left false b t = t

both_right : (a b : Bool) → T (a && b) → T b
both_right true b t = t
both_right false b t = absurd t

pub below_at : (n : ℕ) (f : ℕ → Bool) → T (below n f) → (k : ℕ) → k < n → T (f k)
below_at zero f t k h = absurd (not-suc-le-zero h)
below_at (suc n) f t zero h = both_left (f 0) (below n (λ i. f (suc i))) t
below_at (suc n) f t (suc k) h = below_at n (λ i. f (suc i)) (both_right (f 0) (below n (λ i. f (suc i))) t) k (le_of_suc-le-suc h)

abbrev test : ℕ → ℕ → ℕ → Bool
test l j k = cond (ltb j k) (leb (month_end l j) (month_start l k)) true

pub month_order : (l j k : ℕ) → l ≤ 1 → k < 12 → j < k → month_end l j ≤ month_start l k
month_order l j k m h o =
    let t : T (test l j k) = below_at 12 (λ i. test l j i) (below_at 12 (λ i. below 12 (λ x. test l i x)) (below_at 2 (λ z. below 12 (λ i. below 12 (λ x. test z i x))) tt l (omega arith)) j (omega arith)) k h in
    search rules

pub years_same : (y z w v : ℕ) → 2017 ≤ y → 2017 ≤ z → w < 365 + leap_day y → v < 365 + leap_day z → 365 * (y - 2017) + (y - 2017) / 4 + w ≡ 365 * (z - 2017) + (z - 2017) / 4 + v → y ≡ z
years_same y z w v i j p q e = search rules

pub months_same : (l j k a b : ℕ) → l ≤ 1 → j < 12 → k < 12 → 1 ≤ a → 1 ≤ b → month_start l j + a ≤ month_end l j → month_start l k + b ≤ month_end l k → month_start l j + a ≡ month_start l k + b → j ≡ k
months_same l j k a b m p q u v x y e =
    elim (cases_lt j k) [ inl h ↦ absurd (omega (arith, month_order l j k m q h)) | inr g ↦ elim (cases_lt k j) [ inl h ↦ absurd (omega (arith, month_order l k j m p h)) | inr h ↦ omega arith ] ]

-- no two dates have one day number
pub one-date : (d e : Date) → is_date d ≡ true → is_date e ≡ true → day_number d ≡ day_number e → d ≡ e
one-date d e p q h =
    let a = dated d p in
    let b = dated e q in
    let s = month_start (leap_day d.year) (d.month - 1) in
    let t = month_start (leap_day e.year) (e.month - 1) in
    let la = year_long (leap_day d.year) (d.month - 1) (omega arith) (leap_le d.year) in
    let lb = year_long (leap_day e.year) (e.month - 1) (omega arith) (leap_le e.year) in
    let y : d.year ≡ e.year = years_same d.year e.year (s + d.day - 1) (t + e.day - 1) a.low b.low (omega arith) (omega arith) (omega arith) in
    let u : t ≡ month_start (leap_day d.year) (e.month - 1) = ap (λ z. month_start (leap_day z) (e.month - 1)) (sym y) in
    let f : month_start (leap_day d.year) (e.month - 1) + e.day ≤ month_end (leap_day d.year) (e.month - 1) = rw y b.last in
    let m : d.month - 1 ≡ e.month - 1 = months_same (leap_day d.year) (d.month - 1) (e.month - 1) d.day e.day (leap_le d.year) (omega arith) (omega arith) a.first b.first a.last f (omega arith) in
    let v : s ≡ t = cc in
    let n : d.month ≡ e.month = omega arith in
    let z : d.day ≡ e.day = omega arith in
    let r : ◌≡◌ {A = Date} (record { year = d.year; month = d.month; day = d.day }) (record { year = e.year; month = e.month; day = e.day }) = cc in
    r

-- a month begins where the one before it ends, and the first with the year
pub month_begun : (l w k : ℕ) → k < 12 → ((j : ℕ) → 0 ≤ j → j < k → month_end l j ≤ w) → month_start l k ≤ w
month_begun l w zero h before = search rules
month_begun l w (suc j) h before =
    let n : j + 1 ≡ suc j = omega arith in
    let e : month_end l j ≡ month_start l (suc j) = rw n (search rules) in
    omega (arith, e, before j (omega arith) (omega arith))

-- the first month that ends after a day, or the last if none of the others does
pub month_found : (l w k : ℕ) (o : Option ℕ) → k ≡ unwrap_or o 11 → w < 365 + l → MatchOption o ((j : ℕ) → 0 ≤ j → j < 11 → month_end l j ≤ w) (λ i. (0 ≤ i) × (i < 11) × (w < month_end l i) × ((j : ℕ) → 0 ≤ j → j < i → month_end l j ≤ w)) → (k < 12) × ((month_start l k ≤ w) × (w < month_end l k))
month_found l w k None e h f = subst (λ z. (z < 12) × ((month_start l z ≤ w) × (w < month_end l z))) (sym e) (omega arith, (month_begun l w 11 (omega arith) f, h))
month_found l w k (Some i) e h f = subst (λ z. (z < 12) × ((month_start l z ≤ w) × (w < month_end l z))) (sym e) (omega (arith, f.1), (month_begun l w i (omega (arith, f.1)) f.3, f.2))
