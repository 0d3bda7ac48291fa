-- Bytes written over others, one after another. Assumes nothing.
use Rattle.std.proofs.Common.{◌≡◌, ℕ, ◌+◌, ◌/◌, ◌%◌, ◌<◌, ◌≤◌, List, [], ◌∷◌, ◌++◌, length, take, drop, set, sym, ap, ◌∙◌, add-one, arith}
use Rattle.std.proofs.lemmas.List.{set_split, append_assoc, take_at, drop_at, drop-drop, length-append, length-take-le}
use Rattle.day_sheet.specs.Groups.{groups}
use Rattle.day_sheet.specs.Writings.{written_at}
use Rattle.day_sheet.proofs.Spelling.{groups-small, groups-large}

pub written_one : (xs : List ℕ) (at b : ℕ) → at < length xs → set xs at b ≡ written_at xs at (b ∷ [])
written_one xs at b h = rw add-one (set_split xs at b h)

-- what is written right after goes on
pub written-more : (xs : List ℕ) (at next : ℕ) (ys zs : List ℕ) → at + length ys ≤ length xs → next ≡ at + length ys → written_at (written_at xs at ys) next zs ≡ written_at xs at (ys ++ zs)
written-more xs at next ys zs room is =
    let tail = drop (at + length ys) xs in
    let front = take at xs ++ ys in
    let l : length front ≡ next = omega (arith, length-append (take at xs) ys, length-take-le at xs (omega arith)) in
    let g : written_at xs at ys ≡ front ++ tail = sym (append_assoc (take at xs) ys tail) in
    let t : take next (written_at xs at ys) ≡ front = ap (take next) g ∙ take_at front tail next l in
    let d : drop (next + length zs) (written_at xs at ys) ≡ drop (at + length (ys ++ zs)) xs = sym (drop-drop (length zs) next (written_at xs at ys)) ∙ ap (λ l. drop (length zs) (drop next l)) g ∙ ap (drop (length zs)) (drop_at front tail next l) ∙ drop-drop (length zs) (at + length ys) xs ∙ ap (λ n. drop n xs) (omega (arith, length-append ys zs)) in
    rw (t, d) (append_assoc (take at xs) ys (zs ++ drop (at + length (ys ++ zs)) xs) ∙ ap (λ l. take at xs ++ l) (sym (append_assoc ys zs (drop (at + length (ys ++ zs)) xs))))

-- ---- a turn of the writing of a number
pub put_last : (xs : List ℕ) (at n : ℕ) → at < length xs → n < 128 → set xs at n ≡ written_at xs at (groups n)
put_last xs at n h small = rw (groups-small n small) (written_one xs at n h)

pub put_more : (xs : List ℕ) (at n : ℕ) → at < length xs → 128 ≤ n → written_at (set xs at (128 + n % 128)) (at + 1) (groups (n / 128)) ≡ written_at xs at (groups n)
put_more xs at n h large =
    rw (groups-large n large, written_one xs at (128 + n % 128) h) (written-more xs at (at + 1) ((128 + n % 128) ∷ []) (groups (n / 128)) (omega arith) (omega arith))

-- ---- five parts written one after another
pub written-parts : (xs : List ℕ) (at b : ℕ) (g n m t : List ℕ) (p q r : ℕ) (os ps qs rs : List ℕ) → at + (1 + length g + length n + length m + length t) ≤ length xs → os ≡ written_at (set xs at b) (at + 1) g → p ≡ at + 1 + length g → ps ≡ written_at os p n → q ≡ p + length n → qs ≡ written_at ps q m → r ≡ q + length m → rs ≡ written_at qs r t → rs ≡ written_at xs at (b ∷ (g ++ (n ++ (m ++ t))))
written-parts xs at b g n m t p q r os ps qs rs room a pe c qe d re e =
    let i1 = (b ∷ []) ++ g in
    let i2 = i1 ++ n in
    let i3 = i2 ++ m in
    let l1 = length-append (b ∷ []) g in
    let l2 = length-append i1 n in
    let l3 = length-append i2 m in
    let o : os ≡ written_at xs at i1 = a ∙ ap (λ l. written_at l (at + 1) g) (written_one xs at b (omega arith)) ∙ written-more xs at (at + 1) (b ∷ []) g (omega arith) (omega arith) in
    let u : ps ≡ written_at xs at i2 = c ∙ ap (λ l. written_at l p n) o ∙ written-more xs at p i1 n (omega arith) (omega arith) in
    let v : qs ≡ written_at xs at i3 = d ∙ ap (λ l. written_at l q m) u ∙ written-more xs at q i2 m (omega arith) (omega arith) in
    let w : rs ≡ written_at xs at (i3 ++ t) = e ∙ ap (λ l. written_at l r t) v ∙ written-more xs at r i3 t (omega arith) (omega arith) in
    let j : i3 ++ t ≡ b ∷ (g ++ (n ++ (m ++ t))) = append_assoc i2 m t ∙ append_assoc i1 n (m ++ t) in
    w ∙ ap (written_at xs at) j
