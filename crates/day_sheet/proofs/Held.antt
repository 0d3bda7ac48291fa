-- Numbers that a sheet can hold, and their spellings side by side. Assumes nothing.
use Rattle.std.proofs.Common.{◌≡◌, ℕ, ◌+◌, ◌*◌, ◌<◌, ◌≤◌, true, false, leb, ◌⊎◌, List, [], ◌∷◌, ◌++◌, map, length, get_or, take, drop, ℤ, pos, negsuc, nat_abs, sym, refl, ap, ◌∙◌, inl, inr, arith, w64, SFits}
use Rattle.std.specs.Prelude.{int_le}
use Rattle.std.specs.List.{list_all, flat_map}
use Rattle.std.proofs.lemmas.List.{append-nil, length-append, length-take, map-append, map_more, take-append-drop}
use Rattle.std.proofs.lemmas.List.Sums.{sum_by-cons}
use Rattle.std.proofs.lemmas.Int.{ints}
use Rattle.std.proofs.lemmas.Bool.{and_parts, and_from, and_left, and_right, cases_Bool, le-leb, leb-true}
use Rattle.day_sheet.specs.Groups.{groups, Short}
use Rattle.day_sheet.specs.Writings.{holdable, size_of, spellings, written_at}
use Rattle.day_sheet.proofs.Spelling.{groups-few, groups-bound, groups-some}
use Rattle.day_sheet.specs.declared.letter.Letter.{Letter}
use Rattle.day_sheet.specs.Entries.{body, spelled}
use Rattle.day_sheet.specs.Letters.{numbers_in}
use Rattle.day_sheet.specs.Parts.{asked, held}
use Rattle.day_sheet.specs.declared.parts.Parts.{Parts}
use Rattle.day_sheet.proofs.Bodies.{numbers_few}
use Rattle.std.proofs.lemmas.Grind.{flat_map-append}
use Rattle.day_sheet.proofs.Overlays.{written-more}

-- a number of 64 bits and a sign has at most nine groups, if it is not under nought
pub holdable-is : (z : ℤ) → SFits w64 z → int_le (pos 0) z ≡ holdable z
holdable-is (pos n) f =
    let z : int_le (pos 0) (pos n) ≡ true = le-leb 0 n (omega arith) in
    z ∙ sym (and_from (int_le (pos 0) (pos n)) (leb (length (groups n)) 9) z (le-leb _ 9 (groups-few 8 n (omega (arith, ints)))))
holdable-is (negsuc n) f = refl

pub held_natural : (z : ℤ) → holdable z ≡ true → z ≡ pos (nat_abs z)
held_natural (pos n) h = refl
held_natural (negsuc n) h = absurd (grind arith)

pub held_short : (z : ℤ) → holdable z ≡ true → Short (nat_abs z)
held_short z h = leb-true _ 9 (and_parts (int_le (pos 0) z) _ h).1

pub spellings-append : (ys zs : List ℤ) → spellings (ys ++ zs) ≡ spellings ys ++ spellings zs
spellings-append ys zs = ap (flat_map groups) (map-append nat_abs ys zs) ∙ flat_map-append groups (map nat_abs ys) (map nat_abs zs)

pub spellings-more : (zs : List ℤ) (i : ℕ) → i < length zs → spellings (take (i + 1) zs) ≡ spellings (take i zs) ++ groups (nat_abs (get_or zs i (pos 0)))
spellings-more zs i h =
    ap (flat_map groups) (map_more nat_abs zs i (pos 0) h)
    ∙ flat_map-append groups (map nat_abs (take i zs)) (nat_abs (get_or zs i (pos 0)) ∷ [])
    ∙ ap (λ r. spellings (take i zs) ++ r) (append-nil (groups (nat_abs (get_or zs i (pos 0)))))

pub spellings-front : (zs : List ℤ) (i : ℕ) → length (spellings (take i zs)) ≤ length (spellings zs)
spellings-front zs i =
    omega (arith, ap (λ l. length (spellings l)) (take-append-drop i zs), ap length (spellings-append (take i zs) (drop i zs)), length-append (spellings (take i zs)) (spellings (drop i zs)))

-- the next number has room where all have
pub spellings-room : (zs : List ℤ) (i : ℕ) → i < length zs → length (spellings (take i zs)) + length (groups (nat_abs (get_or zs i (pos 0)))) ≤ length (spellings zs)
spellings-room zs i h =
    omega (arith, spellings-front zs (i + 1), ap length (spellings-more zs i h), length-append (spellings (take i zs)) (groups (nat_abs (get_or zs i (pos 0)))))

-- ---- numbers written one after another
abbrev pub PutTo : (start : List ℕ) (at : ℕ) (zs : List ℤ) (i next : ℕ) (out : List ℕ) → Type 0
PutTo start at zs i next out = (next ≡ at + length (spellings (take i zs))) × (out ≡ written_at start at (spellings (take i zs)))

pub put_room : (start : List ℕ) (at : ℕ) (zs : List ℤ) (i next : ℕ) (out : List ℕ) (n : ℕ) → i < length zs → n ≡ nat_abs (get_or zs i (pos 0)) → at + length (spellings zs) ≤ length start → length out ≡ length start → PutTo start at zs i next out → next + length (groups n) ≤ length out
put_room start at zs i next out n h is room same inv = omega (arith, spellings-room zs i h, ap (λ m. length (groups m)) is, inv.0)

pub put_step : (start : List ℕ) (at : ℕ) (zs : List ℤ) (i next : ℕ) (out : List ℕ) (n : ℕ) (after : ℕ) (written : List ℕ) → i < length zs → n ≡ nat_abs (get_or zs i (pos 0)) → at + length (spellings zs) ≤ length start → PutTo start at zs i next out → after ≡ next + length (groups n) → written ≡ written_at out next (groups n) → PutTo start at zs (i + 1) after written
put_step start at zs i next out n after written h is room inv next_is written_is =
    let g : groups n ≡ groups (nat_abs (get_or zs i (pos 0))) = ap groups is in
    let e : spellings (take (i + 1) zs) ≡ spellings (take i zs) ++ groups n = spellings-more zs i h ∙ ap (λ r. spellings (take i zs) ++ r) (sym g) in
    let w = written-more start at next (spellings (take i zs)) (groups n) (omega (arith, spellings-front zs i)) inv.0 in
    (omega (arith, inv.0, next_is, ap length e, length-append (spellings (take i zs)) (groups n)), written_is ∙ ap (λ o. written_at o next (groups n)) inv.1 ∙ w ∙ ap (written_at start at) (sym e))

-- ---- the size of a record
pub spelled-size : (l : Letter) (ns ms : List ℤ) (t : List ℕ) (size : ℕ) → size ≡ length (body ns ms t) → length (spelled l ns ms t) ≡ 1 + length (groups size) + length (spellings ns) + length (spellings ms) + length t
spelled-size l ns ms t size is =
    omega (arith, length-append (groups (length (body ns ms t))) (body ns ms t), length-append (spellings ns) (spellings ms ++ t), length-append (spellings ms) t, ap (λ m. length (groups m)) is)

pub body-size : (ns ms : List ℤ) (t : List ℕ) → length (body ns ms t) ≡ length (spellings ns) + length (spellings ms) + length t
body-size ns ms t = omega (arith, length-append (spellings ns) (spellings ms ++ t), length-append (spellings ms) t)

pub spelled-more : (l : Letter) (ns ms : List ℤ) (t : List ℕ) → length (spelled l ns ms t) ≡ 1 + length (groups (length (body ns ms t))) + length (body ns ms t)
spelled-more l ns ms t = omega (arith, length-append (groups (length (body ns ms t))) (body ns ms t))

-- each number takes one byte at least, and nine at most
pub spellings-least : (zs : List ℤ) → length zs ≤ length (spellings zs)
spellings-least [] = omega arith
spellings-least (z ∷ zs) = omega (arith, spellings-least zs, groups-some (nat_abs z), length-append (groups (nat_abs z)) (spellings zs))

pub spellings-most : (zs : List ℤ) → list_all holdable zs ≡ true → length (spellings zs) ≤ 9 * length zs
spellings-most [] e = omega arith
spellings-most (z ∷ zs) e =
    let p = and_parts (holdable z) (list_all holdable zs) e in
    omega (arith, spellings-most zs p.1, held_short z p.0, length-append (groups (nat_abs z)) (spellings zs))

-- a number past 64 bits and a sign cannot be held
pub unholdable : (z : ℤ) → (SFits w64 z → ⊥) → holdable z ≡ false
unholdable (pos n) out = at (cases_Bool (holdable (pos n)))
  where
    at : (holdable (pos n) ≡ true) ⊎ (holdable (pos n) ≡ false) → holdable (pos n) ≡ false
    at (inl t) = let b = groups-bound 9 n (held_short (pos n) t) in let f : SFits w64 (pos n) = omega (arith, ints) in absurd (out f)
    at (inr f) = f
unholdable (negsuc n) out = refl

pub second_unheld : (a z m : ℤ) → holdable z ≡ false → list_all holdable (a ∷ z ∷ m ∷ []) ≡ false
second_unheld a z m f = and_right (holdable a) _ (and_left (holdable z) _ f)

-- how many bytes there are, number by number
pub size-of : (zs : List ℤ) → size_of zs ≡ length (spellings zs)
size-of [] = refl
size-of (z ∷ zs) = omega (arith, sum_by-cons (λ z. length (groups (nat_abs z))) z zs, size-of zs, length-append (groups (nat_abs z)) (spellings zs))

-- the letter's numbers take at most 36 bytes, and the others at most nine each
pub size_most : (p : Parts) → held p ≡ true → (size_of (asked p) ≤ 36) × (size_of p.more.now ≤ 9 * length p.more.now)
size_most p h =
    let b = and_parts (list_all holdable (asked p)) (list_all holdable p.more.now) h in
    (omega (arith, size-of (asked p), spellings-most (asked p) b.0, length-take (numbers_in p.letter) p.numbers, numbers_few p.letter), omega (arith, size-of p.more.now, spellings-most p.more.now b.1))
