-- What a search for a day among the holidays tells.
use Rattle.std.proofs.Common.{◌≡◌, zero, suc, Bool, true, false, ◌&&◌, int_eq, int_lt, List, [], ◌∷◌, ℤ, negsuc, Option, None, Some, MatchOption, Bor, Decides, sym, refl, arith, rules}
use Rattle.std.specs.Option.{option_copied}
use native.Mathlib.Numerals.{unary_clauses}
use Rattle.std.specs.List.{slice_get, IsAnyAnswer, IsAllAdjacentAnswer}
use Rattle.std.proofs.lemmas.List.Elements.{contains_decides}
use Rattle.std.proofs.lemmas.Int.{ints}
use Rattle.std.proofs.lemmas.Bool.Decides.{Decides-by_or, same_from_decides, Decides-int_eq}
use Rattle.terms.specs.Ranges.{is_day}
use Rattle.terms.specs.Plans.{ascend, same, is_among}

same-decides : (a b : ℤ) → Decides (same a b) (a ≡ b)
same-decides a b = (λ h. grind (arith, ints), λ h. grind (arith, ints))

-- what a search for a day among the holidays answers
pub among_is : (day : ℤ) (xs : List ℤ) (r : Bool) → IsAnyAnswer (λ y t. int_eq y day ≡ t) xs r → r ≡ is_among day xs
among_is day xs r h =
    same_from_decides r (is_among day xs) (contains_decides int_eq Decides-int_eq xs day r h) (Decides-by_or (λ x. same x day) (λ x. x ≡ day) (is_among day) (λ x. same-decides x day) refl (λ _ _. refl) xs)

-- days that are each below the next, which is a day, ascend
pub ascend_after : (last : ℤ) (xs : List ℤ) (r : Bool) → IsAllAdjacentAnswer (λ x y b. b ≡ (int_lt x y && is_day y)) (last ∷ xs) r → r ≡ ascend last xs
ascend_after last [] true h = refl
ascend_after last [] false (k, l, f) = absurd (omega (arith, l))
ascend_after last (x ∷ xs) true h =
    let a : true ≡ (int_lt last x && is_day x) = h 0 last (omega arith) in
    let ih : true ≡ ascend x xs = ascend_after x xs true (λ k d l. simp unary_clauses (simp unary_clauses at (h (suc k) d (omega (arith, l))))) in
    rw (sym a, sym ih) refl
ascend_after last (x ∷ xs) false (zero, l, f) = rw (sym (f last)) refl
ascend_after last (x ∷ xs) false (suc k, l, f) =
    let ih : false ≡ ascend x xs = ascend_after x xs false (k, omega (arith, l), λ d. simp unary_clauses (simp unary_clauses at (f d))) in
    rw (sym ih) (search rules)

-- the first number is a day, if there is one
abbrev pub starts : List ℤ → Bool
starts [] = true
starts (x ∷ xs) = is_day x

-- what a search for the first number found was a day
pub starts_by : (N : Type 0) (P : Bor ℤ → Type 0) (xs : List ℤ) (found : Option (Bor ℤ)) → option_copied found ≡ slice_get xs 0 → MatchOption found N P → ((x : Bor ℤ) → P x → is_day x.now ≡ true) → starts xs ≡ true
starts_by N P [] found e m h = refl
starts_by N P (x ∷ xs) None e m h = absurd (grind (arith, e))
starts_by N P (x ∷ xs) (Some y) e m h =
    let day : is_day y.now ≡ true = h y m in
    grind (arith, e, day)

-- days ascend after nothing where the first is a day, and each is below the next, which is a day
pub ascend_days : (xs : List ℤ) (r : Bool) → starts xs ≡ true → IsAllAdjacentAnswer (λ x y b. b ≡ (int_lt x y && is_day y)) xs r → r ≡ ascend (negsuc 0) xs
ascend_days [] true d h = refl
ascend_days [] false d (k, l, f) = absurd (omega (arith, l))
ascend_days (x ∷ xs) r d h =
    let b : is_day x ≡ true = d in
    let a : int_lt (negsuc 0) x ≡ true = search rules in
    rw (a, b) (ascend_after x xs r h)
