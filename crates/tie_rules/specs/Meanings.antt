-- The meanings of the two tie rules, with the proofs of their laws: every statement here is proved, none is to be believed. Assumes nothing.
use Rattle.std.specs.Prelude.{◌≡◌, ℕ, zero, suc, ◌+◌, ◌-◌, ◌*◌, ◌/◌, ◌%◌, ◌<◌, ◌≤◌, min, true, ◌⊎◌, List, [], ◌∷◌, length, sum, refl}
use Rattle.std.proofs.Common.{sym, ◌∙◌, ap, inl, inr, arith, mul-le-mul_left, mul-lt-mul_of_pos_right, div-lt_iff_lt-mul}
use Rattle.std.proofs.Math.Nat.{le_of_mul-le-mul_left}
use Rattle.std.specs.List.{AllZip, list_all}
use Rattle.std.proofs.lemmas.List.{length-map}
use Rattle.std.proofs.lemmas.List.Sums.{sum_by-cons}
use Rattle.std.proofs.lemmas.Bool.{and_parts, leb-true, cases_lt}
use Rattle.tie_rules.specs.Sharing.{Sharing, Tied, is_dollars}
use Rattle.tie_rules.specs.Rules.{shares_by_receipt, parts, one_more_each, shares_pro_rata}

-- ---- by receipt
pub receipt_total : (amounts : List ℕ) (left : ℕ) → sum (shares_by_receipt amounts left) ≡ min left (sum amounts)
receipt_total [] left = omega arith
receipt_total (a ∷ amounts) left =
    omega (arith, receipt_total amounts (left - a), sum_by-cons (λ s. s) (min a left) (shares_by_receipt amounts (left - a)), sum_by-cons (λ s. s) a amounts)

pub receipt_whole : (amounts : List ℕ) (left : ℕ) → Tied amounts left → sum (shares_by_receipt amounts left) ≡ left
receipt_whole amounts left tied = receipt_total amounts left ∙ omega arith

pub receipt_within : (amounts : List ℕ) (left : ℕ) → Tied amounts left → AllZip ◌≤◌ (shares_by_receipt amounts left) amounts
receipt_within amounts left tied = each amounts left
  where
    each : (amounts : List ℕ) (left : ℕ) → AllZip ◌≤◌ (shares_by_receipt amounts left) amounts
    each [] left = tt
    each (a ∷ amounts) left = (omega arith, each amounts (left - a))

-- the meaning of the rule by receipt
abbrev pub by_receipt : Sharing
by_receipt = record { shares = shares_by_receipt; whole = receipt_whole; within = receipt_within }

-- ---- pro rata: a part is below its amount
pub part_less : (left total a : ℕ) → left < total → 1 ≤ a → left * a / total < a
part_less left total a less one = (div-lt_iff_lt-mul (omega arith)).1 (omega (arith, mul-lt-mul_of_pos_right {k = a} less one))

pub parts-less : (left total : ℕ) (amounts : List ℕ) → left < total → list_all is_dollars amounts ≡ true → AllZip ◌<◌ (parts left total amounts) amounts
parts-less left total [] less each = tt
parts-less left total (a ∷ amounts) less each =
    let b = and_parts (is_dollars a) (list_all is_dollars amounts) each in
    let d = and_parts _ _ b.0 in
    (part_less left total a less (leb-true 1 a d.0), parts-less left total amounts less b.1)

-- what rounding down takes off, in parts of a dollar over the total
abbrev pub remainders : (left total : ℕ) (amounts : List ℕ) → ℕ
remainders left total [] = 0
remainders left total (a ∷ amounts) = left * a % total + remainders left total amounts

pub parts-total : (left total : ℕ) (amounts : List ℕ) → total * sum (parts left total amounts) + remainders left total amounts ≡ left * sum amounts
parts-total left total [] = omega arith
parts-total left total (a ∷ amounts) =
    rw (sum_by-cons (λ s. s) (left * a / total) (parts left total amounts), sum_by-cons (λ s. s) a amounts) (omega (arith, parts-total left total amounts))

pub remainders-less : (left total : ℕ) (amounts : List ℕ) → 1 ≤ total → remainders left total amounts + length amounts ≤ length amounts * total
remainders-less left total [] one = omega arith
remainders-less left total (a ∷ amounts) one = omega (arith, remainders-less left total amounts one)

-- over plain numbers: the parts are at most the dollars left, and at most one dollar is missing for each amount
parts-most : (left total sum-of-parts rest : ℕ) → 1 ≤ total → total * sum-of-parts + rest ≡ left * total → sum-of-parts ≤ left
parts-most left total sum-of-parts rest one e = le_of_mul-le-mul_left {k = total} (omega arith) one

missing-few : (left total sum-of-parts rest count : ℕ) → 1 ≤ total → total * sum-of-parts + rest ≡ left * total → rest + count ≤ count * total → left - sum-of-parts ≤ count
missing-few left total sum-of-parts rest count one e small = go (cases_lt count (left - sum-of-parts))
  where
    go : (count < left - sum-of-parts) ⊎ (left - sum-of-parts ≤ count) → left - sum-of-parts ≤ count
    go (inl more) = absurd (omega (arith, mul-le-mul_left {m = suc count + sum-of-parts} {n = left} total (omega arith)))
    go (inr few) = few

-- how many dollars rounding down leaves missing
pub record Missing (left total : ℕ) (amounts : List ℕ) : Type 0 where
  pub none_over : sum (parts left total amounts) ≤ left
  pub one_each : left - sum (parts left total amounts) ≤ length amounts

pub missing : (left total : ℕ) (amounts : List ℕ) → total ≡ sum amounts → left < total → Missing left total amounts
missing left total amounts is less =
    let e : total * sum (parts left total amounts) + remainders left total amounts ≡ left * total = parts-total left total amounts ∙ ap (λ n. left * n) (sym is) in
    record {
      none_over = parts-most left total (sum (parts left total amounts)) (remainders left total amounts) (omega arith) e;
      one_each = missing-few left total (sum (parts left total amounts)) (remainders left total amounts) (length amounts) (omega arith) e (remainders-less left total amounts (omega arith));
    }

pub one_more_each-total : (n : ℕ) (shares : List ℕ) → n ≤ length shares → sum (one_more_each n shares) ≡ n + sum shares
one_more_each-total zero [] few = refl
one_more_each-total (suc n) [] few = absurd (omega arith)
one_more_each-total zero (s ∷ shares) few = omega arith
one_more_each-total (suc n) (s ∷ shares) few =
    omega (arith, one_more_each-total n shares (omega arith), sum_by-cons (λ x. x) (s + 1) (one_more_each n shares), sum_by-cons (λ x. x) s shares)

pub one_more_each-within : (n : ℕ) (shares amounts : List ℕ) → AllZip ◌<◌ shares amounts → AllZip ◌≤◌ (one_more_each n shares) amounts
one_more_each-within zero [] [] less = tt
one_more_each-within (suc n) [] [] less = tt
one_more_each-within n [] (a ∷ amounts) less = absurd less
one_more_each-within n (s ∷ shares) [] less = absurd less
one_more_each-within zero (s ∷ shares) (a ∷ amounts) less = (omega (arith, less.0), one_more_each-within zero shares amounts less.1)
one_more_each-within (suc n) (s ∷ shares) (a ∷ amounts) less = (omega (arith, less.0), one_more_each-within n shares amounts less.1)

pub rata_whole : (amounts : List ℕ) (left : ℕ) → Tied amounts left → sum (shares_pro_rata amounts left) ≡ left
rata_whole amounts left tied =
    let m = missing left (sum amounts) amounts refl tied.short in
    one_more_each-total (left - sum (parts left (sum amounts) amounts)) (parts left (sum amounts) amounts) (omega (arith, length-map amounts (λ a. left * a / sum amounts))) ∙ omega arith

pub rata_within : (amounts : List ℕ) (left : ℕ) → Tied amounts left → AllZip ◌≤◌ (shares_pro_rata amounts left) amounts
rata_within amounts left tied =
    one_more_each-within (left - sum (parts left (sum amounts) amounts)) (parts left (sum amounts) amounts) amounts (parts-less left (sum amounts) amounts tied.short tied.each)

-- the meaning of the pro rata rule
abbrev pub pro_rata : Sharing
pro_rata = record { shares = shares_pro_rata; whole = rata_whole; within = rata_within }
