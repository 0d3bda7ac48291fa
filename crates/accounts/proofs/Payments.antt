-- What a payment line posts, and that it keeps the sum of the balances.
use Rattle.std.proofs.Common.{◌≡◌, ℕ, ◌-◌, ◌<◌, ◌≤◌, min, Bool, true, false, cond, not, ◌||◌, eqb, List, length, ℤ, pos, nat_abs, Some, None, Err, Option, Result, sym, refl, ap, ◌∙◌, ⊎_elim, arith, w64, SFits}
use lib.Signed.{le_z, lt_z}
use Rattle.std.proofs.lemmas.Int.{ints, to_z-of_z}
use Rattle.std.proofs.lemmas.Bool.{cases_lt, or_parts, not-false, eqb-false}
use Rattle.terms.specs.declared.refusal.Refusal.{Refusal}
use Rattle.terms.specs.declared.refusal.Refusal.TheVariants.{UnknownParty, AmountOutOfRange}
use Rattle.terms.specs.Ranges.{is_party, is_posting}
use Rattle.terms.specs.Refusals.{answered, unless_refused}
use Rattle.accounts.specs.Postings.{Accepted, same_party, posting_refused, moved, line_payer, line_payee, line_amount, line_refused, line_paid, total}
use Rattle.accounts.proofs.Answered.{back}
use Rattle.accounts.proofs.Totals.{total-moved}

-- what a posting of an amount answers and leaves
abbrev Outcome : Type 0
Outcome = Result (Unit {0}) Refusal × List ℤ × ℕ

abbrev outcome : (a b c : ℤ) (free : ℕ) (xs : List ℤ) → Outcome
outcome a b c free xs = (
  answered (posting_refused a b c free) tt,
  unless_refused (posting_refused a b c free) (moved a b c xs) xs,
  unless_refused (posting_refused a b c free) (free - 1) free,
)

-- an amount past 64 bits is refused as the greatest of them is
outcome-capped : (a b : ℤ) (n free : ℕ) (xs : List ℤ) → outcome a b (pos (min n 9223372036854775807)) free xs ≡ outcome a b (pos n) free xs
outcome-capped a b n free xs = ⊎_elim
    (λ (h : n < 9223372036854775807). let e : min n 9223372036854775807 ≡ n = omega arith in ap (λ m. outcome a b (pos m) free xs) e)
    (λ (h : 9223372036854775807 ≤ n).
    let e : min n 9223372036854775807 ≡ 9223372036854775807 = omega arith in
    let large : is_posting (pos n) ≡ false = grind (arith, ints) in
    ap (λ m. outcome a b (pos m) free xs) e ∙ both_refused a b (pos 9223372036854775807) (pos n) free xs refl large)
    (cases_lt n 9223372036854775807)
  where
    refused : (t u : Bool) (o o' : Option Refusal) (ys ys' xs : List ℤ) (free : ℕ) → u ≡ false
        → ◌≡◌ {A = Outcome} (
          answered (cond t (Some UnknownParty) (cond (not u) (Some AmountOutOfRange) o)) tt,
          unless_refused (cond t (Some UnknownParty) (cond (not u) (Some AmountOutOfRange) o)) ys xs,
          unless_refused (cond t (Some UnknownParty) (cond (not u) (Some AmountOutOfRange) o)) (free - 1) free,
        )
        (cond t (Err UnknownParty) (Err AmountOutOfRange), xs, free)
    refused true u o o' ys ys' xs free e = refl
    refused false u o o' ys ys' xs free e = rw e

    both_refused : (a b c d : ℤ) (free : ℕ) (xs : List ℤ) → is_posting c ≡ false → is_posting d ≡ false → outcome a b c free xs ≡ outcome a b d free xs
    both_refused a b c d free xs e e' =
        let t = not (is_party a) || not (is_party b) || same_party a b in
        refused t (is_posting c) _ None (moved a b c xs) xs xs free e ∙ sym (refused t (is_posting d) _ None (moved a b d xs) xs xs free e')

pub pays : (i z : ℤ) → SFits w64 z → lt_z (back z) (pos 0) ≡ true → (i ≡ line_payer i z) × (pos 0 ≡ line_payee i z)
pays i z f h =
    let h' : lt_z z (pos 0) ≡ true = ap (λ k. lt_z k (pos 0)) (sym (to_z-of_z w64 z f)) ∙ h in
    let e : le_z (pos 0) z ≡ false = grind (arith, ints) in
    (rw e, rw e)

pub receives : (i z : ℤ) → SFits w64 z → lt_z (back z) (pos 0) ≡ false → (pos 0 ≡ line_payer i z) × (i ≡ line_payee i z)
receives i z f h =
    let h' : lt_z z (pos 0) ≡ false = ap (λ k. lt_z k (pos 0)) (sym (to_z-of_z w64 z f)) ∙ h in
    let e : le_z (pos 0) z ≡ true = grind (arith, ints) in
    (rw e, rw e)

-- the amount of a line, as it is computed and passed
pub amount_back : (z r : ℤ) → SFits w64 z → SFits w64 r → r ≡ pos (min (nat_abs (back z)) 9223372036854775807) → back r ≡ pos (min (nat_abs z) 9223372036854775807)
amount_back z r f g e = to_z-of_z w64 r g ∙ e ∙ ap (λ k. pos (min (nat_abs k) 9223372036854775807)) (to_z-of_z w64 z f)

none_test : (t : Bool) (e : Refusal) (o : Option Refusal) → cond t (Some e) o ≡ None → (t ≡ false) × (o ≡ None)
none_test true e o h = (cc, cc)
none_test false e o h = (refl, h)

accepted_from_none : (a b c : ℤ) (free : ℕ) → posting_refused a b c free ≡ None → Accepted a b c free
accepted_from_none a b c free h =
    let parties = none_test (not (is_party a) || not (is_party b) || same_party a b) _ _ h in
    let amount = none_test (not (is_posting c)) _ _ parties.1 in
    let place = none_test (eqb free 0) _ _ amount.1 in
    let p = or_parts (not (is_party a) || not (is_party b)) (same_party a b) parties.0 in
    let q = or_parts (not (is_party a)) (not (is_party b)) p.0 in
    let payer = not-false (is_party a) q.0 in
    let payee = not-false (is_party b) q.1 in
    let other = p.1 in
    let some = eqb-false free 0 place.0 in
    let range = not-false (is_posting c) amount.0 in
    record {
      payer_least = grind (arith, ints);
      payer_most = grind (arith, ints);
      payee_least = grind (arith, ints);
      payee_most = grind (arith, ints);
      apart = λ (e : a ≡ b). grind (arith, ints);
      least = grind (arith, ints);
      most = grind (arith, ints);
      some = omega arith;
    }

-- no posting changes the sum of the balances
total_kept : (a b c : ℤ) (free : ℕ) (xs : List ℤ) → length xs ≡ 17 → total (unless_refused (posting_refused a b c free) (moved a b c xs) xs) ≡ total xs
total_kept a b c free xs seventeen = either (posting_refused a b c free) refl
  where
    either : (o : Option Refusal) → posting_refused a b c free ≡ o → total (unless_refused o (moved a b c xs) xs) ≡ total xs
    either None e = total-moved a b c free xs seventeen (accepted_from_none a b c free e)
    either (Some f) e = refl

-- a payment line comes to the posting that it stands for
line-outcome : (i z a b d : ℤ) (free : ℕ) (xs : List ℤ) → a ≡ line_payer i z → b ≡ line_payee i z → d ≡ pos (min (nat_abs z) 9223372036854775807)
    → outcome a b d free xs ≡ outcome (line_payer i z) (line_payee i z) (line_amount z) free xs
line-outcome i z a b d free xs payer payee amount =
    ap (λ k. outcome k b d free xs) payer
    ∙ ap (λ k. outcome (line_payer i z) k d free xs) payee
    ∙ ap (λ k. outcome (line_payer i z) (line_payee i z) k free xs) amount
    ∙ outcome-capped (line_payer i z) (line_payee i z) (nat_abs z) free xs

-- what a posting of the line's parties and amount answers and leaves is what the line does
pub line-paid : (i z a b d : ℤ) (free free' : ℕ) (xs ys : List ℤ) (r : Result (Unit {0}) Refusal) → length xs ≡ 17
    → a ≡ line_payer i z → b ≡ line_payee i z → d ≡ pos (min (nat_abs z) 9223372036854775807)
    → r ≡ answered (posting_refused a b d free) tt
    → ys ≡ unless_refused (posting_refused a b d free) (moved a b d xs) xs
    → free' ≡ unless_refused (posting_refused a b d free) (free - 1) free
    → (r ≡ answered (line_refused i z free) tt)
    × (ys ≡ unless_refused (line_refused i z free) (line_paid i z xs) xs)
    × (free' ≡ unless_refused (line_refused i z free) (free - 1) free)
    × (total ys ≡ total xs)
line-paid i z a b d free free' xs ys r seventeen payer payee amount answer moves uses =
    let same = line-outcome i z a b d free xs payer payee amount in (
      answer ∙ ap (λ (o : Outcome). o.0) same,
      moves ∙ ap (λ (o : Outcome). o.1) same,
      uses ∙ ap (λ (o : Outcome). o.2) same,
      ap total moves ∙ total_kept a b d free xs seventeen,
    )
