-- How the balances of a journal's records follow each posting.
use Rattle.std.proofs.Common.{◌≡◌, ℕ, ◌+◌, ◌-◌, ◌*◌, ◌<◌, ◌≤◌, min, true, false, eqb, ◌≢◌, List, map, length, get_or, take, set, ℤ, pos, ◌+ℤ◌, ◌-ℤ◌, nat_abs, ◌≤ℤ◌, None, Ok, sym, refl, ap, ◌∙◌, ⊎_elim, arith, length-set, w64, SFits}
use lib.Signed.{le_z}
use Rattle.std.proofs.lemmas.Int.{ints, to_z-of_z}
use Rattle.std.proofs.lemmas.List.{get_or-set_same, get_or-set_other, ext_get_or, take_all, take_more_set, map_push, map_more}
use Rattle.std.proofs.lemmas.List.FromFn.{get_or-map-range_with_len}
use Rattle.std.proofs.lemmas.Bool.{cases_eq, cases_lt}
use Rattle.terms.specs.Ranges.{is_party}
use Rattle.terms.specs.Refusals.{first, answered}
use Rattle.accounts.specs.declared.posting.Posting.{Posting}
use Rattle.accounts.specs.Postings.{Accepted, same_party, posting_refused, question_tests, balance_of, moved, total}
use Rattle.accounts.specs.Journals.{share, moved_into, recorded, balance_by, journal_balances}
use Rattle.terms.proofs.Answered.{answered-none, new_unless}
use Rattle.accounts.proofs.Answered.{back}
use Rattle.accounts.proofs.Totals.{total-push}

abbrev pub blank : Posting
blank = record { payer = pos 0; payee = pos 0; centavos = pos 0 }

pub accepted_none : (a b c : ℤ) (free : ℕ) → Accepted a b c free → posting_refused a b c free ≡ None
accepted_none a b c free h =
    let e1 : le_z (pos 0) a ≡ true = grind (arith, ints) in
    let e2 : le_z a (pos 16) ≡ true = grind (arith, ints) in
    let e3 : le_z (pos 0) b ≡ true = grind (arith, ints) in
    let e4 : le_z b (pos 16) ≡ true = grind (arith, ints) in
    let e5 : same_party a b ≡ false = grind (arith, ints) in
    let e6 : le_z (pos 0) c ≡ true = grind (arith, ints) in
    let e7 : le_z c (pos 30000000000000) ≡ true = grind (arith, ints) in
    let e8 : eqb free 0 ≡ false = grind arith in
    rw (e1, e2, e3, e4, e5, e6, e7, e8)

pub moved-into_small : (k : ℤ) (p : Posting) → nat_abs (moved_into k p) ≤ 30000000000000
moved-into_small k p = grind (arith, ints)

same-yes : (a : ℤ) (k : ℕ) → pos 0 ≤ℤ a → k ≡ nat_abs a → same_party a (pos k) ≡ true
same-yes a k h e = grind (arith, ints)

same-no : (a : ℤ) (k : ℕ) → pos 0 ≤ℤ a → k ≢ nat_abs a → same_party a (pos k) ≡ false
same-no a k h e = grind (arith, ints)

-- the same posting, were one posting free
at_one : (a b c : ℤ) (free : ℕ) → Accepted a b c free → Accepted a b c 1
at_one a b c free h =
    record { payer_least = h.payer_least; payer_most = h.payer_most; payee_least = h.payee_least; payee_most = h.payee_most; apart = h.apart; least = h.least; most = h.most; some = omega arith }

-- a posting adds to each balance the share of its party
get_d_moved : (a b c : ℤ) (free k : ℕ) (xs : List ℤ) → length xs ≡ 17 → Accepted a b c free
    → get_or (moved a b c xs) k (pos 0) ≡ get_or xs k (pos 0) +ℤ share (pos k) (record { payer = a; payee = b; centavos = c })
get_d_moved a b c free k xs seventeen h =
    let p = nat_abs a in
    let q = nat_abs b in
    let first = set xs p (get_or xs p (pos 0) -ℤ c) in
    let i : nat_abs a < length xs = omega (arith, ints) in
    let j : nat_abs b < length first = simp length-set (omega (arith, ints)) in
    let same = get_or-set_same first q (get_or xs q (pos 0) +ℤ c) (pos 0) j in
    let same' = get_or-set_same xs p (get_or xs p (pos 0) -ℤ c) (pos 0) i in
    ⊎_elim
    (λ (e : k ≡ nat_abs b).
    let ne : k ≢ nat_abs a = λ e'. h.apart (omega (arith, ints)) in
    let t = same-no a k h.payer_least ne in
    let u = same-yes b k h.payee_least e in
    rw (t, u) (rw (e, same) refl))
    (λ (ne : k ≢ nat_abs b). ⊎_elim
    (λ (e : k ≡ nat_abs a).
    let t = same-yes a k h.payer_least e in
    rw t (rw get_or-set_other (rw (e, same') (omega (arith, ints)))))
    (λ (ne' : k ≢ nat_abs a).
    let t = same-no a k h.payer_least ne' in
    let u = same-no b k h.payee_least ne in
    rw (t, u) (rw (get_or-set_other, get_or-set_other) (omega (arith, ints))))
    (cases_eq k (nat_abs a)))
    (cases_eq k (nat_abs b))

-- one more record written
balance_push : (ps : List Posting) (n : ℕ) (p : Posting) (k : ℤ) → n < length ps
    → balance_by (take (n + 1) (set ps n p)) k ≡ balance_by (take n ps) k +ℤ moved_into k p
balance_push ps n p k h =
    ap (λ qs. balance_by qs k) (take_more_set ps n p h)
    ∙ ap total (map_push (moved_into k) (take n ps) p)
    ∙ total-push (map (moved_into k) (take n ps)) (moved_into k p)

-- a posting that is recorded moves the journal's balances
pub journal_moved : (a b c : ℤ) (free n : ℕ) (ps : List Posting) → n < length ps → n < 50000 → Accepted a b c free
    → journal_balances (set ps n (record { payer = a; payee = b; centavos = c })) (n + 1) ≡ moved a b c (journal_balances ps n)
unfolding journal_balances
journal_moved a b c free n ps h few ok =
    ext_get_or (pos 0) (journal_balances (set ps n p) (n + 1)) (moved a b c old) (sym (length_moved a b c old)) each
  where
    p : Posting
    p = record { payer = a; payee = b; centavos = c }

    old : List ℤ
    old = journal_balances ps n

    length_moved : (a b c : ℤ) (xs : List ℤ) → length (moved a b c xs) ≡ length xs
    length_moved a b c xs = simp length-set

    whole : (k : ℕ) → moved_into (pos k) p ≡ share (pos k) p
    whole k = sym (new_unless (share (pos k) p) (pos 0) (accepted_none a b c 1 (at_one a b c free ok)))

    grown : (k : ℕ) → balance_by (recorded (set ps n p) (n + 1)) (pos k) ≡ balance_by (recorded ps n) (pos k) +ℤ moved_into (pos k) p
    grown k =
        let m : min (n + 1) 50000 ≡ n + 1 = omega arith in
        let m' : min n 50000 ≡ n = omega arith in
        ap (λ i. balance_by (take i (set ps n p)) (pos k)) m
        ∙ balance_push ps n p (pos k) h
        ∙ ap (λ i. balance_by (take i ps) (pos k) +ℤ moved_into (pos k) p) (sym m')

    each : (k : ℕ) → k < 17 → get_or (journal_balances (set ps n p) (n + 1)) k (pos 0) ≡ get_or (moved a b c old) k (pos 0)
    each k i =
        get_or-map-range_with_len (λ k. balance_by (recorded (set ps n p) (n + 1)) (pos k)) 0 17 k k (pos 0) i (omega arith)
        ∙ grown k
        ∙ ap (λ z. balance_by (recorded ps n) (pos k) +ℤ z) (whole k)
        ∙ ap (λ z. z +ℤ share (pos k) p) (sym (get_or-map-range_with_len (λ k. balance_by (recorded ps n) (pos k)) 0 17 k k (pos 0) i (omega arith)))
        ∙ sym (get_d_moved a b c free k old refl ok)

-- one more record read
pub balance_more : (ps : List Posting) (i : ℕ) (k : ℤ) → i < length ps
    → balance_by (take (i + 1) ps) k ≡ balance_by (take i ps) k +ℤ moved_into k (get_or ps i blank)
balance_more ps i k h =
    ap total (map_more (moved_into k) ps i blank h) ∙ total-push (map (moved_into k) (take i ps)) (moved_into k (get_or ps i blank))

-- one turn of the running sum
pub turn : (i : ℕ) (sum one z old new : ℤ) → sum ≡ old → one ≡ z → new ≡ old +ℤ z → nat_abs sum ≤ i * 30000000000000 → nat_abs z ≤ 30000000000000 → i < 50000
    → (back (sum +ℤ back one) ≡ new) × (nat_abs (back (sum +ℤ back one)) ≤ (i + 1) * 30000000000000)
turn i sum one z old new p q s h k l =
    let fr : SFits w64 one = omega (arith, ints) in
    let fs : SFits w64 (sum +ℤ one) = omega (arith, ints) in
    (simp to_z-of_z (omega (arith, ints)), simp to_z-of_z (omega (arith, ints)))

-- the records that the list holds
pub recorded-there : (ps : List Posting) (used : ℕ) → take (min (min used 50000) (length ps)) ps ≡ recorded ps used
recorded-there ps used = ⊎_elim
    (λ (h : min used 50000 < length ps). let e : min (min used 50000) (length ps) ≡ min used 50000 = omega arith in rw e)
    (λ (h : length ps ≤ min used 50000).
    let e : length ps ≤ min (min used 50000) (length ps) = omega arith in
    take_all (min (min used 50000) (length ps)) ps e ∙ sym (take_all (min used 50000) ps h))
    (cases_lt (min used 50000) (length ps))

-- what a journal answers to a question about a party's balance
pub balance_answered : (k r : ℤ) (n : ℕ) (ps : List Posting) (used : ℕ) → is_party (back k) ≡ true → SFits w64 k → SFits w64 r
    → n ≡ min (min used 50000) (length ps) → r ≡ balance_by (take (n - 0) ps) (back k)
    → Ok (back r) ≡ answered (first (question_tests k)) (balance_of k (journal_balances ps used))
unfolding journal_balances
balance_answered k r n ps used party fk fr is e =
    let party' : is_party k ≡ true = ap is_party (sym (to_z-of_z w64 k fk)) ∙ party in
    let least : pos 0 ≤ℤ k = grind (arith, ints) in
    let i : nat_abs k < 17 = grind (arith, ints) in
    let itself : pos (nat_abs k) ≡ k = omega (arith, ints) in
    let n0 : n - 0 ≡ min (min used 50000) (length ps) = omega arith in
    let value : back r ≡ balance_of k (journal_balances ps used) =
    to_z-of_z w64 r fr ∙ e
    ∙ ap (balance_by (take (n - 0) ps)) (to_z-of_z w64 k fk)
    ∙ ap (λ qs. balance_by qs k) (ap (λ m. take m ps) n0 ∙ recorded-there ps used)
    ∙ ap (balance_by (recorded ps used)) (sym itself)
    ∙ sym (get_or-map-range_with_len (λ j. balance_by (recorded ps used) (pos j)) 0 17 (nat_abs k) (nat_abs k) (pos 0) i (omega arith)) in
    ap Ok value ∙ answered-none (balance_of k (journal_balances ps used)) (rw party' refl)
