-- What a posting does to the balances of a table.
use Rattle.std.proofs.Common.{◌≡◌, ℕ, ◌-◌, ◌<◌, ◌≤◌, ◌≢◌, List, length, get_or, set, ℤ, pos, ◌+ℤ◌, ◌-ℤ◌, nat_abs, ⊎_elim, arith, length-set, w64, SFits}
use Rattle.std.proofs.lemmas.Int.{ints, to_z-of_z}
use Rattle.std.proofs.lemmas.List.{get_or-set_same, get_or-set_other}
use Rattle.std.proofs.lemmas.Bool.{cases_eq}
use Rattle.accounts.specs.Postings.{Accepted, moved}
use Rattle.accounts.specs.Tables.{Bounded}
use Rattle.accounts.proofs.Answered.{back}

-- the two writes of a posting, each number as it comes back from its bits
abbrev pub written : ℤ → ℤ → ℤ → List ℤ → List ℤ
written a b c xs =
    set (set xs (nat_abs (back a)) (back (back (get_or xs (nat_abs (back a)) (pos 0)) -ℤ back c)))
    (nat_abs (back b)) (back (back (get_or xs (nat_abs (back b)) (pos 0)) +ℤ back c))

pub written_is : (a b c : ℤ) (free : ℕ) (xs : List ℤ) → Accepted a b c free → Bounded xs free → written a b c xs ≡ moved a b c xs
written_is a b c free xs h bounded =
    let p = bounded (nat_abs a) in
    let q = bounded (nat_abs b) in
    let fa : SFits w64 a = omega (arith, ints) in
    let fb : SFits w64 b = omega (arith, ints) in
    let fc : SFits w64 c = omega (arith, ints) in
    let fp : SFits w64 (get_or xs (nat_abs a) (pos 0)) = omega (arith, ints) in
    let fq : SFits w64 (get_or xs (nat_abs b) (pos 0)) = omega (arith, ints) in
    let fd : SFits w64 (get_or xs (nat_abs a) (pos 0) -ℤ c) = omega (arith, ints) in
    let fs : SFits w64 (get_or xs (nat_abs b) (pos 0) +ℤ c) = omega (arith, ints) in
    simp to_z-of_z

pub bounded_moved : (a b c : ℤ) (free : ℕ) (xs : List ℤ) → length xs ≡ 17 → free ≤ 100000 → Accepted a b c free → Bounded xs free → Bounded (moved a b c xs) (free - 1)
bounded_moved a b c free xs seventeen few h bounded k =
    let p = nat_abs a in
    let q = nat_abs b in
    let first = set xs p (get_or xs p (pos 0) -ℤ c) in
    let i : nat_abs a < length xs = omega (arith, ints) in
    let j : nat_abs b < length first = simp length-set (omega (arith, ints)) in
    let same = get_or-set_same first q (get_or xs q (pos 0) +ℤ c) (pos 0) j in
    let same' = get_or-set_same xs p (get_or xs p (pos 0) -ℤ c) (pos 0) i in
    ⊎_elim
    (λ (e : k ≡ nat_abs b). rw (e, same) (omega (arith, ints, bounded q)))
    (λ (ne : k ≢ nat_abs b). ⊎_elim
    (λ (e : k ≡ nat_abs a). rw get_or-set_other (rw (e, same') (omega (arith, ints, bounded p))))
    (λ (ne' : k ≢ nat_abs a). rw (get_or-set_other, get_or-set_other) (omega (arith, bounded k)))
    (cases_eq k (nat_abs a)))
    (cases_eq k (nat_abs b))
