-- What a `?` passes on. Assumes nothing.
use Rattle.std.proofs.Common.{◌≡◌, Some, None, Ok, Err, Option, Result, refl, ap}
use Rattle.std.specs.Option.{ok_or}
use Rattle.std.specs.Result.{MatchResult, IsErrAnd}

-- the error is the one that was met
pub passed : {A E : Type 0} (r : Result A E) (e : E) → IsErrAnd r (λ y. y ≡ e) → r ≡ Err e
passed (Ok x) e h = absurd h
passed (Err y) e h = ap (λ y. Err y) h

-- where there was no value, the error is the one that was asked for
pub told : {A E : Type 0} (e why : E) (o : Option A) → o ≡ None → ◌≡◌ {A = Result A E} (Err e) (ok_or o why) → e ≡ why
told e why None none is = cc
told e why (Some x) none is = cc

-- a changed error was made of an error
pub mapped : {A E D : Type 0} (Q : E → D → Type 0) (r : Result A E) (m : Result A D) (d : D) → MatchResult r (λ x. m ≡ Ok x) (λ e. IsErrAnd m (Q e)) → m ≡ Err d → (e : E) × (r ≡ Err e) × Q e d
mapped Q (Ok x) m d cases is = cc
mapped Q (Err e) m d cases is = (e, refl, rw is at cases)

-- and what was no error is the same
pub kept : {A E D : Type 0} (Q : E → D → Type 0) (r : Result A E) (m : Result A D) (x : A) → MatchResult r (λ x. m ≡ Ok x) (λ e. IsErrAnd m (Q e)) → m ≡ Ok x → r ≡ Ok x
kept Q (Ok y) m x cases is = cc
kept Q (Err e) m x cases is = absurd (rw is at cases)
