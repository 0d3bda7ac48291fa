-- What an answer tells of the tests that gave it.
use Rattle.std.proofs.Common.{◌≡◌, Bool, true, false, cond, not, List, [], ◌∷◌, ◌++◌, Some, None, Ok, Err, Option, refl}
use Rattle.terms.specs.declared.refusal.Refusal.{Refusal}
use Rattle.terms.specs.Refusals.{first, answered, unless_refused}

pub none_from_ok : {X : Type 0} (o : Option Refusal) (x y : X) → Ok x ≡ answered o y → o ≡ None
none_from_ok None x y e = refl
none_from_ok (Some f) x y e = cc

pub some_from_err : {X : Type 0} (o : Option Refusal) (f : Refusal) (y : X) → Err f ≡ answered o y → o ≡ Some f
some_from_err None f y e = cc
some_from_err (Some g) f y e = cc

-- what is answered is the value
pub value_from_ok : {X : Type 0} (o : Option Refusal) (x y : X) → Ok x ≡ answered o y → x ≡ y
value_from_ok None x y e = cc
value_from_ok (Some g) x y e = cc

pub answered-none : {X : Type 0} {o : Option Refusal} (x : X) → o ≡ None → Ok x ≡ answered o x
answered-none x n = rw n

pub answered-some : {X : Type 0} {o : Option Refusal} {f : Refusal} (x : X) → o ≡ Some f → Err f ≡ answered o x
answered-some x n = rw n

-- what a call that is not refused leaves
pub new_unless : {X : Type 0} {o : Option Refusal} (new old : X) → o ≡ None → new ≡ unless_refused o new old
new_unless new old n = rw n

-- what a refused call leaves
pub old_unless : {X : Type 0} {o : Option Refusal} {f : Refusal} (new old : X) → o ≡ Some f → old ≡ unless_refused o new old
old_unless new old n = rw n

-- a test that is passed
pub first_passed : (why : Refusal) (t : Bool) (ts : List (Refusal × Bool)) → t ≡ true → first ((why, not t) ∷ ts) ≡ first ts
first_passed why t ts e = rw e refl

-- tests made in two parts
pub first_some : (xs ys : List (Refusal × Bool)) (e : Refusal) → Some e ≡ first xs → Some e ≡ first (xs ++ ys)
first_some [] ys e q = cc
first_some (x ∷ xs) ys e q = go x.1 q (λ r. first_some xs ys e r)
  where
    go : (t : Bool) → Some e ≡ cond t (Some x.0) (first xs) → (Some e ≡ first xs → Some e ≡ first (xs ++ ys)) → Some e ≡ cond t (Some x.0) (first (xs ++ ys))
    go true r ih = r
    go false r ih = ih r

pub first-none : (xs ys : List (Refusal × Bool)) → None ≡ first xs → first (xs ++ ys) ≡ first ys
first-none [] ys q = refl
first-none (x ∷ xs) ys q = go x.1 q (λ r. first-none xs ys r)
  where
    go : (t : Bool) → None ≡ cond t (Some x.0) (first xs) → (None ≡ first xs → first (xs ++ ys) ≡ first ys) → cond t (Some x.0) (first (xs ++ ys)) ≡ first ys
    go true r ih = cc
    go false r ih = ih r
