-- What a test of a posting tells its caller. A signed argument arrives as its bits read back.
use Rattle.std.proofs.Common.{◌≡◌, ℕ, List, ℤ, Some, None, Ok, Err, Option, Result, true, false, sym, refl, ap, ◌∙◌, w64, SFits, to_z, of_z}
use Rattle.std.proofs.lemmas.Int.{to_z-of_z}
use Rattle.terms.specs.declared.refusal.Refusal.{Refusal}
use Rattle.std.specs.Result.{is_ok}
use Rattle.terms.specs.Refusals.{answered, unless_refused}
use Rattle.terms.proofs.Answered.{none_from_ok, some_from_err}
use Rattle.accounts.specs.Postings.{posting_refused, moved, Accepted}

-- a signed number as it comes back from its bits
abbrev pub back : ℤ → ℤ
back z = to_z w64 (of_z w64 z)

pub accepted_back : (a b c : ℤ) (free : ℕ) → SFits w64 a → SFits w64 b → SFits w64 c → Accepted (back a) (back b) (back c) free → Accepted a b c free
accepted_back a b c free fa fb fc h = simp to_z-of_z at h

pub refused_back : (a b c : ℤ) (free : ℕ) → SFits w64 a → SFits w64 b → SFits w64 c → posting_refused (back a) (back b) (back c) free ≡ posting_refused a b c free
refused_back a b c free fa fb fc = simp to_z-of_z

pub moved_back : (a b c : ℤ) (xs : List ℤ) → SFits w64 a → SFits w64 b → SFits w64 c → moved (back a) (back b) (back c) xs ≡ moved a b c xs
moved_back a b c xs fa fb fc = simp to_z-of_z

-- what a test of a posting answers
abbrev Tested : Type 0
Tested = Result (Unit {0}) Refusal

-- a test that was passed, and one that was not, of the posting as it was named; `free` is how many are free by another word
pub passed : (a b c : ℤ) {f : ℕ} (free : ℕ) → f ≡ free → SFits w64 a → SFits w64 b → SFits w64 c → ◌≡◌ {A = Tested} (Ok tt) (answered (posting_refused (back a) (back b) (back c) f) tt) → posting_refused a b c free ≡ None
passed a b c free h fa fb fc e = sym (ap (posting_refused a b c) h) ∙ sym (refused_back _ _ _ _ fa fb fc) ∙ none_from_ok _ tt tt e

pub stopped : (a b c : ℤ) {f : ℕ} (free : ℕ) {why : Refusal} → f ≡ free → SFits w64 a → SFits w64 b → SFits w64 c → ◌≡◌ {A = Tested} (Err why) (answered (posting_refused (back a) (back b) (back c) f) tt) → posting_refused a b c free ≡ Some why
stopped a b c free h fa fb fc e = sym (ap (posting_refused a b c) h) ∙ sym (refused_back _ _ _ _ fa fb fc) ∙ some_from_err _ _ tt e

-- what a posting comes to by whether its test is passed
pub if_passed : {X : Type 0} (o : Option Refusal) (r : Tested) (x y : X) → r ≡ answered o tt → is_ok r ≡ true → x ≡ unless_refused o x y
if_passed None r x y e t = refl
if_passed (Some why) r x y e t = cc

pub if_stopped : {X : Type 0} (o : Option Refusal) (r : Tested) (x y : X) → r ≡ answered o tt → is_ok r ≡ false → y ≡ unless_refused o x y
if_stopped None r x y e t = cc
if_stopped (Some why) r x y e t = refl
