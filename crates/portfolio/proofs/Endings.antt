-- Where an open hedge stands, and whether there is one.
use Rattle.std.proofs.Common.{◌≡◌, ℕ, suc, ◌<◌, ◌≤◌, Bool, true, false, ◌&&◌, ◌||◌, eqb, List, [], ◌∷◌, length, get_or, ℤ, pos, nat_abs, Some, None, filter, Option, sym, refl, ap, ◌∙◌, arith, length-take, MatchOption}
use lib.Signed.{lt_z}
use Rattle.std.specs.List.{AllWithin, HoldsAt}
use Rattle.std.specs.Ordering.{int_eq}
use Rattle.std.proofs.lemmas.List.{get_or-take}
use Rattle.std.proofs.lemmas.Bool.{or_from, eq-eqb, ne_eqb, and_right, cond-false, false≢true}
use Rattle.rules.specs.declared.hedge.Hedge.{Hedge}
use Rattle.rules.specs.Settlement.{of_number}
use Rattle.portfolio.specs.declared.portfolio.Portfolio.{Portfolio}
use Rattle.portfolio.specs.Ending.{none_open, OpenAt}
use Rattle.portfolio.specs.Fitting.{no_hedge}
use Rattle.portfolio.specs.View.{placed_of}
use Rattle.portfolio.proofs.Lists.{same_number, below_none}
use Rattle.portfolio.proofs.Soundness.{alone_at}

-- open, and of this number
abbrev pub open_of : ℤ → Hedge → Bool
open_of number x = x.live && int_eq (pos x.deal.number) number

none_kept : (test : Hedge → Bool) (xs : List Hedge) → ((k : ℕ) (d : Hedge) → k < length xs → test (get_or xs k d) ≡ false) → filter test xs ≡ []
none_kept test [] h = refl
none_kept test (x ∷ xs) h = cond-false (test x) (x ∷ filter test xs) (filter test xs) (h 0 x (omega arith)) ∙ none_kept test xs (λ k d l. h (suc k) d (omega arith))

module _ (number : ℤ) (p : Portfolio) where
  here : lt_z number (pos 0) ≡ false → (x : Hedge) → open_of number x ≡ of_number (nat_abs number) x
  here s x = ap (λ t. x.live && t) (same_number x.deal.number number s)

  nowhere : lt_z number (pos 0) ≡ true → (x : Hedge) → open_of number x ≡ false
  nowhere s x = and_right x.live (int_eq (pos x.deal.number) number) (below_none x.deal.number number s)

  absent : AllWithin (λ x. open_of number x ≡ false) (placed_of p) 0 (length (placed_of p)) → none_open number (placed_of p) ≡ true
  absent h = go (lt_z number (pos 0)) refl
    where
      go : (t : Bool) → lt_z number (pos 0) ≡ t → (t || eqb (length (filter (of_number (nat_abs number)) (placed_of p))) 0) ≡ true
      go true s = refl
      go false s = eq-eqb (length (filter (of_number (nat_abs number)) (placed_of p))) 0 (ap length (none_kept (of_number (nat_abs number)) (placed_of p) (λ k d l. sym (here s (get_or (placed_of p) k d)) ∙ h k d (omega arith) l)))

  present : (i : ℕ) → i < length (placed_of p) → open_of number (get_or (placed_of p) i no_hedge) ≡ true → OpenAt number p i
  present i l o = go (lt_z number (pos 0)) refl
    where
      go : (t : Bool) → lt_z number (pos 0) ≡ t → OpenAt number p i
      go true s = absurd (false≢true (sym (nowhere s (get_or (placed_of p) i no_hedge)) ∙ o))
      go false s =
          let m : i < p.placed = omega (arith, simp length-take at l) in
          let room : p.placed ≤ length p.hedges = omega arith in
          let x = get_or p.hedges i no_hedge in
          let is : of_number (nat_abs number) x ≡ true = sym (here s x) ∙ ap (open_of number) (sym (get_or-take p.placed p.hedges i no_hedge m)) ∙ o in
          let one = ap length (alone_at p.numbered p.placed p.hedges i m room p.sound (nat_abs number) is) in
          (m, or_from (lt_z number (pos 0)) (eqb (length (filter (of_number (nat_abs number)) (placed_of p))) 0) s (ne_eqb (length (filter (of_number (nat_abs number)) (placed_of p))) 0 (λ z. omega arith)), is)

  -- what a search for an open hedge tells
  pub open_answer : (r : Option ℕ) → MatchOption r (AllWithin (λ x. open_of number x ≡ false) (placed_of p) 0 (length (placed_of p))) (λ i. (i < length (placed_of p)) × HoldsAt (λ x. open_of number x ≡ true) (placed_of p) i × AllWithin (λ x. open_of number x ≡ false) (placed_of p) 0 i) → MatchOption r (none_open number (placed_of p) ≡ true) (OpenAt number p)
  open_answer None h = absent h
  open_answer (Some i) h = present i h.0 (h.1 no_hedge)
