-- What the tables keep to is kept by a new bid and by a written desk.
use Rattle.std.proofs.Common.{◌≡◌, ℕ, Bool, true, false, cond, ◌&&◌, leb, List, [], ◌∷◌, Some, Option, sym, refl, ap, ◌∙◌, subst}
use lib.Signed.{lt_z}
use Rattle.std.specs.List.{list_all}
use Rattle.std.proofs.lemmas.Bool.{and_parts}
use Rattle.rules.specs.declared.auction.Kind.{Kind}
use Rattle.rules.specs.declared.auction.Bid.{Bid}
use Rattle.rules.specs.Allotment.{entered}
use Rattle.book.specs.Soundness.{is_sound_bid, is_sound_auction}
use Rattle.book.specs.declared.standing.Standing.{Standing}

pub and_true : (a b : Bool) → a ≡ true → b ≡ true → a && b ≡ true
and_true a b p q = ap (λ t. t && b) p ∙ q

all_entered : (p : Bid → Bool) (x : Bid) (xs : List Bid) → p x ≡ true → list_all p xs ≡ true → list_all p (entered x xs) ≡ true
all_entered p x [] g h = and_true (p x) true g refl
all_entered p x (y ∷ ys) g h = go (lt_z y.price x.price) (λ q. all_entered p x ys g q)
  where
    parts : (p y ≡ true) × (list_all p ys ≡ true)
    parts = and_parts (p y) (list_all p ys) h

    go : (t : Bool) → (list_all p ys ≡ true → list_all p (entered x ys) ≡ true) → list_all p (cond t (x ∷ y ∷ ys) (y ∷ entered x ys)) ≡ true
    go true later = and_true (p x) (list_all p (y ∷ ys)) g h
    go false later = and_true (p y) (list_all p (entered x ys)) parts.0 (later parts.1)

-- a sound bid is taken
pub sound_taken : (rate : ℕ) (o : Option Standing) (a : Standing) (x : Bid) (xs ys : List Bid) → o ≡ Some a → is_sound_bid a.terms.kind rate x ≡ true → ys ≡ entered x xs → is_sound_auction rate o xs ≡ true → is_sound_auction rate o ys ≡ true
sound_taken rate o a x xs ys e g is h = subst (λ (u : Option Standing). is_sound_auction rate u ys ≡ true) (sym e) (subst (λ (zs : List Bid). is_sound_auction rate (Some a) zs ≡ true) (sym is) (go (subst (λ (u : Option Standing). is_sound_auction rate u xs ≡ true) e h)))
  where
    kind : Kind
    kind = a.terms.kind

    go : is_sound_auction rate (Some a) xs ≡ true → is_sound_auction rate (Some a) (entered x xs) ≡ true
    go s = let parts = and_parts (leb 1 a.terms.offer && leb a.terms.offer 2000) (list_all (is_sound_bid kind rate) xs) s in
        and_true _ _ parts.0 (all_entered (is_sound_bid kind rate) x xs g parts.1)
