-- What a question for a hedge answers after it has closed, and for a number that was never published.
use Rattle.std.proofs.Common.{◌≡◌, ℕ, ◌≤◌, Bool, true, false, cond, not, ◌&&◌, eqb, List, [], ◌∷◌, map, length, is_some, Some, None, filter, Option, sym, refl, ap, ◌∙◌, subst, arith}
use Rattle.std.specs.List.{AllByRecursion}
use Rattle.std.proofs.lemmas.Bool.{both_ways, and_parts, and_right}
use Rattle.std.proofs.ByRecursion.{kept_by_passes}
use Rattle.rules.specs.declared.hedge.Deal.{Deal}
use Rattle.rules.specs.declared.hedge.Hedge.{Hedge}
use Rattle.rules.specs.Settlement.{turned, of_number, line_of}
use Rattle.rules.specs.Rules.{ask}
use Rattle.rules.specs.Law.{Entry, History, Fixing, fixing, rate_now, last_settled, latest, earliest, closes, closed_at, lines_of, freed, since_of, Recorded}
use Rattle.rules.specs.Books.{Books}
use Rattle.rules.proofs.Lives.{here, kept_kept, kept_alike, closed_same, Life, over, going}
use Rattle.rules.proofs.Places.{at_place}

-- ---- a closing is for good, and so is a freed place
earliest-some : (o p : Option ℕ) → is_some o ≡ true → is_some (earliest o p) ≡ true
earliest-some (Some r) p q = refl
earliest-some None p q = absurd (both_ways false refl q)

pub freed-closed : (g : Deal) (h : History) → freed g h ≡ true → is_some (closed_at g h) ≡ true
freed-closed g [] q = absurd (both_ways false refl q)
freed-closed g (e ∷ h) q = earliest-some (closed_at g h) (cond (closes g e) (Some (rate_now (e ∷ h))) None) (go (fixing e) q (λ p. freed-closed g h p))
  where
    go : (o : Option Fixing) → elim o [ Some f ↦ is_some (closed_at g h) | None ↦ freed g h ] ≡ true → (freed g h ≡ true → is_some (closed_at g h) ≡ true) → is_some (closed_at g h) ≡ true
    go (Some f) p ih = p
    go None p ih = ih p

pub unfreed : (g : Deal) (h : History) → closed_at g h ≡ None → freed g h ≡ false
unfreed g h c = go (freed g h) refl
  where
    go : (t : Bool) → freed g h ≡ t → t ≡ false
    go true q = absurd (both_ways (is_some (closed_at g h)) (ap is_some c) (freed-closed g h q))
    go false q = refl

-- ---- places
pub here_in : (n : ℕ) (hs : List Hedge) → here n hs ≡ filter (λ x. x.live) (at_place n hs)
here_in n hs = kept_alike (of_number n) (λ x. eqb x.deal.number n && x.live) hs (λ x. swap x.live (eqb x.deal.number n)) ∙ sym (kept_kept (λ x. x.live) (λ x. eqb x.deal.number n) hs)
  where
    swap : (o p : Bool) → (o && p) ≡ (p && o)
    swap true true = refl
    swap true false = refl
    swap false true = refl
    swap false false = refl

pub ask-none : (n : ℕ) (hs : List Hedge) → at_place n hs ≡ [] → ask n hs ≡ None
ask-none n [] e = refl
ask-none n (y ∷ ys) e = go (eqb y.deal.number n) e (λ q. ask-none n ys q)
  where
    go : (t : Bool) → cond t (y ∷ at_place n ys) (at_place n ys) ≡ [] → (at_place n ys ≡ [] → ask n ys ≡ None) → cond t (Some y) (ask n ys) ≡ None
    go true q ih = absurd (omega (arith, ap length q))
    go false q ih = ih q

pub ask-some : (n : ℕ) (hs : List Hedge) (x : Hedge) → at_place n hs ≡ x ∷ [] → ask n hs ≡ Some x
ask-some n [] x e = absurd (omega (arith, ap length e))
ask-some n (y ∷ ys) x e = go (eqb y.deal.number n) e (λ q. ask-some n ys x q)
  where
    go : (t : Bool) → cond t (y ∷ at_place n ys) (at_place n ys) ≡ x ∷ [] → (at_place n ys ≡ x ∷ [] → ask n ys ≡ Some x) → cond t (Some y) (ask n ys) ≡ Some x
    go true q ih = cc
    go false q ih = ih q

-- one open hedge of a number, and at most one on a place: it is the one on the place
pub place_one : (n : ℕ) (hs : List Hedge) (x : Hedge) → here n hs ≡ x ∷ [] → length (at_place n hs) ≤ 1 → at_place n hs ≡ x ∷ []
place_one n hs x e l = go (at_place n hs) (sym (here_in n hs) ∙ e) l
  where
    go : (ys : List Hedge) → filter (λ x. x.live) ys ≡ x ∷ [] → length ys ≤ 1 → ys ≡ x ∷ []
    go [] q r = absurd (omega (arith, ap length q))
    go (y ∷ z ∷ ys) q r = absurd (omega arith)
    go (y ∷ []) q r = by y.live q
      where
        by : (t : Bool) → cond t (y ∷ []) [] ≡ x ∷ [] → y ∷ [] ≡ x ∷ []
        by true i = i
        by false i = absurd (omega (arith, ap length i))

pub was_live : (n : ℕ) (hs : List Hedge) (x : Hedge) → here n hs ≡ x ∷ [] → x.live ≡ true
was_live n hs x k = (and_parts x.live (eqb x.deal.number n) (subst (AllByRecursion (λ x. of_number n x ≡ true)) k (kept_by_passes (of_number n) hs)).0).0

-- ---- a hedge that has closed
pub record Rest (h : History) (hs : List Hedge) (g : Deal) : Type 0 where
  pub gone : freed g h ≡ true → at_place g.number hs ≡ []
  pub kept : freed g h ≡ false → is_some (closed_at g h) ≡ true → (x : Hedge) × (at_place g.number hs ≡ x ∷ []) × (x.deal ≡ g) × (x.settled ≡ last_settled g h) × (x.live ≡ false)

pub rest_open : (h : History) (hs : List Hedge) (g : Deal) → closed_at g h ≡ None → Rest h hs g
rest_open h hs g c = record {
  gone = λ q. absurd (both_ways (freed g h) (unfreed g h c) q);
  kept = λ q s. absurd (both_ways (is_some (closed_at g h)) (ap is_some c) s);
}

-- a call that tells no line of it, does not close it, is no fix, and leaves its place
pub rest_quiet : (e : Entry) (h : History) (hs hs' : List Hedge) (g : Deal) → lines_of g.number e.lines ≡ [] → closes g e ≡ false → fixing e ≡ None → at_place g.number hs' ≡ at_place g.number hs → Rest h hs g → Rest (e ∷ h) hs' g
rest_quiet e h hs hs' g none still nofix same r = record {
  gone = λ q. same ∙ r.gone (sym free ∙ q);
  kept = λ q s. let k = r.kept (sym free ∙ q) (ap is_some (sym (closed_same e h g still)) ∙ s) in (k.0, same ∙ k.1, k.2, k.3 ∙ sym (ap (λ ls. latest ls (rate_now (e ∷ h)) (last_settled g h)) none), k.4);
}
  where
    free : freed g (e ∷ h) ≡ freed g h
    free = ap (λ (o : Option Fixing). elim o [ Some f ↦ is_some (closed_at g h) | None ↦ freed g h ]) nofix

-- the rate at which it closed just now is the one that it was last settled at
settled_at : (h : History) (hs : List Hedge) (g : Deal) (r : ℕ) → Life h hs g → closed_at g h ≡ Some r → last_settled g h ≡ r
settled_at h hs g r (over c k) q = cc
settled_at h hs g r (going c x k d s) q = cc

closed-now : (g : Deal) (e : Entry) (h : History) → closed_at g h ≡ None → is_some (closed_at g (e ∷ h)) ≡ true → (closes g e ≡ true) × (closed_at g (e ∷ h) ≡ Some (rate_now (e ∷ h)))
closed-now g e h c s = go (closes g e) refl
  where
    at : closed_at g (e ∷ h) ≡ cond (closes g e) (Some (rate_now (e ∷ h))) None
    at = ap (λ o. earliest o (cond (closes g e) (Some (rate_now (e ∷ h))) None)) c

    go : (t : Bool) → closes g e ≡ t → (closes g e ≡ true) × (closed_at g (e ∷ h) ≡ Some (rate_now (e ∷ h)))
    go true q = (q, at ∙ ap (λ t. cond t (Some (rate_now (e ∷ h))) None) q)
    go false q = absurd (both_ways (is_some (closed_at g (e ∷ h))) (ap is_some (at ∙ ap (λ t. cond t (Some (rate_now (e ∷ h))) None) q)) s)

module _ (paid shut : Hedge → Bool) (day r : ℕ) where
  abbrev turn : Hedge → Hedge
  turn x = turned (paid x) (shut x) day r x

  -- a fix: only open hedges stay on their places
  pub rest_fix : (e : Entry) (h : History) (hs hs' : List Hedge) (g : Deal) (f : Fixing) → fixing e ≡ Some f → rate_now (e ∷ h) ≡ r → at_place g.number hs' ≡ map turn (here g.number hs)
      → ((x : Hedge) → x.deal ≡ g → closes g e ≡ shut x) → ((x : Hedge) → shut x ≡ true → paid x ≡ true) → Life h hs g → Life (e ∷ h) hs' g → Rest (e ∷ h) hs' g
  rest_fix e h hs hs' g f isfix rate places shuts pay was is = go was
    where
      free : freed g (e ∷ h) ≡ is_some (closed_at g h)
      free = ap (λ (o : Option Fixing). elim o [ Some f ↦ is_some (closed_at g h) | None ↦ freed g h ]) isfix

      go : Life h hs g → Rest (e ∷ h) hs' g
      go (over c k) = record { gone = λ q. places ∙ ap (map turn) k; kept = λ q s. absurd (both_ways (freed g (e ∷ h)) q (free ∙ ap is_some c)) }
      go (going c x k d s) = record {
        gone = λ q. absurd (both_ways (freed g (e ∷ h)) (free ∙ ap is_some c) q);
        kept = λ q z. let n = closed-now g e h c z in let t = sym (shuts x d) ∙ n.0 in
            (turn x, places ∙ ap (map turn) k, d, ap (λ u. cond u r x.settled) (pay x t) ∙ sym (settled_at (e ∷ h) hs' g (rate_now (e ∷ h)) is n.1 ∙ rate), and_right x.live (not (shut x)) (ap not t));
      }

  -- a termination: every hedge stays on its place
  pub rest_end : (e : Entry) (h : History) (hs hs' : List Hedge) (g : Deal) → fixing e ≡ None → rate_now (e ∷ h) ≡ r → at_place g.number hs' ≡ map turn (at_place g.number hs)
      → lines_of g.number e.lines ≡ map (line_of r) (filter paid (here g.number hs)) → length (at_place g.number hs) ≤ 1
      → ((x : Hedge) → x.live ≡ true → x.deal ≡ g → closes g e ≡ shut x) → ((x : Hedge) → shut x ≡ true → paid x ≡ true) → ((x : Hedge) → x.live ≡ false → paid x ≡ false)
      → Life h hs g → Life (e ∷ h) hs' g → Rest h hs g → Rest (e ∷ h) hs' g
  rest_end e h hs hs' g nofix rate places lines one shuts pay unpaid was is rest = go was
    where
      free : freed g (e ∷ h) ≡ freed g h
      free = ap (λ (o : Option Fixing). elim o [ Some f ↦ is_some (closed_at g h) | None ↦ freed g h ]) nofix

      go : Life h hs g → Rest (e ∷ h) hs' g
      go (over c k) = record {
        gone = λ q. places ∙ ap (map turn) (rest.gone (sym free ∙ q));
        kept = λ q z. let w = rest.kept (sym free ∙ q) (ap is_some c) in let x = w.0 in (
          turn x,
          places ∙ ap (map turn) w.1,
          w.2,
          ap (λ u. cond u r x.settled) (unpaid x w.4) ∙ w.3 ∙ sym (ap (λ ls. latest ls (rate_now (e ∷ h)) (last_settled g h)) (lines ∙ ap (λ ys. map (line_of r) (filter paid ys)) k)),
          ap (λ u. u && not (shut x)) w.4,
        );
      }
      go (going c x k d s) = record {
        gone = λ q. absurd (both_ways (freed g h) (unfreed g h c) (sym free ∙ q));
        kept = λ q z. let n = closed-now g e h c z in let t = sym (shuts x (was_live g.number hs x k) d) ∙ n.0 in
            (turn x, places ∙ ap (map turn) (place_one g.number hs x k one), d, ap (λ u. cond u r x.settled) (pay x t) ∙ sym (settled_at (e ∷ h) hs' g (rate_now (e ∷ h)) is n.1 ∙ rate), and_right x.live (not (shut x)) (ap not t));
      }

-- ---- what a question answers
pub recorded : (h : History) (b : Books) (g : Deal) → length (at_place g.number b.hedges) ≤ 1 → Life h b.hedges g → Rest h b.hedges g → Recorded h b g
recorded h b g one life rest = go (freed g h) refl life
  where
    n : ℕ
    n = g.number

    shown : (x : Hedge) → at_place n b.hedges ≡ x ∷ [] → x.deal ≡ g → x.settled ≡ last_settled g h → x.live ≡ not (is_some (closed_at g h))
        → ask n b.hedges ≡ Some (record { deal = g; settled = last_settled g h; since = since_of (ask n b.hedges); live = not (is_some (closed_at g h)) })
    shown x p d s o =
        let a = ask-some n b.hedges x p in
        let since-is : x.since ≡ since_of (ask n b.hedges) = sym (ap since_of a) in
        a ∙ ap Some (λ i. record { deal = d i; settled = s i; since = since-is i; live = o i })

    go : (t : Bool) → freed g h ≡ t → Life h b.hedges g → ask n b.hedges ≡ cond t None (Some (record { deal = g; settled = last_settled g h; since = since_of (ask n b.hedges); live = not (is_some (closed_at g h)) }))
    go true q l = ask-none n b.hedges (rest.gone q)
    go false q (over c k) = let w = rest.kept q (ap is_some c) in shown w.0 w.1 w.2 w.3 (w.4 ∙ sym (ap (λ o. not (is_some o)) c))
    go false q (going c x k d s) = shown x (place_one n b.hedges x k one) d s (was_live n b.hedges x k ∙ sym (ap (λ o. not (is_some o)) c))
