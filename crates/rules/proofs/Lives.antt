-- (b): a hedge from its publication to its closing.
use Rattle.std.proofs.Common.{◌≡◌, ℕ, ◌*◌, Bool, true, false, cond, not, ◌&&◌, eqb, List, [], ◌∷◌, ◌++◌, map, length, ℤ, pos, ◌-ℤ◌, ◌*ℤ◌, Some, None, filter, Option, sym, refl, ap, ◌∙◌, subst, ap₂, subst₂}
use Rattle.std.proofs.lemmas.Bool.{both_ways, and_parts}
use Rattle.std.proofs.lemmas.List.Elements.{filter-append}
use Rattle.std.proofs.ByRecursion.{kept_by_passes}
use Rattle.std.specs.List.{AllByRecursion}
use Rattle.rules.proofs.Arith.{near-more, rounded-near}
use Rattle.rules.specs.declared.hedge.Line.{Line}
use Rattle.rules.specs.declared.hedge.Deal.{Deal}
use Rattle.rules.specs.declared.hedge.Hedge.{Hedge}
use Rattle.rules.specs.Settlement.{line_of, turned, of_number, open_ones, worth}
use Rattle.rules.specs.Law.{Entry, History, told, lines_of, sum_of, rate_now, last_settled, closes, closed_at, late, latest, earliest, if_closed, near, Paid}

-- the open hedge of that number, on its place
abbrev pub here : ℕ → List Hedge → List Hedge
here k hs = filter (of_number k) hs

-- ---- filters
pub kept_kept : {X : Type 0} (p q : X → Bool) (xs : List X) → filter p (filter q xs) ≡ filter (λ x. q x && p x) xs
kept_kept p q [] = refl
kept_kept p q (x ∷ xs) = go (q x) (kept_kept p q xs)
  where
    go : (t : Bool) → filter p (filter q xs) ≡ filter (λ x. q x && p x) xs → filter p (cond t (x ∷ filter q xs) (filter q xs)) ≡ cond (t && p x) (x ∷ filter (λ x. q x && p x) xs) (filter (λ x. q x && p x) xs)
    go true ih = ap (λ ys. cond (p x) (x ∷ ys) ys) ih
    go false ih = ih

pub kept_alike : {X : Type 0} (p q : X → Bool) (xs : List X) → ((x : X) → p x ≡ q x) → filter p xs ≡ filter q xs
kept_alike p q [] h = refl
kept_alike p q (x ∷ xs) h = ap₂ (λ t ys. cond t (x ∷ ys) ys) (h x) (kept_alike p q xs h)

pub kept_map : {X Y : Type 0} (f : X → Y) (p : Y → Bool) (xs : List X) → filter p (map f xs) ≡ map f (filter (λ x. p (f x)) xs)
kept_map f p [] = refl
kept_map f p (x ∷ xs) = go (p (f x)) (kept_map f p xs)
  where
    go : (t : Bool) → filter p (map f xs) ≡ map f (filter (λ x. p (f x)) xs) → cond t (f x ∷ filter p (map f xs)) (filter p (map f xs)) ≡ map f (cond t (x ∷ filter (λ x. p (f x)) xs) (filter (λ x. p (f x)) xs))
    go true ih = ap (λ ys. f x ∷ ys) ih
    go false ih = ih

pub kept_none : {X : Type 0} (p : X → Bool) (xs : List X) → AllByRecursion (λ x. p x ≡ false) xs → filter p xs ≡ []
kept_none p [] h = refl
kept_none p (x ∷ xs) h = ap (λ t. cond t (x ∷ filter p xs) (filter p xs)) h.0 ∙ kept_none p xs h.1

and_1 : (o p n : Bool) → ((o && p) && n) ≡ ((o && n) && p)
and_1 true true true = refl
and_1 true true false = refl
and_1 true false true = refl
and_1 true false false = refl
and_1 false p n = refl

and_2 : (o s n : Bool) → (o && ((o && s) && n)) ≡ ((o && n) && s)
and_2 true s n = and_1 true s n
and_2 false s n = refl

and_3 : (o n k : Bool) → ((o && n) && k) ≡ ((o && k) && (o && n))
and_3 true n k = and_1 true n k
and_3 false n k = refl

-- ---- the lines of one hedge, and its place, after a settlement
pub fix_lines_of : (k r : ℕ) (p : Hedge → Bool) (hs : List Hedge) → lines_of k (map (line_of r) (filter p (open_ones hs))) ≡ map (line_of r) (filter p (here k hs))
fix_lines_of k r p hs = kept_map (line_of r) (λ l. eqb l.hedge k) (filter p (open_ones hs))
    ∙ ap (map (line_of r)) (ap (filter (λ x. eqb x.deal.number k)) (kept_kept p (λ x. x.live) hs)
    ∙ kept_kept (λ x. eqb x.deal.number k) (λ x. x.live && p x) hs
    ∙ kept_alike (λ x. (x.live && p x) && eqb x.deal.number k) (λ x. of_number k x && p x) hs (λ x. and_1 x.live (p x) (eqb x.deal.number k))
    ∙ sym (kept_kept p (of_number k) hs))

pub end-lines_of : (k r n : ℕ) (hs : List Hedge) → lines_of k (map (line_of r) (filter (of_number n) hs)) ≡ map (line_of r) (filter (of_number n) (here k hs))
end-lines_of k r n hs = kept_map (line_of r) (λ l. eqb l.hedge k) (filter (of_number n) hs)
    ∙ ap (map (line_of r)) (kept_kept (λ x. eqb x.deal.number k) (of_number n) hs
    ∙ kept_alike (λ x. of_number n x && eqb x.deal.number k) (λ x. of_number k x && of_number n x) hs (λ x. and_3 x.live (eqb x.deal.number n) (eqb x.deal.number k))
    ∙ sym (kept_kept (of_number n) (of_number k) hs))

module _ (paid shut : Hedge → Bool) (day r : ℕ) where
  abbrev turn : Hedge → Hedge
  turn x = turned (paid x) (shut x) day r x

  pub here-turned : (k : ℕ) (hs : List Hedge) → here k (map turn hs) ≡ map turn (filter (λ x. not (shut x)) (here k hs))
  here-turned k hs = kept_map turn (of_number k) hs
      ∙ ap (map turn) (kept_alike (λ x. of_number k (turn x)) (λ x. of_number k x && not (shut x)) hs (λ x. and_1 x.live (not (shut x)) (eqb x.deal.number k))
      ∙ sym (kept_kept (λ x. not (shut x)) (of_number k) hs))

  pub here-turned_open : (k : ℕ) (hs : List Hedge) → here k (map turn (open_ones hs)) ≡ map turn (filter (λ x. not (shut x)) (here k hs))
  here-turned_open k hs = kept_map turn (of_number k) (open_ones hs)
      ∙ ap (map turn) (kept_kept (λ x. of_number k (turn x)) (λ x. x.live) hs
      ∙ kept_alike (λ x. x.live && of_number k (turn x)) (λ x. of_number k x && not (shut x)) hs (λ x. and_2 x.live (not (shut x)) (eqb x.deal.number k))
      ∙ sym (kept_kept (λ x. not (shut x)) (of_number k) hs))

-- ---- the life of a hedge
pub data Life (h : History) (hs : List Hedge) (g : Deal) : Type 0 where
  over : closed_at g h ≡ Some (last_settled g h) → here g.number hs ≡ [] → Life h hs g
  going : closed_at g h ≡ None → (x : Hedge) → here g.number hs ≡ x ∷ [] → x.deal ≡ g → x.settled ≡ last_settled g h → Life h hs g

pub record Lived (h : History) (hs : List Hedge) (g : Deal) : Type 0 where
  pub close : near (50 * length (lines_of g.number (told h))) (pos 100 *ℤ sum_of (lines_of g.number (told h))) (pos g.dollars *ℤ (pos (last_settled g h) -ℤ pos g.assigned))
  pub none_late : late g h ≡ []
  pub whose : AllByRecursion (λ l. l.institution ≡ g.institution) (lines_of g.number (told h))
  pub life : Life h hs g

pub lived_paid : (h : History) (hs : List Hedge) (g : Deal) → Lived h hs g → Paid h g
lived_paid h hs g v = record { close = v.close; at_closing = go v.life; none_late = v.none_late; whose = v.whose }
  where
    go : Life h hs g → (r : ℕ) → closed_at g h ≡ Some r → last_settled g h ≡ r
    go (over c e) r q = cc
    go (going c x e d s) r q = cc

-- a call that no .lines line of it
settled_same : (e : Entry) (h : History) (g : Deal) → lines_of g.number e.lines ≡ [] → last_settled g (e ∷ h) ≡ last_settled g h
settled_same e h g none = ap (λ ls. latest ls (rate_now (e ∷ h)) (last_settled g h)) none

lived_same : (e : Entry) (h : History) (hs hs' : List Hedge) (g : Deal) → lines_of g.number e.lines ≡ [] → Life (e ∷ h) hs' g → Lived h hs g → Lived (e ∷ h) hs' g
lived_same e h hs hs' g none life v = record {
  close = subst (λ (ls : List Line). near (50 * length ls) (pos 100 *ℤ sum_of ls) (pos g.dollars *ℤ (pos (last_settled g (e ∷ h)) -ℤ pos g.assigned))) (sym lines)
      (subst (λ (s : ℕ). near (50 * length (lines_of g.number (told h))) (pos 100 *ℤ sum_of (lines_of g.number (told h))) (pos g.dollars *ℤ (pos s -ℤ pos g.assigned))) (sym (settled_same e h g none)) v.close);
  none_late = ap₂ (λ xs ys. xs ++ ys) (ap (if_closed (closed_at g h)) none ∙ if_none (closed_at g h)) v.none_late;
  whose = subst (AllByRecursion (λ l. l.institution ≡ g.institution)) (sym lines) v.whose;
  life = life;
}
  where
    lines : lines_of g.number (e.lines ++ told h) ≡ lines_of g.number (told h)
    lines = filter-append (λ l. eqb l.hedge g.number) e.lines (told h) ∙ ap (λ ls. ls ++ lines_of g.number (told h)) none

    if_none : (o : Option ℕ) → if_closed o [] ≡ []
    if_none (Some r) = refl
    if_none None = refl

pub closed_same : (e : Entry) (h : History) (g : Deal) → closes g e ≡ false → closed_at g (e ∷ h) ≡ closed_at g h
closed_same e h g unclosed = ap (λ t. earliest (closed_at g h) (cond t (Some (rate_now (e ∷ h))) None)) unclosed ∙ else_none (closed_at g h)
  where
    else_none : (o : Option ℕ) → earliest o None ≡ o
    else_none (Some r) = refl
    else_none None = refl

-- and does not close it
pub lived_quiet : (e : Entry) (h : History) (hs hs' : List Hedge) (g : Deal) → lines_of g.number e.lines ≡ [] → closes g e ≡ false → here g.number hs' ≡ here g.number hs → Lived h hs g → Lived (e ∷ h) hs' g
lived_quiet e h hs hs' g none unclosed same v = lived_same e h hs hs' g none (go v.life) v
  where
    go : Life h hs g → Life (e ∷ h) hs' g
    go (over c k) = over (closed_same e h g unclosed ∙ c ∙ ap Some (sym (settled_same e h g none))) (same ∙ k)
    go (going c x k d s) = going (closed_same e h g unclosed ∙ c) x (same ∙ k) d (s ∙ sym (settled_same e h g none))

-- a call that settles at the rate r, and may close it
module _ (paid shut : Hedge → Bool) (day r : ℕ) (e : Entry) (h : History) (hs hs' : List Hedge) (g : Deal)
    (rate : rate_now (e ∷ h) ≡ r)
    (lines : lines_of g.number e.lines ≡ map (line_of r) (filter paid (here g.number hs)))
    (places : here g.number hs' ≡ map (turn paid shut day r) (filter (λ x. not (shut x)) (here g.number hs)))
    (shuts : (x : Hedge) → x.live ≡ true → x.deal ≡ g → closes g e ≡ shut x)
    (pay : (x : Hedge) → shut x ≡ true → paid x ≡ true) where
  all_lines : lines_of g.number (e.lines ++ told h) ≡ map (line_of r) (filter paid (here g.number hs)) ++ lines_of g.number (told h)
  all_lines = filter-append (λ l. eqb l.hedge g.number) e.lines (told h) ∙ ap (λ ls. ls ++ lines_of g.number (told h)) lines

  was_open : (x : Hedge) → here g.number hs ≡ x ∷ [] → x.live ≡ true
  was_open x k = (and_parts x.live (eqb x.deal.number g.number) (subst (AllByRecursion (λ x. of_number g.number x ≡ true)) k (kept_by_passes (of_number g.number) hs)).0).0

  module _ (v : Lived h hs g) where
    lived_over : closed_at g h ≡ Some (last_settled g h) → here g.number hs ≡ [] → Lived (e ∷ h) hs' g
    lived_over c k = lived_same e h hs hs' g none
        (over (ap (λ o. earliest o (cond (closes g e) (Some (rate_now (e ∷ h))) None)) c ∙ ap Some (sym (settled_same e h g none)))
        (places ∙ ap (λ ys. map (turn paid shut day r) (filter (λ x. not (shut x)) ys)) k)) v
      where
        none : lines_of g.number e.lines ≡ []
        none = lines ∙ ap (λ ys. map (line_of r) (filter paid ys)) k

    lived_going : closed_at g h ≡ None → (x : Hedge) → here g.number hs ≡ x ∷ [] → x.deal ≡ g → x.settled ≡ last_settled g h → Lived (e ∷ h) hs' g
    lived_going c x k d s = go (paid x) refl (shut x) refl
      where
        place : here g.number hs' ≡ map (turn paid shut day r) (cond (not (shut x)) (x ∷ []) [])
        place = places ∙ ap (λ ys. map (turn paid shut day r) (filter (λ x. not (shut x)) ys)) k

        line : lines_of g.number e.lines ≡ map (line_of r) (cond (paid x) (x ∷ []) [])
        line = lines ∙ ap (λ ys. map (line_of r) (filter paid ys)) k

        closed : closed_at g (e ∷ h) ≡ cond (shut x) (Some (rate_now (e ∷ h))) None
        closed = ap₂ (λ o t. earliest o (cond t (Some (rate_now (e ∷ h))) None)) c (shuts x (was_open x k) d)

        one_more : lines_of g.number e.lines ≡ line_of r x ∷ [] → Life (e ∷ h) hs' g → Lived (e ∷ h) hs' g
        one_more one life = record {
          close = subst₂ (λ (ls : List Line) (z : ℕ). near (50 * length ls) (pos 100 *ℤ sum_of ls) (pos g.dollars *ℤ (pos z -ℤ pos g.assigned))) (sym all) (sym settled)
              (near-more (length (lines_of g.number (told h))) (pos g.dollars) (line_of r x).centavos (sum_of (lines_of g.number (told h))) (pos g.assigned) (pos (last_settled g h)) (pos r)
              v.close
              (subst (λ (z : ℤ). near 50 (pos 100 *ℤ (line_of r x).centavos) z) (ap₂ (λ (dd : Deal) (ss : ℕ). pos dd.dollars *ℤ (pos r -ℤ pos ss)) d s) (rounded-near (worth r x))));
          none_late = ap₂ (λ o ys. if_closed o (lines_of g.number e.lines) ++ ys) c v.none_late;
          whose = subst (AllByRecursion (λ l. l.institution ≡ g.institution)) (sym all) (ap (λ (dd : Deal). dd.institution) d, v.whose);
          life = life;
        }
          where
            all : lines_of g.number (e.lines ++ told h) ≡ line_of r x ∷ lines_of g.number (told h)
            all = filter-append (λ l. eqb l.hedge g.number) e.lines (told h) ∙ ap (λ ls. ls ++ lines_of g.number (told h)) one

            settled : last_settled g (e ∷ h) ≡ r
            settled = ap (λ ls. latest ls (rate_now (e ∷ h)) (last_settled g h)) one ∙ rate

        go : (t : Bool) → paid x ≡ t → (u : Bool) → shut x ≡ u → Lived (e ∷ h) hs' g
        go true pt true pu = one_more one (over (closed ∙ ap (λ t. cond t (Some (rate_now (e ∷ h))) None) pu ∙ ap Some (sym now_rate)) (place ∙ ap (λ t. map (turn paid shut day r) (cond (not t) (x ∷ []) [])) pu))
          where
            one : lines_of g.number e.lines ≡ line_of r x ∷ []
            one = line ∙ ap (λ t. map (line_of r) (cond t (x ∷ []) [])) pt

            now_rate : last_settled g (e ∷ h) ≡ rate_now (e ∷ h)
            now_rate = ap (λ ls. latest ls (rate_now (e ∷ h)) (last_settled g h)) one
        go true pt false pu = one_more one (going (closed ∙ ap (λ t. cond t (Some (rate_now (e ∷ h))) None) pu) (turn paid shut day r x) (place ∙ ap (λ t. map (turn paid shut day r) (cond (not t) (x ∷ []) [])) pu) d (ap (λ t. cond t r x.settled) pt ∙ sym (now_rate ∙ rate)))
          where
            one : lines_of g.number e.lines ≡ line_of r x ∷ []
            one = line ∙ ap (λ t. map (line_of r) (cond t (x ∷ []) [])) pt

            now_rate : last_settled g (e ∷ h) ≡ rate_now (e ∷ h)
            now_rate = ap (λ ls. latest ls (rate_now (e ∷ h)) (last_settled g h)) one
        go false pt true pu = absurd (both_ways (paid x) pt (pay x pu))
        go false pt false pu = lived_same e h hs hs' g none
            (going (closed ∙ ap (λ t. cond t (Some (rate_now (e ∷ h))) None) pu) (turn paid shut day r x) (place ∙ ap (λ t. map (turn paid shut day r) (cond (not t) (x ∷ []) [])) pu) d (ap (λ t. cond t r x.settled) pt ∙ s ∙ sym (settled_same e h g none))) v
          where
            none : lines_of g.number e.lines ≡ []
            none = line ∙ ap (λ t. map (line_of r) (cond t (x ∷ []) [])) pt

    pub lived_turned : Lived (e ∷ h) hs' g
    lived_turned = go v.life
      where
        go : Life h hs g → Lived (e ∷ h) hs' g
        go (over c k) = lived_over c k
        go (going c x k d s) = lived_going c x k d s
