-- (b): all hedges ever published, and their places, over each call.
use Rattle.std.proofs.Common.{◌≡◌, Ok, ℕ, suc, ◌+◌, ◌-◌, ◌*◌, ◌<◌, ◌≤◌, Bool, true, false, cond, ◌&&◌, eqb, ◌⊎◌, List, [], ◌∷◌, ◌++◌, map, length, ℤ, pos, ◌-ℤ◌, ◌*ℤ◌, nat_abs, Some, None, filter, Option, sym, refl, ap, ◌∙◌, subst, ap₂, subst₂, inl, inr, arith, length-append}
use Rattle.std.proofs.lemmas.Bool.{ne_eqb, eq-eqb, eqb-true, both_ways, and_right, cases_lt}
use Rattle.std.proofs.lemmas.List.{append-nil, length-map}
use Rattle.std.proofs.lemmas.List.Elements.{filter-append}
use Rattle.std.proofs.ByRecursion.{All-append, All-weaker, All-map, all_kept_by}
use Rattle.std.specs.List.{AllByRecursion}
use Rattle.rules.proofs.Arith.{near_none}
use Rattle.rules.proofs.Ledger.{ToInstitution}
use Rattle.rules.proofs.Allotment.{Sound}
use Rattle.rules.proofs.Lives.{here, kept_none, kept_map, kept_kept, kept_alike, going, Lived, lived_quiet, lived_turned, closed_same, fix_lines_of, end-lines_of, here-turned, here-turned_open}
use Rattle.rules.specs.declared.call.Call.TheVariants.{Fix as fix, Terminate as terminate, Publish as publish}
use Rattle.rules.specs.declared.call.Accepted.TheVariants.{Fixed, Terminated, Published}
use Rattle.rules.specs.declared.hedge.Line.{Line}
use Rattle.rules.specs.declared.auction.Terms.{Terms}
use Rattle.rules.specs.declared.hedge.Deal.{Deal}
use Rattle.rules.specs.declared.hedge.Hedge.{Hedge}
use Rattle.rules.specs.declared.hedge.Desk.{Desk}
use Rattle.rules.specs.Books.{institutions}
use Rattle.tie_rules.specs.Sharing.{Sharing}
use Rattle.conventions.specs.Deciding.{Deciding}
use Rattle.rules.specs.Allotment.{Got, deal_of, numbered_from}
use Rattle.rules.specs.Settlement.{line_of, turned, of_number, open_ones, fresh, closing, pays, penalty, penalties, short, rise}
use Rattle.rules.specs.Law.{Entry, History, told, lines_of, sum_of, rate_now, last_settled, closes, closed_at, late, latest, earliest, if_closed, dealt, near}

-- a hedge on a place, numbers to m being given
abbrev pub On : ℕ → Hedge → Type 0
On m x = (1 ≤ x.deal.number) × (x.deal.number ≤ m) × (1 ≤ x.deal.institution) × (x.deal.institution < 17)

-- the hedges on places with that number, open or closed
abbrev pub at_place : ℕ → List Hedge → List Hedge
at_place n hs = filter (λ x. eqb x.deal.number n) hs

and_swap : (o p : Bool) → (o && p) ≡ (p && o)
and_swap true true = refl
and_swap true false = refl
and_swap false true = refl
and_swap false false = refl

pub length_both : {X : Type 0} (p q : X → Bool) (xs : List X) → length (filter (λ x. p x && q x) xs) ≤ length (filter p xs)
length_both p q [] = omega arith
length_both p q (x ∷ xs) = go (p x) (q x) (length_both p q xs)
  where
    go : (t u : Bool) → length (filter (λ x. p x && q x) xs) ≤ length (filter p xs) → length (cond (t && u) (x ∷ filter (λ x. p x && q x) xs) (filter (λ x. p x && q x) xs)) ≤ length (cond t (x ∷ filter p xs) (filter p xs))
    go true true h = omega arith
    go true false h = omega arith
    go false u h = h

pub record Known (h : History) (hs : List Hedge) (m : ℕ) (g : Deal) : Type 0 where
  pub least : 1 ≤ g.number
  pub most : g.number ≤ m
  pub lived : Lived h hs g

pub record Placed (T : Sharing) (h : History) (day rate : ℕ) (hs : List Hedge) (m : ℕ) : Type 0 where
  pub current : rate_now h ≡ rate
  pub places : AllByRecursion (On m) hs
  pub apart : (n : ℕ) → length (at_place n hs) ≤ 1
  pub lines : AllByRecursion (λ l. l.hedge ≤ m) (told h)
  pub unclosed : (g : Deal) → m < g.number → day < g.maturity → closed_at g h ≡ None
  pub known : AllByRecursion (Known h hs m) (dealt T h)

-- ---- a call that nothing.lines, closes nothing and publishes nothing
pub placed_quiet : (T : Sharing) (e : Entry) (h : History) (day rate : ℕ) (hs : List Hedge) (m : ℕ)
    → e.lines ≡ [] → ((g : Deal) → closes g e ≡ false) → rate_now (e ∷ h) ≡ rate_now h → dealt T (e ∷ h) ≡ dealt T h
    → Placed T h day rate hs m → Placed T (e ∷ h) day rate hs m
placed_quiet T e h day rate hs m none open' same deals p = record {
  current = same ∙ p.current;
  places = p.places;
  apart = p.apart;
  lines = subst (λ (ls : List Line). AllByRecursion (λ l. l.hedge ≤ m) (ls ++ told h)) (sym none) p.lines;
  unclosed = λ g n d. closed_same e h g (open' g) ∙ p.unclosed g n d;
  known = subst (AllByRecursion (Known (e ∷ h) hs m)) (sym deals) (All-weaker (Known h hs m) (Known (e ∷ h) hs m)
      (λ g k. record { least = k.least; most = k.most; lived = lived_quiet e h hs hs g (ap (lines_of g.number) none) (open' g) refl k.lived }) (dealt T h) p.known);
}

-- ---- lines and their institutions
pub penalties-to : (desk : ℕ → Desk) → AllByRecursion ToInstitution (penalties desk)
penalties-to desk = All-map ToInstitution (penalty desk) (filter (short desk) institutions) (all_kept_by (short desk) (λ i. (1 ≤ i) × (i < 17)) institutions (omega arith))

pub lines_to : (m r : ℕ) (hs : List Hedge) → AllByRecursion (On m) hs → AllByRecursion ToInstitution (map (line_of r) hs)
lines_to m r hs h = All-map ToInstitution (line_of r) hs (All-weaker (On m) (λ x. (1 ≤ x.deal.institution) × (x.deal.institution < 17)) (λ x o. (o.2, o.3)) hs h)

lines_known : (m r : ℕ) (hs : List Hedge) → AllByRecursion (On m) hs → AllByRecursion (λ l. l.hedge ≤ m) (map (line_of r) hs)
lines_known m r hs h = All-map (λ l. l.hedge ≤ m) (line_of r) hs (All-weaker (On m) (λ x. x.deal.number ≤ m) (λ x o. o.1) hs h)

penalties-known : (m : ℕ) (desk : ℕ → Desk) (is : List ℕ) → AllByRecursion (λ l. l.hedge ≤ m) (map (penalty desk) is)
penalties-known m desk [] = tt
penalties-known m desk (i ∷ is) = (omega arith, penalties-known m desk is)

penalties-none : (k : ℕ) (desk : ℕ → Desk) (is : List ℕ) → 1 ≤ k → lines_of k (map (penalty desk) is) ≡ []
penalties-none k desk [] h = refl
penalties-none k desk (i ∷ is) h = ap (λ t. cond t (penalty desk i ∷ lines_of k (map (penalty desk) is)) (lines_of k (map (penalty desk) is))) (ne_eqb 0 k (λ e. omega arith)) ∙ penalties-none k desk is h

-- ---- fix
pub placed_fix : (T : Sharing) (C : Deciding) (d r : ℤ) (room count : ℕ) (desk : ℕ → Desk) (h : History) (day rate : ℕ) (hs : List Hedge) (m : ℕ) → day < nat_abs d → Placed T h day rate hs m
    → Placed T (record { call = fix d r room; answer = Ok (Fixed count); lines = penalties desk ++ map (line_of (nat_abs r)) (filter (pays C (nat_abs d) (nat_abs r)) (open_ones hs)) } ∷ h)
    (nat_abs d) (nat_abs r) (map (λ x. turned (pays C (nat_abs d) (nat_abs r) x) (closing (nat_abs d) x) (nat_abs d) (nat_abs r) x) (open_ones hs)) m
placed_fix T C d r room count desk h day rate hs m later p = record {
  current = refl;
  places = All-map (On m) turn (open_ones hs) (all_kept_by (λ x. x.live) (On m) hs p.places);
  apart = λ n. omega (
    arith,
    ap length (kept_map turn (λ x. eqb x.deal.number n) (open_ones hs)) ∙ length-map (at_place n (open_ones hs)) turn,
    ap length (kept_kept (λ x. eqb x.deal.number n) (λ x. x.live) hs ∙ kept_alike (λ x. x.live && eqb x.deal.number n) (λ x. eqb x.deal.number n && x.live) hs (λ x. and_swap x.live (eqb x.deal.number n))),
    length_both (λ x. eqb x.deal.number n) (λ x. x.live) hs,
    p.apart n,
  );
  lines = All-append (λ l. l.hedge ≤ m) new (told h)
      (All-append (λ l. l.hedge ≤ m) (penalties desk) (map (line_of (nat_abs r)) payers) (penalties-known m desk (filter (short desk) institutions))
      (lines_known m (nat_abs r) payers (all_kept_by paid (On m) (open_ones hs) (all_kept_by (λ x. x.live) (On m) hs p.places)))) p.lines;
  unclosed = λ g n k. closed_same e h g (ne_eqb g.maturity (nat_abs d) (λ q. omega arith)) ∙ p.unclosed g n (omega arith);
  known = All-weaker (Known h hs m) (Known (e ∷ h) hs' m) (λ g k. record { least = k.least; most = k.most; lived = step g k.least k.lived }) (dealt T h) p.known;
}
  where
    paid : Hedge → Bool
    paid x = pays C (nat_abs d) (nat_abs r) x

    turn : Hedge → Hedge
    turn x = turned (paid x) (closing (nat_abs d) x) (nat_abs d) (nat_abs r) x

    payers : List Hedge
    payers = filter paid (open_ones hs)

    new : List Line
    new = penalties desk ++ map (line_of (nat_abs r)) payers

    e : Entry
    e = record { call = fix d r room; answer = Ok (Fixed count); lines = new }

    hs' : List Hedge
    hs' = map turn (open_ones hs)

    step : (g : Deal) → 1 ≤ g.number → Lived h hs g → Lived (e ∷ h) hs' g
    step g least v = lived_turned paid (closing (nat_abs d)) (nat_abs d) (nat_abs r) e h hs hs' g refl
        (filter-append (λ l. eqb l.hedge g.number) (penalties desk) (map (line_of (nat_abs r)) payers)
        ∙ ap₂ (λ xs ys. xs ++ ys) (penalties-none g.number desk (filter (short desk) institutions) least) (fix_lines_of g.number (nat_abs r) paid hs))
        (here-turned_open paid (closing (nat_abs d)) (nat_abs d) (nat_abs r) g.number hs)
        (λ x o q. ap (λ (y : Deal). eqb y.maturity (nat_abs d)) (sym q))
        (λ x q. C.closes (record { day = nat_abs d; days_since = nat_abs d - x.since; rise = rise (nat_abs r) x; closing = closing (nat_abs d) x }) q)
        v

-- ---- terminate
pub none_here : (k m : ℕ) (hs : List Hedge) → m < k → AllByRecursion (On m) hs → here k hs ≡ []
none_here k m hs lt h = kept_none (of_number k) hs (All-weaker (On m) (λ x. of_number k x ≡ false) (λ x o. and_right x.live (eqb x.deal.number k) (ne_eqb x.deal.number k (λ q. omega (arith, o.1)))) hs h)

pub placed_end : (T : Sharing) (n : ℤ) (line : Line) (h : History) (day rate : ℕ) (hs : List Hedge) (m : ℕ) → eqb (length (here (nat_abs n) hs)) 0 ≡ false → Placed T h day rate hs m
    → Placed T (record { call = terminate n; answer = Ok (Terminated line); lines = map (line_of rate) (filter (of_number (nat_abs n)) hs) } ∷ h)
    day rate (map (λ x. turned (of_number (nat_abs n) x) (of_number (nat_abs n) x) day rate x) hs) m
placed_end T n line h day rate hs m some p = record {
  current = p.current;
  places = All-map (On m) turn hs p.places;
  apart = λ k. omega (arith, ap length (kept_map turn (λ x. eqb x.deal.number k) hs) ∙ length-map (at_place k hs) turn, p.apart k);
  lines = All-append (λ l. l.hedge ≤ m) new (told h) (lines_known m rate (filter shut hs) (all_kept_by shut (On m) hs p.places)) p.lines;
  unclosed = λ g k d. closed_same e h g (ne_eqb g.number (nat_abs n) (λ q. both_ways (eqb (length (here (nat_abs n) hs)) 0) some (ap (λ (ys : List Hedge). eqb (length ys) 0) (none_here (nat_abs n) m hs (omega arith) p.places)))) ∙ p.unclosed g k d;
  known = All-weaker (Known h hs m) (Known (e ∷ h) hs' m) (λ g k. record { least = k.least; most = k.most; lived = step g k.lived }) (dealt T h) p.known;
}
  where
    shut : Hedge → Bool
    shut x = of_number (nat_abs n) x

    turn : Hedge → Hedge
    turn x = turned (shut x) (shut x) day rate x

    new : List Line
    new = map (line_of rate) (filter shut hs)

    e : Entry
    e = record { call = terminate n; answer = Ok (Terminated line); lines = new }

    hs' : List Hedge
    hs' = map turn hs

    step : (g : Deal) → Lived h hs g → Lived (e ∷ h) hs' g
    step g v = lived_turned shut shut day rate e h hs hs' g p.current
        (end-lines_of g.number rate (nat_abs n) hs)
        (here-turned shut shut day rate g.number hs)
        (λ x o q. ap (λ (y : Deal). eqb y.number (nat_abs n)) (sym q) ∙ sym (ap (λ (t : Bool). t && eqb x.deal.number (nat_abs n)) o))
        (λ x q. q)
        v

-- ---- publish
abbrev pub Rising : ℕ → List Deal → Type 0
Rising n [] = Unit {0}
Rising n (d ∷ ds) = (d.number ≡ n) × Rising (suc n) ds

pub numbered_rising : (n r : ℕ) (t : Terms) (gs : List Got) → Rising n (numbered_from n r t gs)
numbered_rising n r t [] = tt
numbered_rising n r t (x ∷ xs) = go (eqb x.dollars 0) (numbered_rising n r t xs) (numbered_rising (suc n) r t xs)
  where
    go : (b : Bool) → Rising n (numbered_from n r t xs) → Rising (suc n) (numbered_from (suc n) r t xs) → Rising n (cond b (numbered_from n r t xs) (deal_of n r t x ∷ numbered_from (suc n) r t xs))
    go true i j = i
    go false i j = (refl, j)

pub rising_bounds : (n : ℕ) (ds : List Deal) → Rising n ds → AllByRecursion (λ g. (n ≤ g.number) × (g.number < n + length ds)) ds
rising_bounds n [] h = tt
rising_bounds n (d ∷ ds) h = ((omega (arith, h.0), omega (arith, h.0)), All-weaker (λ g. (suc n ≤ g.number) × (g.number < suc n + length ds)) (λ g. (n ≤ g.number) × (g.number < n + suc (length ds))) (λ g k. (omega arith, omega arith)) ds (rising_bounds (suc n) ds h.1))

pub here-fresh_none : (day k : ℕ) (ds : List Deal) → AllByRecursion (λ g. k < g.number) ds → here k (map (fresh day) ds) ≡ []
here-fresh_none day k [] h = refl
here-fresh_none day k (d ∷ ds) h = ap (λ t. cond t (fresh day d ∷ here k (map (fresh day) ds)) (here k (map (fresh day) ds))) (ne_eqb d.number k (λ q. omega (arith, h.0))) ∙ here-fresh_none day k ds h.1

rising_here : (day n : ℕ) (ds : List Deal) → Rising n ds → AllByRecursion (λ g. here g.number (map (fresh day) ds) ≡ fresh day g ∷ []) ds
rising_here day n [] h = tt
rising_here day n (d ∷ ds) h = (
  first,
  All-weaker (λ g. (suc n ≤ g.number) × (here g.number (map (fresh day) ds) ≡ fresh day g ∷ [])) (λ g. here g.number (map (fresh day) (d ∷ ds)) ≡ fresh day g ∷ [])
      (λ g k. ap (λ t. cond t (fresh day d ∷ here g.number (map (fresh day) ds)) (here g.number (map (fresh day) ds))) (ne_eqb d.number g.number (λ q. omega (arith, h.0, k.0))) ∙ k.1)
      ds (both ds (rising_bounds (suc n) ds h.1) (rising_here day (suc n) ds h.1)),
)
  where
    both : (es : List Deal) → AllByRecursion (λ g. (suc n ≤ g.number) × (g.number < suc n + length ds)) es → AllByRecursion (λ g. here g.number (map (fresh day) ds) ≡ fresh day g ∷ []) es → AllByRecursion (λ g. (suc n ≤ g.number) × (here g.number (map (fresh day) ds) ≡ fresh day g ∷ [])) es
    both [] a b = tt
    both (g ∷ es) a b = ((a.0.0, b.0), both es a.1 b.1)

    first : here d.number (map (fresh day) (d ∷ ds)) ≡ fresh day d ∷ []
    first = ap (λ t. cond t (fresh day d ∷ here d.number (map (fresh day) ds)) (here d.number (map (fresh day) ds))) (eq-eqb d.number d.number refl)
        ∙ ap (λ ys. fresh day d ∷ ys) (here-fresh_none day d.number ds (All-weaker (λ g. (suc n ≤ g.number) × (g.number < suc n + length ds)) (λ g. d.number < g.number) (λ g k. omega (arith, h.0)) ds (rising_bounds (suc n) ds h.1)))

pub rising_single : (day n m : ℕ) (ds : List Deal) → Rising m ds → length (here n (map (fresh day) ds)) ≤ 1
rising_single day n m [] h = omega arith
rising_single day n m (d ∷ ds) h = go (eqb d.number n) refl (rising_single day n (suc m) ds h.1)
  where
    go : (t : Bool) → eqb d.number n ≡ t → length (here n (map (fresh day) ds)) ≤ 1 → length (cond t (fresh day d ∷ here n (map (fresh day) ds)) (here n (map (fresh day) ds))) ≤ 1
    go true e ih = let z = here-fresh_none day n ds (All-weaker (λ g. (suc m ≤ g.number) × (g.number < suc m + length ds)) (λ g. n < g.number) (λ g q. omega (arith, eqb-true d.number n e, h.0)) ds (rising_bounds (suc m) ds h.1)) in omega (arith, ap length z)
    go false e ih = ih

pub numbered_none : (n k r : ℕ) (t : Terms) (gs : List Got) → length (numbered_from n r t gs) ≡ 0 → numbered_from k r t gs ≡ []
numbered_none n k r t [] h = refl
numbered_none n k r t (x ∷ xs) h = go (eqb x.dollars 0) h (λ q. numbered_none n k r t xs q)
  where
    go : (b : Bool) → length (cond b (numbered_from n r t xs) (deal_of n r t x ∷ numbered_from (suc n) r t xs)) ≡ 0 → (length (numbered_from n r t xs) ≡ 0 → numbered_from k r t xs ≡ []) → cond b (numbered_from k r t xs) (deal_of k r t x ∷ numbered_from (suc k) r t xs) ≡ []
    go true q ih = ih q
    go false q ih = absurd (omega (arith, q))

-- what holds of the terms' maturity and of each bid's institution holds of each deal
pub numbered_all : (n r : ℕ) (t : Terms) (gs : List Got) → AllByRecursion (λ x. Sound x.of) gs → AllByRecursion (λ g. (g.maturity ≡ t.maturity) × (1 ≤ g.institution) × (g.institution < 17)) (numbered_from n r t gs)
numbered_all n r t [] h = tt
numbered_all n r t (x ∷ xs) h = go (eqb x.dollars 0) (numbered_all n r t xs h.1) (numbered_all (suc n) r t xs h.1)
  where
    go : (b : Bool) → AllByRecursion (λ g. (g.maturity ≡ t.maturity) × (1 ≤ g.institution) × (g.institution < 17)) (numbered_from n r t xs) → AllByRecursion (λ g. (g.maturity ≡ t.maturity) × (1 ≤ g.institution) × (g.institution < 17)) (numbered_from (suc n) r t xs)
        → AllByRecursion (λ g. (g.maturity ≡ t.maturity) × (1 ≤ g.institution) × (g.institution < 17)) (cond b (numbered_from n r t xs) (deal_of n r t x ∷ numbered_from (suc n) r t xs))
    go true i j = i
    go false i j = ((refl, h.0.0, h.0.1), j)

append-none : {X : Type 0} (xs ys : List X) → xs ++ ys ≡ [] → (xs ≡ []) × (ys ≡ [])
append-none [] ys e = (refl, e)
append-none (x ∷ xs) ys e = absurd (omega (arith, ap length e))

unsettled : (g : Deal) (h : History) → lines_of g.number (told h) ≡ [] → last_settled g h ≡ g.assigned
unsettled g [] e = refl
unsettled g (x ∷ h) e =
    let q = append-none (lines_of g.number x.lines) (lines_of g.number (told h)) (sym (filter-append (λ l. eqb l.hedge g.number) x.lines (told h)) ∙ e) in
    ap (λ ls. latest ls (rate_now (x ∷ h)) (last_settled g h)) q.0 ∙ unsettled g h q.1

late-none : (g : Deal) (h : History) → closed_at g h ≡ None → late g h ≡ []
late-none g [] c = refl
late-none g (x ∷ h) c = ap₂ (λ o ys. if_closed o (lines_of g.number x.lines) ++ ys) (before (closed_at g h) (cond (closes g x) (Some (rate_now (x ∷ h))) None) c) (late-none g h (before (closed_at g h) (cond (closes g x) (Some (rate_now (x ∷ h))) None) c))
  where
    before : (o p : Option ℕ) → earliest o p ≡ None → o ≡ None
    before (Some r) p q = q
    before None p q = refl

all_both : {X : Type 0} (P Q : X → Type 0) (xs : List X) → AllByRecursion P xs → AllByRecursion Q xs → AllByRecursion (λ x. P x × Q x) xs
all_both P Q [] a b = tt
all_both P Q (x ∷ xs) a b = ((a.0, b.0), all_both P Q xs a.1 b.1)

pub placed_publish : (T : Sharing) (n first count : ℕ) (h : History) (day rate : ℕ) (hs : List Hedge) (m : ℕ) (ds : List Deal)
    → dealt T (record { call = publish n; answer = Ok (Published first count); lines = [] } ∷ h) ≡ ds ++ dealt T h
    → Rising (suc m) ds → AllByRecursion (λ g. (day < g.maturity) × (1 ≤ g.institution) × (g.institution < 17)) ds
    → Placed T h day rate hs m → Placed T (record { call = publish n; answer = Ok (Published first count); lines = [] } ∷ h) day rate (hs ++ map (fresh day) ds) (m + length ds)
placed_publish T n first count h day rate hs m ds deals rising sound p = record {
  current = p.current;
  places = All-append (On (m + length ds)) hs (map (fresh day) ds)
      (All-weaker (On m) (On (m + length ds)) (λ x o. (o.0, omega (arith, o.1), o.2, o.3)) hs p.places)
      (All-map (On (m + length ds)) (fresh day) ds (All-weaker (λ g. (Range g) × (Fine g)) (λ g. On (m + length ds) (fresh day g)) (λ g k. (omega (arith, k.0.0), omega (arith, k.0.1), k.1.1, k.1.2)) ds (all_both Range Fine ds bounds sound)));
  apart = λ k. alone k (cases_lt m k);
  lines = All-weaker (λ l. l.hedge ≤ m) (λ l. l.hedge ≤ m + length ds) (λ l k. omega arith) (told h) p.lines;
  unclosed = λ g k d. closed_same e h g refl ∙ p.unclosed g (omega arith) d;
  known = subst (AllByRecursion (Known (e ∷ h) hs' (m + length ds))) (sym deals) (All-append (Known (e ∷ h) hs' (m + length ds)) ds (dealt T h)
      (All-weaker (λ g. (Range g × Fine g) × (here g.number (map (fresh day) ds) ≡ fresh day g ∷ [])) (Known (e ∷ h) hs' (m + length ds))
      (λ g k. record { least = omega (arith, k.0.0.0); most = omega (arith, k.0.0.1); lived = born g k.0.0.0 k.0.1.0 k.1 })
      ds (all_both (λ g. Range g × Fine g) (λ g. here g.number (map (fresh day) ds) ≡ fresh day g ∷ []) ds (all_both Range Fine ds bounds sound) (rising_here day (suc m) ds rising)))
      (All-weaker (Known h hs m) (Known (e ∷ h) hs' (m + length ds)) (λ g k. record { least = k.least; most = omega (arith, k.most); lived = lived_quiet e h hs hs' g refl refl (old g k.most) k.lived }) (dealt T h) p.known));
}
  where
    e : Entry
    e = record { call = publish n; answer = Ok (Published first count); lines = [] }

    hs' : List Hedge
    hs' = hs ++ map (fresh day) ds

    Range : Deal → Type 0
    Range g = (suc m ≤ g.number) × (g.number < suc m + length ds)

    Fine : Deal → Type 0
    Fine g = (day < g.maturity) × (1 ≤ g.institution) × (g.institution < 17)

    bounds : AllByRecursion Range ds
    bounds = rising_bounds (suc m) ds rising

    parts : (k : ℕ) → length (at_place k hs') ≡ length (at_place k hs) + length (here k (map (fresh day) ds))
    parts k = ap length (filter-append (λ x. eqb x.deal.number k) hs (map (fresh day) ds)) ∙ length-append (at_place k hs) (at_place k (map (fresh day) ds))
        ∙ ap (λ (ys : List Hedge). length (at_place k hs) + length ys) (kept_map (fresh day) (λ x. eqb x.deal.number k) ds ∙ sym (kept_map (fresh day) (of_number k) ds))

    alone : (k : ℕ) → (m < k) ⊎ (k ≤ m) → length (at_place k hs') ≤ 1
    alone k (inl lt) = let z = ap length (kept_none (λ x. eqb x.deal.number k) hs (All-weaker (On m) (λ x. eqb x.deal.number k ≡ false) (λ x o. ne_eqb x.deal.number k (λ q. omega (arith, o.1))) hs p.places)) in omega (arith, parts k, rising_single day k (suc m) ds rising)
    alone k (inr le) = let z = ap length (here-fresh_none day k ds (All-weaker Range (λ d. k < d.number) (λ d q. omega (arith, q.0)) ds bounds)) in omega (arith, parts k, p.apart k)

    old : (g : Deal) → g.number ≤ m → here g.number hs' ≡ here g.number hs
    old g most = filter-append (of_number g.number) hs (map (fresh day) ds)
        ∙ ap (λ ys. here g.number hs ++ ys) (here-fresh_none day g.number ds (All-weaker Range (λ d. g.number < d.number) (λ d k. omega (arith, k.0)) ds bounds)) ∙ append-nil (here g.number hs)

    born : (g : Deal) → suc m ≤ g.number → day < g.maturity → here g.number (map (fresh day) ds) ≡ fresh day g ∷ [] → Lived (e ∷ h) hs' g
    born g least ahead place = record {
      close = subst₂ (λ (ls : List Line) (z : ℕ). near (50 * length ls) (pos 100 *ℤ sum_of ls) (pos g.dollars *ℤ (pos z -ℤ pos g.assigned))) (sym none) (sym settled) (near_none (pos g.dollars) (pos g.assigned));
      none_late = ap₂ (λ o ys. if_closed o [] ++ ys) unclosed (late-none g h unclosed);
      whose = subst (AllByRecursion (λ l. l.institution ≡ g.institution)) (sym none) tt;
      life = going (closed_same e h g refl ∙ unclosed) (fresh day g)
          (filter-append (of_number g.number) hs (map (fresh day) ds) ∙ ap₂ (λ xs ys. xs ++ ys) (none_here g.number m hs least p.places) place) refl (sym settled);
    }
      where
        unclosed : closed_at g h ≡ None
        unclosed = p.unclosed g least ahead

        none : lines_of g.number (told h) ≡ []
        none = kept_none (λ l. eqb l.hedge g.number) (told h) (All-weaker (λ l. l.hedge ≤ m) (λ l. eqb l.hedge g.number ≡ false) (λ l k. ne_eqb l.hedge g.number (λ q. omega arith)) (told h) p.lines)

        settled : last_settled g h ≡ g.assigned
        settled = unsettled g h none
