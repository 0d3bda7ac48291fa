-- A settlement, hedge by hedge.
use Rattle.std.proofs.Common.{◌≡◌, ℕ, ◌+◌, ◌<◌, ◌≤◌, Bool, true, false, cond, List, [], ◌∷◌, ◌++◌, map, length, get_or, take, drop, set, Some, None, filter, Option, sym, ap, ◌∙◌, ap₂, arith, length-set, length-take}
use Rattle.std.specs.List.{AllByRecursion}
use Rattle.std.proofs.lemmas.List.Elements.{filter_more}
use Rattle.std.proofs.lemmas.List.{append_assoc, append-nil, drop_more, drop-set-lt, length-map, length-append, map-append, map_more, set_at, take_more_set}
use Rattle.conventions.specs.Deciding.{Deciding}
use Rattle.rules.specs.declared.hedge.Hedge.{Hedge}
use Rattle.rules.specs.declared.hedge.Line.{Line}
use Rattle.rules.specs.Settlement.{line_of, pays}
use Rattle.rules.proofs.Sizes.{length-kept}
use Rattle.portfolio.specs.Fitting.{no_hedge, is_fit, is_sound, Payable}
use Rattle.portfolio.specs.Settling.{counted, settled_one, with_line}
use Rattle.portfolio.proofs.Sizes.{line-payable}
use Rattle.portfolio.proofs.Soundness.{headed, sound_fit}

no_line : Line
no_line = line_of 0 no_hedge

module _ (C : Deciding) (day r : ℕ) where
  -- the lines of those of some hedges that are paid
  abbrev pub lines_of : List Hedge → List Line
  lines_of xs = map (line_of r) (filter (pays C day r) xs)

  -- i hedges of hs are settled, and w lines written into ls
  pub record Settling (hs hs' : List Hedge) (ls ls' : List Line) (i w : ℕ) : Type 0 where
    pub long : length hs' ≡ length hs
    pub done : take i hs' ≡ map (settled_one C day r) (take i hs)
    pub rest : drop i hs' ≡ drop i hs
    pub told : ls' ≡ lines_of (take i hs) ++ drop w ls
    pub count : w ≡ length (filter (pays C day r) (take i hs))

  -- no more lines than hedges so far
  pub settling_few : (hs : List Hedge) (i w : ℕ) → w ≡ length (filter (pays C day r) (take i hs)) → w ≤ i
  settling_few hs i w e = let k = length-kept (pays C day r) (take i hs) in let t = length-take i hs in omega arith

  -- one line more
  told_more : (xs : List Hedge) (x : Hedge) (ls ls' : List Line) (w : ℕ) (o : Option Line) (t : Bool) → w < length ls → w ≡ length (filter (pays C day r) xs) → ls' ≡ lines_of xs ++ drop w ls → o ≡ cond t (Some (line_of r x)) None
      → (with_line o w ls' ≡ map (line_of r) (filter (pays C day r) xs ++ cond t (x ∷ []) []) ++ drop (counted o w) ls) × (counted o w ≡ length (filter (pays C day r) xs ++ cond t (x ∷ []) []))
  told_more xs x ls ls' w o false l c e f =
      (ap (λ (q : Option Line). with_line q w ls') f ∙ e ∙ ap₂ (λ (ys : List Hedge) (q : Option Line). map (line_of r) ys ++ drop (counted q w) ls) (sym (append-nil (filter (pays C day r) xs))) (sym f), ap (λ (q : Option Line). counted q w) f ∙ c ∙ ap length (sym (append-nil (filter (pays C day r) xs))))
  told_more xs x ls ls' w o true l c e f =
      let ys = filter (pays C day r) xs in
      let a = map (line_of r) ys in
      let n : length a ≡ w = length-map ys (line_of r) ∙ sym c in
      let written : set ls' w (line_of r x) ≡ (a ++ (line_of r x ∷ [])) ++ drop (w + 1) ls =
      ap (λ (zs : List Line). set zs w (line_of r x)) (e ∙ ap (λ (zs : List Line). a ++ zs) (drop_more ls w no_line l)) ∙ set_at a (get_or ls w no_line) (drop (w + 1) ls) (line_of r x) w n ∙ sym (append_assoc a (line_of r x ∷ []) (drop (w + 1) ls)) in
      (ap (λ (q : Option Line). with_line q w ls') f ∙ written ∙ ap₂ (λ (zs : List Line) (q : Option Line). zs ++ drop (counted q w) ls) (sym (map-append (line_of r) ys (x ∷ []))) (sym f), ap (λ (q : Option Line). counted q w) f ∙ (let k = length-append ys (x ∷ []) in omega arith))

  pub settling_more : (hs hs' : List Hedge) (ls ls' : List Line) (i w : ℕ) (y : Hedge) (o : Option Line) → Settling hs hs' ls ls' i w → i < length hs → i < length ls → y ≡ settled_one C day r (get_or hs' i no_hedge) → o ≡ cond (pays C day r (get_or hs' i no_hedge)) (Some (line_of r (get_or hs' i no_hedge))) None
      → Settling hs (set hs' i y) ls (with_line o w ls') (i + 1) (counted o w)
  settling_more hs hs' ls ls' i w y o s l m e f = record {
    long = length-set hs' i y ∙ s.long;
    done = take_more_set hs' i y l' ∙ ap₂ (λ (zs : List Hedge) (z : Hedge). zs ++ (z ∷ [])) s.done (e ∙ ap (settled_one C day r) same) ∙ sym (map_more (settled_one C day r) hs i no_hedge l);
    rest = drop-set-lt (i + 1) hs' i y (omega arith) ∙ later;
    told = both.0 ∙ ap (λ (zs : List Hedge). map (line_of r) zs ++ drop (counted o w) ls) (sym (filter_more (pays C day r) hs i no_hedge l));
    count = both.1 ∙ ap length (sym (filter_more (pays C day r) hs i no_hedge l));
  }
    where
      l' : i < length hs'
      l' = omega (arith, s.long)

      split : get_or hs' i no_hedge ∷ drop (i + 1) hs' ≡ get_or hs i no_hedge ∷ drop (i + 1) hs
      split = sym (drop_more hs' i no_hedge l') ∙ s.rest ∙ drop_more hs i no_hedge l

      same : get_or hs' i no_hedge ≡ get_or hs i no_hedge
      same = let p = split in cc

      later : drop (i + 1) hs' ≡ drop (i + 1) hs
      later = let p = split in cc

      both : (with_line o w ls' ≡ map (line_of r) (filter (pays C day r) (take i hs) ++ cond (pays C day r (get_or hs i no_hedge)) (get_or hs i no_hedge ∷ []) []) ++ drop (counted o w) ls) × (counted o w ≡ length (filter (pays C day r) (take i hs) ++ cond (pays C day r (get_or hs i no_hedge)) (get_or hs i no_hedge ∷ []) []))
      both = told_more (take i hs) (get_or hs i no_hedge) ls ls' w o (pays C day r (get_or hs i no_hedge)) (omega (arith, settling_few hs i w s.count)) s.count s.told (f ∙ ap (λ (x : Hedge). cond (pays C day r x) (Some (line_of r x)) None) same)

  -- the next hedge is as it was, and so it is fit
  pub settling_fit : (high : ℕ) (hs hs' : List Hedge) (ls ls' : List Line) (i w : ℕ) → Settling hs hs' ls ls' i w → i < length hs → is_sound 0 high hs ≡ true → is_fit (get_or hs' i no_hedge) ≡ true
  settling_fit high hs hs' ls ls' i w s l h =
      let m : i < length hs' = omega (arith, s.long) in
      let p = sym (drop_more hs' i no_hedge m) ∙ s.rest ∙ drop_more hs i no_hedge l in
      let same : get_or hs' i no_hedge ≡ get_or hs i no_hedge = cc in
      ap is_fit same ∙ sound_fit 0 high hs i l h

-- the lines of sound hedges can be posted
pub payable_lines : (r low high : ℕ) (xs : List Hedge) → r ≤ 999999 → is_sound low high xs ≡ true → AllByRecursion Payable (map (line_of r) xs)
payable_lines r low high [] l h = tt
payable_lines r low high (x ∷ xs) l h = let p = headed low high x xs h in (line-payable r x l p.fit, payable_lines r x.deal.number high xs l p.rest)
