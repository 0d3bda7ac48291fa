-- Every penalty line is one percent of the shortfall at that fix.
use Rattle.std.proofs.Common.{◌≡◌, ℕ, zero, suc, ◌-◌, true, ltb, List, map, pos, neg_ℤ, nat_abs, Some, None, filter, Option, refl, arith}
use Rattle.std.specs.List.{AllByRecursion}
use Rattle.std.proofs.lemmas.Bool.{and_parts, ltb-true}
use Rattle.std.proofs.ByRecursion.{All-append, All-map, All-weaker, all_kept_by, kept_by_passes}
use Rattle.terms.specs.declared.plan.Plan.{Plan}
use Rattle.terms.specs.declared.refusal.Refusal.{Refusal}
use Rattle.terms.specs.Refusals.{first}
use Rattle.terms.specs.Rounding.{rounded}
use Rattle.tie_rules.specs.Sharing.{Sharing}
use Rattle.conventions.specs.Deciding.{Deciding}
use Rattle.rules.specs.declared.hedge.Hedge.{Hedge}
use Rattle.rules.specs.declared.call.Call.{Call}
use Rattle.rules.specs.declared.call.Call.TheVariants.{Admit as admit, Announce as announce, Bid as bid, Seal as seal, Publish as publish, Void as void, Fix as fix, Lodge as lodge, Release as release, Terminate as terminate}
use Rattle.rules.specs.Books.{Books, institutions}
use Rattle.rules.specs.Settlement.{line_of, of_number, open_ones, pays, penalty, penalties, short}
use Rattle.rules.specs.Rules.{tests, answers, after, step, judged}
use Rattle.rules.specs.Law.{PenaltiesOnePercent, Penal, History, run}
use Rattle.rules.proofs.Places.{On}
use Rattle.rules.proofs.Runs.{Kept, kept_run}

-- rounding is alike on both sides of nought
rounded-neg : (n : ℕ) → rounded (neg_ℤ (pos n)) ≡ neg_ℤ (rounded (pos n))
rounded-neg zero = refl
rounded-neg (suc n) = refl

module _ (P : Plan) (T : Sharing) (C : Deciding) (h : History) (b : Books) (k : Kept T h b) where
  penalties-penal : AllByRecursion (Penal b) (penalties b.desk)
  penalties-penal = All-map (Penal b) (penalty b.desk) (filter (short b.desk) institutions)
      (All-weaker (λ i. short b.desk i ≡ true) (λ i. Penal b (penalty b.desk i))
      (λ i q _. (ltb-true (b.desk i).collateral (b.desk i).requirement (and_parts (b.desk i).admitted (ltb (b.desk i).collateral (b.desk i).requirement) q).1, rounded-neg ((b.desk i).requirement - (b.desk i).collateral)))
      (filter (short b.desk) institutions) (kept_by_passes (short b.desk) institutions))

  lines_penal : (r : ℕ) (hs : List Hedge) → AllByRecursion (On b.numbered) hs → AllByRecursion (Penal b) (map (line_of r) hs)
  lines_penal r hs a = All-map (Penal b) (line_of r) hs (All-weaker (On b.numbered) (λ x. Penal b (line_of r x)) (λ x o q. absurd (omega (arith, o.0, q))) hs a)

  penal_answers : (c : Call) → AllByRecursion (Penal b) (answers P T C b c).lines
  penal_answers (admit i) = tt
  penal_answers (announce kd o c m) = tt
  penal_answers (bid n i q m) = tt
  penal_answers (seal n) = tt
  penal_answers (publish n) = tt
  penal_answers (void t) = tt
  penal_answers (fix d r room) = All-append (Penal b) (penalties b.desk) (map (line_of (nat_abs r)) (filter (pays C (nat_abs d) (nat_abs r)) (open_ones b.hedges))) penalties-penal
      (lines_penal (nat_abs r) (filter (pays C (nat_abs d) (nat_abs r)) (open_ones b.hedges)) (all_kept_by (pays C (nat_abs d) (nat_abs r)) (On b.numbered) (open_ones b.hedges) (all_kept_by (λ x. x.live) (On b.numbered) b.hedges k.placed.places)))
  penal_answers (lodge i z) = tt
  penal_answers (release i z) = tt
  penal_answers (terminate n) = lines_penal b.rate (filter (of_number (nat_abs n)) b.hedges) (all_kept_by (of_number (nat_abs n)) (On b.numbered) b.hedges k.placed.places)

  penal_step : (c : Call) → AllByRecursion (Penal b) (step P T C b c).0.lines
  penal_step c = go (first (tests P T C b c))
    where
      go : (o : Option Refusal) → AllByRecursion (Penal b) (judged o (answers P T C b c) b (after P T C b c)).0.lines
      go (Some why) = tt
      go None = penal_answers c

pub penalties-one_percent : PenaltiesOnePercent
penalties-one_percent P T C free calls c = penal_step P T C (run P T C free calls).history (run P T C free calls).books (kept_run P T C free calls) c
