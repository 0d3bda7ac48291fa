use Rattle.std.proofs.Common.{◌≡◌, true, false, not, ◌&&◌, [], ◌∷◌, ◌++◌, nat_abs, Ok, Err, sym, refl, ap, ◌∙◌, rules}
use Rattle.std.proofs.lemmas.Int.{to_z-of_z}
use Rattle.std.proofs.lemmas.Bool.{not-false}
use Rattle.std.proofs.lemmas.Result.{err_from_is_err_and}
use Rattle.terms.specs.declared.refusal.Refusal.TheVariants.{AmountOutOfRange, UnknownKind, NoSuchDay}
use Rattle.terms.specs.Ranges.{is_millions}
use Rattle.terms.specs.Refusals.{first, answered}
use Rattle.terms.proofs.Answered.{none_from_ok, some_from_err, value_from_ok, answered-none, answered-some, first_passed, first_some}
use Rattle.rules.specs.declared.auction.Terms.{Terms}
use Rattle.rules.specs.Numbers.{is_kind, kind_of}
use Rattle.rules.specs.Rules.{is_business, terms_given}
use Rattle.rules.proofs.Runs.{passed}
use Rattle.book.proofs.Steps.{back, in_calendar}
use Rattle.book.proofs.auctions.read_terms.Goals as goal

pub returns-in_err-kind-clause-answer : goal.returns-in_err-kind-clause-answer
returns-in_err-kind-clause-answer c =
    let fk = c.ranges.kind in
    let why = c.in_err-kind.field-0.0 in
    let kinds = (UnknownKind, not (is_kind c.args.kind)) ∷ [] in
    let days = (NoSuchDay, not (is_business c.args.plan.now c.args.maturity)) ∷ [] in
    let p = err_from_is_err_and c.from_residual.result c.from_residual.ensures.1 in
    let millions : is_millions c.args.offer && is_millions c.args.cap ≡ true = search rules in
    let e : Err why ≡ answered (first kinds) (kind_of c.args.kind) = simp to_z-of_z at c.in_err-kind.ensures in
    p.1 ∙ ap Err p.2 ∙ answered-some (terms_given c.args.kind c.args.offer c.args.cap c.args.maturity) (first_passed AmountOutOfRange (is_millions c.args.offer && is_millions c.args.cap) (kinds ++ days) millions ∙ sym (first_some kinds days why (sym (some_from_err (first kinds) why (kind_of c.args.kind) e))))

pub returns-then-not-is_business_day-clause-answer : goal.returns-then-not-is_business_day-clause-answer
returns-then-not-is_business_day-clause-answer c =
    let fk = c.ranges.kind in
    let fm = c.ranges.maturity in
    let kinds = (UnknownKind, not (is_kind c.args.kind)) ∷ [] in
    let days = (NoSuchDay, not (is_business c.args.plan.now c.args.maturity)) ∷ [] in
    let millions : is_millions c.args.offer && is_millions c.args.cap ≡ true = search rules in
    let e : Ok c.in_ok-kind.kind ≡ answered (first kinds) (kind_of c.args.kind) = simp to_z-of_z at c.in_ok-kind.ensures in
    let kind = not-false (is_kind c.args.kind) (passed kinds (none_from_ok (first kinds) c.in_ok-kind.kind (kind_of c.args.kind) e)).0 in
    let day : false ≡ is_business c.args.plan.now c.args.maturity = simp to_z-of_z at c.if-not-is_business_day.ensures in
    answered-some (terms_given c.args.kind c.args.offer c.args.cap c.args.maturity) (first_passed AmountOutOfRange (is_millions c.args.offer && is_millions c.args.cap) (kinds ++ days) millions ∙ first_passed UnknownKind (is_kind c.args.kind) days kind ∙ rw (sym day) refl)

pub overflow_cast-result : goal.overflow_cast-result
overflow_cast-result c = search rules

pub overflow_cast-result-2 : goal.overflow_cast-result-2
overflow_cast-result-2 c = search rules

pub overflow_cast-result-3 : goal.overflow_cast-result-3
overflow_cast-result-3 c =
    let fm = c.ranges.maturity in
    let day : true ≡ is_business c.args.plan.now c.args.maturity = simp to_z-of_z at c.if-not-is_business_day.ensures in
    let bounds = in_calendar c.args.plan.now c.args.maturity (sym day) in
    search rules

pub returns-clause-answer : goal.returns-clause-answer
returns-clause-answer c =
    let fk = c.ranges.kind in
    let fm = c.ranges.maturity in
    let fo = c.ranges.offer in
    let fc = c.ranges.cap in
    let kinds = (UnknownKind, not (is_kind c.args.kind)) ∷ [] in
    let days = (NoSuchDay, not (is_business c.args.plan.now c.args.maturity)) ∷ [] in
    let millions : is_millions c.args.offer && is_millions c.args.cap ≡ true = search rules in
    let e : Ok c.in_ok-kind.kind ≡ answered (first kinds) (kind_of c.args.kind) = simp to_z-of_z at c.in_ok-kind.ensures in
    let kind = not-false (is_kind c.args.kind) (passed kinds (none_from_ok (first kinds) c.in_ok-kind.kind (kind_of c.args.kind) e)).0 in
    let day : true ≡ is_business c.args.plan.now c.args.maturity = simp to_z-of_z at c.if-not-is_business_day.ensures in
    let k = value_from_ok (first kinds) c.in_ok-kind.kind (kind_of c.args.kind) e in
    let o : nat_abs (back c.args.offer) ≡ nat_abs c.args.offer = simp to_z-of_z in
    let u : nat_abs (back c.args.cap) ≡ nat_abs c.args.cap = simp to_z-of_z in
    let m : nat_abs (back c.args.maturity) ≡ nat_abs c.args.maturity = simp to_z-of_z in
    let same : ◌≡◌ {A = Terms} (record { kind = c.in_ok-kind.kind; offer = nat_abs (back c.args.offer); cap = nat_abs (back c.args.cap); maturity = nat_abs (back c.args.maturity) }) (terms_given c.args.kind c.args.offer c.args.cap c.args.maturity) =
    λ j. record { kind = k j; offer = o j; cap = u j; maturity = m j } in
    ap Ok same ∙ answered-none (terms_given c.args.kind c.args.offer c.args.cap c.args.maturity) (first_passed AmountOutOfRange (is_millions c.args.offer && is_millions c.args.cap) (kinds ++ days) millions ∙ first_passed UnknownKind (is_kind c.args.kind) days kind ∙ first_passed NoSuchDay (is_business c.args.plan.now c.args.maturity) [] (sym day))
