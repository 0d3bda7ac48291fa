use Rattle.std.proofs.Common.{not, ◌&&◌, ap, ◌∙◌, w64}
use Rattle.std.proofs.lemmas.Int.{to_z-of_z}
use Rattle.terms.specs.Plans.{is_workday, is_among}
use Rattle.terms.proofs.Holidays.{among_is}
use Rattle.terms.proofs.planning.is_business_day.Goals as goal

pub returns-then-is_workday : goal.returns-then-is_workday
returns-then-is_workday c =
    let xs = c.args.holidays.now in
    let day = c.args.day in
    let back = to_z-of_z w64 day c.ranges.day in
    let among = among_is _ xs c.contains.result c.contains.ensures.cases ∙ ap (λ z. is_among z xs) back in
    ap not among ∙ ap (λ b. b && not (is_among day xs)) (c.if-is_workday.ensures ∙ ap is_workday back)
