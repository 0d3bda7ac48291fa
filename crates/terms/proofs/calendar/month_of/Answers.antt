use Rattle.std.proofs.Common.{◌<◌, ◌≤◌, rules}
use Rattle.std.proofs.lemmas.Iterator.{first_from_Range}
use Rattle.terms.specs.Calendar.{leap_day, month_end}
use Rattle.terms.proofs.Dates.{month_found}
use Rattle.terms.proofs.calendar.month_of.Goals as goal

pub returns : goal.returns
returns c =
    let leap = leap_day c.args.year in
    let within = c.args.within in
    month_found leap within _ c.find.result c.unwrap_or.ensures c.requires (first_from_Range _ _ _ c.find.result (λ k. within < month_end leap k) (λ k. month_end leap k ≤ within) c.find.ensures.ran (λ x q h. search rules) (λ x q h. search rules))
