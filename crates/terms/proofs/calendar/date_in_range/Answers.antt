use Rattle.std.proofs.Common.{◌≡◌, ◌+◌, ◌-◌, ◌*◌, ◌/◌, ◌%◌, ◌≤◌, sym, ◌∙◌, arith, rules}
use Rattle.terms.specs.Calendar.{leap_day, month_start, month_end}
use Rattle.terms.proofs.Dates.{date_is, number_is, one-date}
use Rattle.terms.proofs.calendar.date_in_range.Goals as goal

pub returns : goal.returns
returns c =
    let n = c.args.day in
    let y = 2017 + (4 * (n / 1461) + c.if-rest-lt1095.year) in
    let k = c.month_of-month.result in
    let d = n % 1461 - 365 * c.if-rest-lt1095.year - c.month_start.result + 1 in
    let young : y ≤ 2099 = search rules in
    let months : month_start (leap_day y) k + d ≤ month_end (leap_day y) k = search rules in
    let number : 365 * (y - 2017) + (y - 2017) / 4 + month_start (leap_day y) k + d - 1 ≡ n = search rules in
    let date = date_is y k d (omega arith) young (search rules) (omega arith) months in
    let same = number_is y k d ∙ number in
    record { date = date; number = same; only = λ e h n. one-date e _ h date (n ∙ sym same) }
