use Rattle.std.proofs.Common.{rules, ◌≡◌, ◌&&◌, true, int_lt}
use borrow.Author.Tests.{tests}
use Rattle.std.proofs.lemmas.List.Sorted.{answers_always}
use Rattle.terms.specs.Ranges.{is_day}
use Rattle.terms.proofs.Holidays.{starts, starts_by, ascend_days}
use Rattle.terms.proofs.planning.ascending.Goals as goal

pub returns-then-is_none_or : goal.returns-then-is_none_or
returns-then-is_none_or c =
    let day : starts c.args.holidays.now ≡ true = starts_by _ _ c.args.holidays.now c.first.result c.first.ensures.value c.is_none_or.ensures (λ x p. search (rules, tests)) in
    ascend_days c.args.holidays.now _ day (c.is_sorted_by.ensures.cases (λ a b. int_lt a b && is_day b) (answers_always _ _ _ (λ f a r g h. search (rules, tests))))
