use Rattle.std.proofs.Common.{eqb, map, filter, take, rules}
use Rattle.rules.proofs.Totals.{total_is-sum}
use Rattle.book.proofs.book.Book.test_bid.Goals as goal

pub returns-then-left-from-clause-answer : goal.returns-then-left-from-clause-answer
returns-then-left-from-clause-answer c =
    let same = total_is-sum (map (λ x. x.millions) (filter (λ x. eqb x.institution c.args.bid.institution) (take c.args.self.now.taken c.args.self.now.bids))) in
    search rules

pub returns-clause-answer : goal.returns-clause-answer
returns-clause-answer c =
    let same = total_is-sum (map (λ x. x.millions) (filter (λ x. eqb x.institution c.args.bid.institution) (take c.args.self.now.taken c.args.self.now.bids))) in
    search rules
