use Rattle.std.proofs.Common.{◌≡◌, sum as sum_of, sym, ◌∙◌, rules}
use Rattle.rules.proofs.Totals.{total_is-sum}
use Rattle.std.proofs.iter.runs.Made.{chains}
use Rattle.book.proofs.deals.sum.Goals as goal

pub returns : goal.returns
returns c =
    let e : c.sum.result ≡ sum_of c.args.dollars.now = search (rules, chains) in
    e ∙ sym (total_is-sum c.args.dollars.now)
