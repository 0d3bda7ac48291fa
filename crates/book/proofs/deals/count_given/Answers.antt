use Rattle.std.proofs.Common.{◌≡◌, ltb, sym, ◌∙◌, rules}
use Rattle.std.specs.List.{count_by}
use Rattle.std.proofs.iter.runs.Made.{chains}
use Rattle.book.proofs.Issuing.{given_is-count}
use Rattle.book.proofs.deals.count_given.Goals as goal

pub returns-clause-count : goal.returns-clause-count
returns-clause-count c =
    let e : c.count.result ≡ count_by (λ d. ltb 0 d) c.args.dollars.now = search (rules, chains) in
    e ∙ sym (given_is-count c.args.dollars.now)
