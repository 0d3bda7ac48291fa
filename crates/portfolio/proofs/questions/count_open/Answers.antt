use Rattle.std.proofs.Common.{◌∙◌, cond, sym, rules}
use borrow.Author.Tests.{tests}
use Rattle.std.proofs.lemmas.Iterator.{YieldsList-from_slice, YieldsList-from_map}
use Rattle.std.proofs.lemmas.Iterator.Consumers.{sum_by_from_yields_List}
use Rattle.std.proofs.lemmas.List.Sums.{length-filter}
use Rattle.rules.specs.declared.hedge.Hedge.{Hedge}
use Rattle.portfolio.proofs.questions.count_open.Goals as goal

pub returns : goal.returns
returns c =
    let xs = c.args.hedges.now in
    sum_by_from_yields_List (λ (x : Hedge). cond x.live 1 0) xs c.map.result c.sum.result c.sum.ensures.ran
    (YieldsList-from_map _ (λ (x : Hedge). cond x.live 1 0) (YieldsList-from_slice xs cc) c.map.ensures.closure (λ x r q k. search (rules, tests)))
    ∙ sym (length-filter (λ (x : Hedge). x.live) xs)
