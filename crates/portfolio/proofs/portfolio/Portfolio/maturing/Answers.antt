use Rattle.std.proofs.Common.{◌∙◌, ◌&&◌, filter, rules}
use borrow.Author.Tests.{tests}
use Rattle.std.proofs.lemmas.Iterator.{YieldsList-from_slice, YieldsList-from_map}
use Rattle.std.proofs.lemmas.Iterator.Consumers.{YieldsList-at, YieldsList-from_filter, sum_by_from_yields_List}
use Rattle.rules.specs.declared.hedge.Hedge.{Hedge}
use Rattle.rules.specs.Settlement.{closing}
use Rattle.portfolio.specs.View.{placed_of}
use Rattle.portfolio.proofs.Lists.{maturing}
use Rattle.portfolio.proofs.portfolio.Portfolio.maturing.Goals as goal

pub returns : goal.returns
returns c =
    let xs = placed_of c.args.self.now in
    sum_by_from_yields_List (λ (x : Hedge). x.deal.dollars) (filter (λ (x : Hedge). x.live && closing c.args.day x) xs) c.map.result c.sum.result c.sum.ensures.ran
    (YieldsList-from_map _ (λ (x : Hedge). x.deal.dollars) (YieldsList-at c.map.ensures.source
    (YieldsList-from_filter _ (λ (x : Hedge). x.live && closing c.args.day x) (YieldsList-from_slice xs cc) c.filter.ensures.closure (λ x b q k. search (rules, tests)))) c.map.ensures.closure (λ x r q k. search (rules, tests)))
    ∙ maturing c.args.day xs
