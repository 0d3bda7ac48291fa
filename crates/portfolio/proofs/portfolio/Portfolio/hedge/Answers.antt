use Rattle.std.proofs.Common.{◌∙◌, pos, rules}
use borrow.Author.Tests.{tests}
use Rattle.std.proofs.lemmas.Iterator.{YieldsList-from_slice}
use Rattle.std.proofs.lemmas.Iterator.Search.{find_from_yields_List}
use Rattle.std.specs.Ordering.{int_eq}
use Rattle.rules.specs.declared.hedge.Hedge.{Hedge}
use Rattle.portfolio.specs.View.{placed_of}
use Rattle.portfolio.proofs.Lists.{asked}
use Rattle.portfolio.proofs.portfolio.Portfolio.hedge.Goals as goal

pub returns : goal.returns
returns c =
    let xs = placed_of c.args.self.now in
    let e = find_from_yields_List (λ (x : Hedge). int_eq (pos x.deal.number) c.args.number) _ _ c.find.result c.find.ensures.ran (YieldsList-from_slice xs (c.iter.ensures.rest ∙ c.on_places.ensures.placed)) (λ x b q k. search (rules, tests)) in
    c.copied.ensures ∙ e ∙ asked c.args.number xs
