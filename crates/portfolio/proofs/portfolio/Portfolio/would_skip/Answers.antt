use Rattle.std.proofs.Common.{◌∙◌, rules}
use borrow.Author.Tests.{tests}
use Rattle.std.proofs.lemmas.Iterator.{YieldsList-from_slice}
use Rattle.std.proofs.lemmas.Iterator.Search.{any_from_yields_List}
use Rattle.portfolio.specs.View.{placed_of}
use Rattle.portfolio.proofs.Lists.{late, skips}
use Rattle.portfolio.proofs.portfolio.Portfolio.would_skip.Goals as goal

pub returns : goal.returns
returns c =
    let xs = placed_of c.args.self.now in
    let e = any_from_yields_List (late c.args.day) _ _ c.any.result c.any.ensures.ran (YieldsList-from_slice xs (c.iter.ensures.rest ∙ c.on_places.ensures.placed)) (λ x b q k. search (rules, tests)) in
    e ∙ skips c.args.day xs
