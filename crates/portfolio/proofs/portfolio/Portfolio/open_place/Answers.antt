use Rattle.std.proofs.Common.{◌≡◌, ◌∙◌, true, false, rules}
use borrow.Author.Tests.{tests}
use Rattle.std.proofs.lemmas.Iterator.{YieldsList-from_slice, IsFirst-from_position}
use Rattle.rules.specs.declared.hedge.Hedge.{Hedge}
use Rattle.portfolio.specs.View.{placed_of}
use Rattle.portfolio.proofs.Endings.{open_of, open_answer}
use Rattle.portfolio.proofs.portfolio.Portfolio.open_place.Goals as goal

pub returns : goal.returns
returns c =
    let n = c.args.number in
    let p = c.args.self.now in
    open_answer n p c.position.result
    (IsFirst-from_position _ _ c.position.result (λ (x : Hedge). open_of n x ≡ true) (λ (x : Hedge). open_of n x ≡ false) c.position.ensures.ran (YieldsList-from_slice (placed_of p) (c.iter.ensures.rest ∙ c.on_places.ensures.placed)) (λ x q k. search (rules, tests)) (λ x q k. search (rules, tests)))
