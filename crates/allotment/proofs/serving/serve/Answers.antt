use Rattle.std.proofs.Common.{◌≡◌, map, length, ap, ◌∙◌, rules}
use Rattle.terms.specs.Refusals.{unless_refused}
use Rattle.std.proofs.lemmas.Simd.{splat_is_map}
use Rattle.allotment.proofs.Naming.{tie-shared}
use Rattle.allotment.proofs.serving.serve.Goals as goal

pub returns-then-left-eq0 : goal.returns-then-left-eq0
returns-then-left-eq0 g c =
    let e : c.fill.new.self ≡ map (λ _. 0) c.args.amounts.now = c.fill.ensures.after (λ y e. e) ∙ splat_is_map c.args.amounts.now (length c.args.dollars.now) 0 c.requires.placed in
    search rules

pub returns-else-left-eq0 : goal.returns-else-left-eq0
returns-else-left-eq0 g c =
    let none = tie-shared c.args.amounts.now c.args.left (length c.args.dollars.now) c.requires.few c.requires.placed c.requires.ranged (search rules) c.requires.most (search rules) in
    let e = c.share.ensures.shares ∙ ap (λ o. unless_refused o ((g.T.TieRule.meaning c.args.tie_rule.now).shares c.args.amounts.now c.args.left) c.args.dollars.now) none in
    search rules
