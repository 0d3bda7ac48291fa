use Rattle.std.proofs.Common.{ℕ, ◌≤◌, List, take, sym, ap, ◌∙◌, subst}
use Rattle.std.specs.List.{AllByRecursion}
use Rattle.rules.specs.Allotment.{paired}
use Rattle.rules.specs.Books.{sealed}
use Rattle.allotment.specs.Allotting.{dollars_of}
use Rattle.book.proofs.Published.{front, standing-allottable, publish_issued}
use Rattle.book.proofs.Steps.{under_held}
use Rattle.book.proofs.book.Book.publish.Goals as goal

pub write_dollars-requires-clause-passed : goal.write_dollars-requires-clause-passed
write_dollars-requires-clause-passed g c = (standing-allottable (g.T.TieRule.meaning c.args.tie_rule.now) c.args.self.now c.in_ok-standing.standing c.in_ok-standing.ensures.0).passed

pub issue_allotted-requires-clause-dollars : goal.issue_allotted-requires-clause-dollars
issue_allotted-requires-clause-dollars g c =
    let k = c.args.self.now in
    let a = c.in_ok-standing.standing in
    let T = g.T.TieRule.meaning c.args.tie_rule.now in
    let able = standing-allottable T k a c.in_ok-standing.ensures.0 in
    subst (λ (ds : List ℕ). AllByRecursion (λ d. d ≤ 2000000000) ds) (sym (front k.taken k.bids c.write_dollars.new.dollars (dollars_of T a.terms.offer) k.sized.0 k.few.0 c.write_dollars.ensures)) able.most

pub returns : goal.returns
returns g c =
    let k = c.args.self.now in
    let a = c.in_ok-standing.standing in
    let T = g.T.TieRule.meaning c.args.tie_rule.now in
    let able = standing-allottable T k a c.in_ok-standing.ensures.0 in
    let out = c.write_dollars.new.dollars in
    let is = front k.taken k.bids out (dollars_of T a.terms.offer) k.sized.0 k.few.0 c.write_dollars.ensures in
    publish_issued T k c.args.number a (take k.taken out) c.issue_allotted.result c.issue_allotted.new.self c.in_ok-standing.ensures.0 (under_held k.auction (sealed c.args.number) a c.in_ok-standing.ensures) (able.pairs ∙ ap (paired (take k.taken k.bids)) (sym is)) c.issue_allotted.ensures
