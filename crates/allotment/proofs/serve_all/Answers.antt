use Rattle.std.proofs.Common.{◌≡◌, ◌+◌, ◌-◌, List, length, take, drop, ap, ◌∙◌, arith}
use Rattle.std.specs.List.{list_all}
use Rattle.std.proofs.lemmas.List.{take_rest, length-take, length-drop}
use Rattle.rules.specs.declared.auction.Bid.{Bid}
use Rattle.allotment.specs.Allotting.{in_range}
use Rattle.allotment.specs.Groups.{group_size}
use Rattle.allotment.proofs.Ranges.{range_take, range_drop}
use Rattle.allotment.proofs.Turns.{serving_more}
use Rattle.allotment.proofs.serve_all.Goals as goal

-- the group among the bids from start on
group : (bids ys : List Bid) (start : _) → ys ≡ take (group_size (take (length bids - start) (drop start bids))) (take (length bids - start) (drop start bids)) → ys ≡ take (group_size (drop start bids)) (drop start bids)
group bids ys start e = e ∙ ap (λ xs. take (group_size xs) xs) (take_rest bids start)

pub serve_group-left-requires-clause-ranged : goal.serve_group-left-requires-clause-ranged
serve_group-left-requires-clause-ranged g c =
    let bids = c.args.bids.now in
    let rest = drop c.loop-group.start bids in
    ap (list_all in_range) (group bids c.in-Some.group.now c.loop-group.start c.in-Some.ensures.0) ∙ range_take (group_size rest) rest (range_drop c.loop-group.start bids c.requires.ranged)

pub loop-group-preserved : goal.loop-group-preserved
loop-group-preserved g c =
    let bids = c.args.bids.now in
    let rest = drop c.loop-group.start bids in
    let e = group bids c.in-Some.group.now c.loop-group.start c.in-Some.ensures.0 in
    let long : length c.serve_group-left.new.dollars ≡ length c.in-Some.group.now = omega (arith, c.requires.placed, c.serve_group-left.auto.dollars, length-take (c.loop-group.start + length c.in-Some.group.now - c.loop-group.start) (drop c.loop-group.start c.loop-group.dollars), length-drop c.loop-group.start c.loop-group.dollars, ap length e, length-take (group_size rest) rest, length-drop c.loop-group.start bids) in
    serving_more (g.T.TieRule.meaning c.args.tie_rule.now) c.args.offer bids c.loop-group.start c.loop-group.left c.serve_group-left.result c.in-Some.group.now c.loop-group.dollars c.serve_group-left.new.dollars (length c.args.dollars.now) c.requires c.loop-group.auto.dollars e c.in-Some.ensures.1 c.serve_group-left.ensures.written c.serve_group-left.ensures.rest long c.loop-group.invariant
