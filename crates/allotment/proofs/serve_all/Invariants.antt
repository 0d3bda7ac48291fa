use Rattle.std.proofs.Common.{◌-◌, length}
use Rattle.allotment.proofs.Turns.{Serving}
use Rattle.allotment.proofs.serve_all.Given as goal

abbrev pub invariant-loop-group : goal.invariant-loop-group
invariant-loop-group g l = Serving (g.T.TieRule.meaning l.tie_rule) l.offer l.bids l.start l.left l.dollars

abbrev pub decreases-loop-group : goal.decreases-loop-group
decreases-loop-group g l = length l.bids - l.start
