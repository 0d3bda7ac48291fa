use Rattle.portfolio.proofs.Settlements.{Settling}
use Rattle.portfolio.proofs.settling.settle_all.Given as goal

abbrev pub invariant-loop-hedge : goal.invariant-loop-hedge
invariant-loop-hedge g l = Settling (g.C.Convention.meaning l.convention) l.fixing.day l.fixing.rate.units l.initial.hedges l.hedges l.initial.lines l.lines l.hedge-index l.written
