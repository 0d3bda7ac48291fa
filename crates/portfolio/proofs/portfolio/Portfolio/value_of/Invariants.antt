use Rattle.portfolio.proofs.Sizes.{Summed}
use Rattle.portfolio.proofs.portfolio.Portfolio.value_of.Given as goal

abbrev pub invariant-loop-hedge : goal.invariant-loop-hedge
invariant-loop-hedge l = Summed l.rate.units l.institution l.hedge-items l.hedge-index l.sum
