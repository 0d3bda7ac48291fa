use Rattle.std.proofs.lemmas.List.Filters.{FiltersInPlace}
use Rattle.portfolio.proofs.settling.keep_open.Given as goal

abbrev pub invariant-loop-i : goal.invariant-loop-i
invariant-loop-i l = FiltersInPlace (λ x. x.live) l.initial.hedges l.hedges l.count l.i
