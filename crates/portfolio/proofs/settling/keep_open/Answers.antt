use Rattle.std.proofs.Common.{◌<◌, length, get_or, arith}
use Rattle.std.proofs.lemmas.List.Filters.{FiltersInPlace-more_no, FiltersInPlace-more_set}
use Rattle.std.proofs.lemmas.List.{get_or_default}
use Rattle.portfolio.specs.Fitting.{no_hedge}
use Rattle.portfolio.proofs.settling.keep_open.Goals as goal
use Rattle.portfolio.proofs.settling.keep_open.Goals.{then-hedge, else-hedge}

pub loop-i-preserved : goal.loop-i-preserved
loop-i-preserved c =
    let xs = c.loop-i.hedges in
    let i = c.loop-i.i in
    let within : i < length xs = omega arith in
    let same = get_or_default xs i no_hedge (get_or xs i no_hedge) within in
    elim c.if-hedge.branch [
      | then-hedge w ↦ rw (w.hedges-is, w.count-is) (FiltersInPlace-more_set c.loop-i.invariant within w.if-hedge.true same)
      | else-hedge w ↦ rw (w.hedges-is, w.count-is) (FiltersInPlace-more_no c.loop-i.invariant within w.if-hedge.false same)
    ]
