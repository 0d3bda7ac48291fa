use Rattle.std.proofs.Common.{◌<◌, length, arith, length-set}
use Rattle.rules.specs.Settlement.{fresh}
use Rattle.portfolio.proofs.Soundness.{sound_placed, fit_from}
use Rattle.portfolio.proofs.portfolio.Portfolio.place.Goals as goal

pub invariant_of-self : goal.invariant_of-self
invariant_of-self c =
    let p = c.args.self.now in
    let x = fresh c.args.day c.args.deal in
    let l : p.placed < length p.hedges = omega arith in
    let a : p.numbered < c.args.deal.number = omega arith in
    record { sized = (simp length-set p.sized.0, omega arith, omega arith); sound = sound_placed p.numbered p.placed p.hedges x l p.sound a (fit_from x c.requires.fit) }
