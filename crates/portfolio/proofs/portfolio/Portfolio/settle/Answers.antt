use Rattle.std.proofs.Common.{filter, ap, ◌∙◌, arith}
use Rattle.rules.specs.Settlement.{closing, open_ones, pays}
use Rattle.portfolio.specs.Fitting.{is_sound}
use Rattle.portfolio.specs.View.{placed_of}
use Rattle.portfolio.proofs.Settlements.{payable_lines}
use Rattle.portfolio.proofs.Soundness.{sound_kept, sound_turned}
use Rattle.portfolio.proofs.portfolio.Portfolio.settle.Goals as goal

pub invariant_of-self : goal.invariant_of-self
invariant_of-self g c =
    let p = c.args.self.now in
    let C = g.C.Convention.meaning c.args.convention.now in
    let few = c.settle_open-placed.ensures.few in
    record {
      sized = (omega arith, omega arith, p.sized.2);
      sound = ap (is_sound 0 p.numbered) c.settle_open-placed.ensures.hedges
          ∙ sound_turned (pays C c.args.day c.args.rate.units) (closing c.args.day) c.args.day c.args.rate.units 0 p.numbered (open_ones (placed_of p)) c.args.rate.ok.1 (sound_kept (λ x. x.live) 0 p.numbered (placed_of p) p.sound);
    }

pub returns-clause-payable : goal.returns-clause-payable
returns-clause-payable g c =
    let p = c.args.self.now in
    let C = g.C.Convention.meaning c.args.convention.now in
    let settled = pays C c.args.day c.args.rate.units in
    payable_lines c.args.rate.units 0 p.numbered (filter settled (open_ones (placed_of p))) c.args.rate.ok.1 (sound_kept settled 0 p.numbered (open_ones (placed_of p)) (sound_kept (λ x. x.live) 0 p.numbered (placed_of p) p.sound))
