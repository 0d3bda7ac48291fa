use Rattle.std.proofs.Common.{◌≡◌, ◌≤◌, ℤ, nat_abs, sym, subst, rules, w64, to_z, of_z}
use Rattle.rules.specs.Settlement.{worth}
use Rattle.portfolio.proofs.Sizes.{worth-small}
use Rattle.portfolio.proofs.fit.FitHedge.worth.Goals as goal

pub returns-clause-small : goal.returns-clause-small
returns-clause-small c =
    let r = c.args.rate in
    let x = c.args.self.hedge in
    let v : to_z w64 (of_z w64 c.gain.result) ≡ worth r.units x = search rules in
    subst (λ (z : ℤ). nat_abs z ≤ 2000000000000000) (sym v) (worth-small r.units x r.ok.1 c.args.self.fit)
