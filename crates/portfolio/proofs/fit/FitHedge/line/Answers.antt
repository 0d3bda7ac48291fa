use Rattle.std.proofs.Common.{◌≡◌, ◌≤◌, ℤ, nat_abs, sym, subst, rules, w64, to_z, of_z}
use Rattle.terms.specs.Rounding.{rounded}
use Rattle.rules.specs.Settlement.{worth}
use Rattle.portfolio.proofs.Sizes.{line-payable}
use Rattle.portfolio.proofs.fit.FitHedge.line.Goals as goal

pub returns-clause-payable : goal.returns-clause-payable
returns-clause-payable c =
    let r = c.args.rate in
    let x = c.args.self.hedge in
    let p = line-payable r.units x r.ok.1 c.args.self.fit in
    let v : to_z w64 (of_z w64 c.payment.result) ≡ rounded (worth r.units x) = search rules in
    (p.0, p.1, subst (λ (z : ℤ). nat_abs z ≤ 30000000000000) (sym v) p.2)
