use Rattle.std.proofs.Common.{◌≤◌, true, [], ◌∷◌, map, length, sym, ap, ◌∙◌, arith, length-set}
use Rattle.rules.specs.declared.hedge.Line.{Line}
use Rattle.rules.specs.Settlement.{line_of}
use Rattle.portfolio.proofs.Soundness.{fit_placed, sound_written, alone_at, ended_at}
use Rattle.portfolio.proofs.portfolio.Portfolio.close.Goals as goal

pub end_one-requires : goal.end_one-requires
end_one-requires c =
    let p = c.args.self.now in
    let room : p.placed ≤ length p.hedges = omega arith in
    fit_placed p.numbered p.placed p.hedges c.args.place c.requires room p.sound

pub invariant_of-self : goal.invariant_of-self
invariant_of-self c =
    let p = c.args.self.now in
    let room : p.placed ≤ length p.hedges = omega arith in
    record { sized = (simp length-set p.sized.0, p.sized.1, p.sized.2); sound = sound_written p.numbered p.placed p.hedges c.args.place c.requires room p.sound true true c.args.fixing.day c.args.fixing.rate.units _ c.args.fixing.rate.ok.1 c.end_one.ensures.hedge }

pub returns-clause-line : goal.returns-clause-line
returns-clause-line c =
    let p = c.args.self.now in
    let room : p.placed ≤ length p.hedges = omega arith in
    λ n o. ap (map (line_of c.args.fixing.rate.units)) (alone_at p.numbered p.placed p.hedges c.args.place c.requires room p.sound n o) ∙ ap (λ (l : Line). l ∷ []) (sym c.end_one.ensures.line)

pub returns-clause-hedges : goal.returns-clause-hedges
returns-clause-hedges c =
    let p = c.args.self.now in
    let room : p.placed ≤ length p.hedges = omega arith in
    λ n o. ended_at p.numbered p.placed p.hedges c.args.place c.requires room p.sound n c.args.fixing.day c.args.fixing.rate.units _ o c.end_one.ensures.hedge
