use Rattle.std.proofs.Common.{◌<◌, length, arith}
use Rattle.portfolio.proofs.Settlements.{settling_fit, settling_few, settling_more}
use Rattle.portfolio.proofs.settling.settle_all.Goals as goal

pub settle_one-line-requires : goal.settle_one-line-requires
settle_one-line-requires g c =
    settling_fit (g.C.Convention.meaning c.args.convention.now) c.args.fixing.day c.args.fixing.rate.units c.requires.sound.0 c.args.hedges.now c.loop-hedge.hedges c.args.lines.now c.loop-hedge.lines c.loop-hedge.hedge-index c.loop-hedge.written c.loop-hedge.invariant (omega arith) c.requires.sound.1

pub write_line-written-requires : goal.write_line-written-requires
write_line-written-requires g c =
    let few = settling_few (g.C.Convention.meaning c.args.convention.now) c.args.fixing.day c.args.fixing.rate.units c.args.hedges.now c.loop-hedge.hedge-index c.loop-hedge.written c.loop-hedge.invariant.count in
    omega arith

pub loop-hedge-preserved : goal.loop-hedge-preserved
loop-hedge-preserved g c =
    let l : c.loop-hedge.hedge-index < length c.args.hedges.now = omega arith in
    let m : c.loop-hedge.hedge-index < length c.args.lines.now = omega arith in
    let s = settling_more (g.C.Convention.meaning c.args.convention.now) c.args.fixing.day c.args.fixing.rate.units c.args.hedges.now c.loop-hedge.hedges c.args.lines.now c.loop-hedge.lines c.loop-hedge.hedge-index c.loop-hedge.written c.settle_one-line.new.hedge c.settle_one-line.result c.loop-hedge.invariant l m c.settle_one-line.ensures.hedge c.settle_one-line.ensures.line in
    simp (c.write_line-written.ensures.lines, c.write_line-written.ensures.count) s
