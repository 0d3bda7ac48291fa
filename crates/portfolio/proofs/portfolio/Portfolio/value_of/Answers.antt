use Rattle.std.proofs.Common.{ap, ◌∙◌}
use Rattle.portfolio.specs.Fitting.{is_sound}
use Rattle.portfolio.proofs.Sizes.{summed_more}
use Rattle.portfolio.proofs.Soundness.{sound_fit}
use Rattle.portfolio.proofs.portfolio.Portfolio.value_of.Goals as goal

pub invariant_of-share : goal.invariant_of-share
invariant_of-share c =
    let p = c.args.self.now in
    record { fit = sound_fit 0 p.numbered c.on_places-hedge-items.result.now c.loop-hedge.hedge-index c.loop-hedge-test.true (ap (is_sound 0 p.numbered) c.on_places-hedge-items.ensures.placed ∙ p.sound) }

pub loop-hedge-preserved : goal.loop-hedge-preserved
loop-hedge-preserved c = summed_more c.args.rate.units c.args.institution c.on_places-hedge-items.result.now c.loop-hedge.hedge-index _ c.share-sum.result c.loop-hedge-test.true c.on_places-hedge-items.ensures.few c.loop-hedge.invariant c.share-sum.ensures.value c.share-sum.ensures.small
