use Rattle.std.proofs.Common.{◌+◌, get_or, take, arith}
use Rattle.std.proofs.lemmas.List.{get_or_default}
use Rattle.std.proofs.lemmas.List.Edits.{map_over_more}
use Rattle.tie_rules.proofs.pro_rata.add_one_each.Goals as goal

pub loop-share-preserved : goal.loop-share-preserved
loop-share-preserved c =
    let items = c.loop-share.share-items in
    let i = c.loop-share.share-index in
    map_over_more (λ s. s + 1) (take c.args.count c.args.shares.now) items i (get_or items i 0) c.loop-share-test.true c.loop-share.invariant (get_or_default items i 0 (get_or items i 0) (omega arith))
