use Rattle.std.proofs.Common.{◌≡◌}
use Rattle.tie_rules.specs.Rules.{one_more_each}
use Rattle.tie_rules.proofs.pro_rata.add_one_each.Given as goal

abbrev pub invariant-loop-share : goal.invariant-loop-share
invariant-loop-share l = l.share-items ≡ one_more_each l.share-index l.initial.share-items
