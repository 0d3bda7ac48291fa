use Rattle.std.proofs.Common.{arith}
use Rattle.tie_rules.specs.Meanings.{missing}
use Rattle.tie_rules.proofs.Turns.{parts-small}
use Rattle.tie_rules.proofs.pro_rata.ProRataTieRule.share.Goals as goal

pub add_one_each-requires : goal.add_one_each-requires
add_one_each-requires c =
    let k = c.in_ok-total.ensures in
    let m = missing c.args.left c.in_ok-total.total c.args.amounts.now k.1 (omega arith) in
    let small = parts-small c.args.left c.in_ok-total.total c.args.amounts.now (omega arith) k.2.each in
    record { count = omega arith; small = rw c.write_parts-missing.ensures.shares small }
