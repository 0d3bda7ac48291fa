use Rattle.std.proofs.Common.{arith}
use Rattle.tie_rules.proofs.Turns.{written-room, written-more}
use Rattle.tie_rules.proofs.pro_rata.write_parts.Goals as goal

pub overflow_sub-missing : goal.overflow_sub-missing
overflow_sub-missing c =
    omega (arith, written-room c.args.amounts.now c.args.left c.args.total c.loop-i.i c.loop-i.missing c.loop-i.shares c.requires.total c.requires.short c.loop-i-test.true c.loop-i.invariant)

pub loop-i-preserved : goal.loop-i-preserved
loop-i-preserved c =
    let room = written-room c.args.amounts.now c.args.left c.args.total c.loop-i.i c.loop-i.missing c.loop-i.shares c.requires.total c.requires.short c.loop-i-test.true c.loop-i.invariant in
    written-more c.args.amounts.now c.args.left c.args.total c.loop-i.i c.loop-i.missing c.loop-i.shares c.part-share.result c.loop-i-test.true (omega arith) c.part-share.ensures (omega arith) c.loop-i.invariant
