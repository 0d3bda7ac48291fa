use Rattle.std.proofs.Common.{get_or, arith}
use Rattle.accounts.proofs.Answered.{back}
use Rattle.accounts.proofs.Records.{balance_more, moved-into_small, turn, blank}
use Rattle.accounts.proofs.journal.sum_records.Goals as goal

pub loop-posting-preserved : goal.loop-posting-preserved
loop-posting-preserved c =
    let i = c.loop-posting.posting-index in
    let k = back c.args.party in
    turn i _ _ _ _ _ c.loop-posting.invariant.0 c.moved_into-sum.ensures (balance_more c.args.records.now i k c.loop-posting-test.true) c.loop-posting.invariant.1
    (moved-into_small k (get_or c.args.records.now i blank)) (omega arith)
