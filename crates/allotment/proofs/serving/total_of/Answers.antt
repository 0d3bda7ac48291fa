use Rattle.std.proofs.Common.{rules}
use Rattle.std.proofs.iter.runs.Made.{chains}
use Rattle.rules.proofs.Allotment.{sum-total}
use Rattle.allotment.proofs.serving.total_of.Goals as goal

pub returns : goal.returns
returns c = let e = sum-total c.args.amounts.now in search (rules, chains)
