use Rattle.std.proofs.Common.{◌≡◌, ◌++◌, take, drop}
use Rattle.tie_rules.specs.Rules.{shares_by_receipt}
use Rattle.tie_rules.proofs.by_receipt.take_in_order.Given as goal

abbrev pub invariant-loop-i : goal.invariant-loop-i
invariant-loop-i l = take l.i l.shares ++ shares_by_receipt (drop l.i l.amounts) l.rest ≡ shares_by_receipt l.amounts l.left
