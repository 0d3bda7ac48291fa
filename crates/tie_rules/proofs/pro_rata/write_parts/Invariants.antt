use Rattle.tie_rules.proofs.Turns.{Written}
use Rattle.tie_rules.proofs.pro_rata.write_parts.Given as goal

abbrev pub invariant-loop-i : goal.invariant-loop-i
invariant-loop-i l = Written l.amounts l.left l.total l.i l.missing l.shares
