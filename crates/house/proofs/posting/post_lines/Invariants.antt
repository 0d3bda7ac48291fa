use Rattle.house.specs.Posting.{Posts}
use Rattle.std.proofs.Common.{take}
use Rattle.house.proofs.posting.post_lines.Given as goal

abbrev pub invariant-loop-line : goal.invariant-loop-line
invariant-loop-line g l = Posts (take l.line-index l.lines) (g.A.Accounts.balances l.initial.accounts) (g.A.Accounts.free l.initial.accounts) (g.A.Accounts.balances l.accounts) (g.A.Accounts.free l.accounts)
