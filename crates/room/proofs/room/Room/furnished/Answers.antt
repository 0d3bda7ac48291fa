use Rattle.room.proofs.Opened.{opens}
use Rattle.room.proofs.room.Room.furnished.Goals as goal

pub returns : goal.returns
returns g c = opens g.A.Accounts.balances g.A.Accounts.free g.T.TieRule.meaning g.C.Convention.meaning c.args.plan c.args.accounts c.args.tie_rule c.args.convention c.new.result c.new.ensures
