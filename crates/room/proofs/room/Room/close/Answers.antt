use Rattle.room.proofs.Opened.{closes}
use Rattle.room.proofs.room.Room.close.Goals as goal

pub returns : goal.returns
returns g c = closes g.A.Accounts.balances g.A.Accounts.free g.T.TieRule.meaning g.C.Convention.meaning c.args.self c.spend.new.house c.spend.ensures.voided
