use Rattle.std.proofs.Common.{Err, Ok, sym, refl, ap, ◌∙◌, subst}
use Rattle.std.proofs.lemmas.Int.{to_z-of_z}
use Rattle.std.proofs.lemmas.Result.{err_from_is_err_and}
use Rattle.rules.specs.Numbers.{Answer}
use Rattle.rules.specs.Rules.{quietly}
use Rattle.rules.specs.declared.call.Call.TheVariants.{Announce}
use Rattle.rules.specs.declared.call.Accepted.TheVariants.{Ticket}
use Rattle.room.specs.Hands.{hand_ticket}
use Rattle.room.specs.Rooms.{Turns}
use Rattle.room.proofs.Laws.{quiet_makes}
use Rattle.room.proofs.Turning.{announced_turns, refused_turns}
use Rattle.room.proofs.room.Room.announce.Goals as goal

pub returns-in_err-ticket : goal.returns-in_err-ticket
returns-in_err-ticket g c =
    let f = c.ranges in let fk = f.kind in let fo = f.offer in let fc = f.cap in let fm = f.maturity in
    let d = c.args.self.now in
    let q = simp to_z-of_z at c.in_err-ticket.ensures in
    let p = err_from_is_err_and c.from_residual.result c.from_residual.ensures.1 in
    subst (λ (x : Answer). Turns g.A.Accounts.balances g.A.Accounts.free g.T.TieRule.meaning g.C.Convention.meaning d (Announce c.args.kind c.args.offer c.args.cap c.args.maturity) (quietly x) (record { house = c.announce.new.self; hand = d.hand })) (sym (p.1 ∙ ap Err p.2))
    (refused_turns g.A.Accounts.balances g.A.Accounts.free g.T.TieRule.meaning g.C.Convention.meaning d (Announce c.args.kind c.args.offer c.args.cap c.args.maturity) c.in_err-ticket.field-0.0 _
    (quiet_makes g.A.Accounts.balances g.A.Accounts.free g.T.TieRule.meaning g.C.Convention.meaning d.house (Announce c.args.kind c.args.offer c.args.cap c.args.maturity) (Err c.in_err-ticket.field-0.0) c.announce.new.self q) refl)

pub returns : goal.returns
returns g c =
    let f = c.ranges in let fk = f.kind in let fo = f.offer in let fc = f.cap in let fm = f.maturity in
    let d = c.args.self.now in
    let q = simp to_z-of_z at c.in_ok-ticket.ensures in
    let n = c.in_ok-ticket.ticket.number in
    let t = announced_turns g.A.Accounts.balances g.A.Accounts.free g.T.TieRule.meaning g.C.Convention.meaning d c.args.kind c.args.offer c.args.cap c.args.maturity n c.announce.new.self c.hold.new.self
    (quiet_makes g.A.Accounts.balances g.A.Accounts.free g.T.TieRule.meaning g.C.Convention.meaning d.house (Announce c.args.kind c.args.offer c.args.cap c.args.maturity) (Ok (Ticket n)) c.announce.new.self q)
    c.hold.ensures.house (ap hand_ticket c.hold.ensures.hand) in
    simp c.number-number.ensures t
