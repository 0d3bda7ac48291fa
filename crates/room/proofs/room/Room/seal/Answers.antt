use Rattle.std.proofs.Common.{◌≡◌, [], Err, Ok, Some, sym, refl, ap, ◌∙◌, subst}
use Rattle.std.proofs.lemmas.Result.{err_from_is_err_and}
use Rattle.rules.specs.declared.call.Call.TheVariants.{Seal}
use Rattle.rules.specs.declared.call.Accepted.TheVariants.{Ticket}
use Rattle.rules.specs.declared.auction.TicketName.{TicketName}
use Rattle.rules.specs.Books.{bidding}
use Rattle.rules.specs.Rules.{quietly}
use Rattle.house.specs.declared.house.House.{House}
use Rattle.house.specs.declared.tickets.BiddingTicket.{BiddingTicket}
use Rattle.house.specs.declared.tickets.Ticket.{Ticket as AnyTicket}
use Rattle.house.specs.Tickets.{ticket_name}
use Rattle.house.specs.Calls.{Makes, Quiet}
use Rattle.room.specs.Hands.{hand_ticket}
use Rattle.room.proofs.Laws.{quiet_makes}
use Rattle.room.proofs.Turning.{sealed-turns, refused_turns, wrong_taken}
use Rattle.room.proofs.room.Room.seal.Goals as goal

pub returns-in_err-ticket : goal.returns-in_err-ticket
returns-in_err-ticket g c =
    let p = err_from_is_err_and c.from_residual.result c.from_residual.ensures.1 in
    wrong_taken g.A.Accounts.balances g.A.Accounts.free g.T.TieRule.meaning g.C.Convention.meaning c.args.self.now (Seal c.args.number) (bidding c.args.number) [] c.in_err-ticket.field-0.0 c.from_residual.result _ (p.1 ∙ ap Err p.2) c.in_err-ticket.ensures refl

pub returns-in-Ok : goal.returns-in-Ok
returns-in-Ok g c =
    let d = c.args.self.now in
    let n = c.args.number in
    let k = c.in-Ok.sealed.number in
    let u = c.in_ok-ticket.ensures in
    let own : bidding c.in-Bidding.ticket.number ≡ bidding n = sym (ap ticket_name c.in-Bidding.is) ∙ u.1 in
    let same : c.in-Bidding.ticket.number ≡ n = ap (λ (s : TicketName). s.number) own in
    let h = c.hold.ensures in
    let q = subst (λ (y : House g.row.A.Denot g.row.T.Denot g.row.C.Denot). Quiet y (Seal n) (Ok (Ticket k)) c.seal.new.self) u.2 (simp same at c.in-Ok.ensures.calls) in
    let m = subst (λ (y : House g.row.A.Denot g.row.T.Denot g.row.C.Denot). Makes g.A.Accounts.balances g.A.Accounts.free g.T.TieRule.meaning g.C.Convention.meaning d.house (Seal n) (quietly (Ok (Ticket k))) y) (sym (h.house u.3))
    (quiet_makes g.A.Accounts.balances g.A.Accounts.free g.T.TieRule.meaning g.C.Convention.meaning d.house (Seal n) (Ok (Ticket k)) c.seal.new.self q) in
    simp c.number-given.ensures (sealed-turns g.A.Accounts.balances g.A.Accounts.free g.T.TieRule.meaning g.C.Convention.meaning d n k c.hold.new.self m (ap hand_ticket h.hand))

pub returns-in-Err : goal.returns-in-Err
returns-in-Err g c =
    let d = c.args.self.now in
    let n = c.args.number in
    let u = c.in_ok-ticket.ensures in
    let own : bidding c.in-Bidding.ticket.number ≡ bidding n = sym (ap ticket_name c.in-Bidding.is) ∙ u.1 in
    let same : c.in-Bidding.ticket.number ≡ n = ap (λ (s : TicketName). s.number) own in
    let was = u.0 ∙ ap (λ (x : AnyTicket). Some x) c.in-Bidding.is in
    let h = c.hold-in-Err.ensures in
    let q = subst (λ (y : House g.row.A.Denot g.row.T.Denot g.row.C.Denot). Quiet y (Seal n) (Err c.in-Err.field-0.why) c.seal.new.self) u.2 (simp same at c.in-Err.ensures.calls) in
    let m = subst (λ (y : House g.row.A.Denot g.row.T.Denot g.row.C.Denot). Makes g.A.Accounts.balances g.A.Accounts.free g.T.TieRule.meaning g.C.Convention.meaning d.house (Seal n) (quietly (Err c.in-Err.field-0.why)) y) (sym (h.house u.3))
    (quiet_makes g.A.Accounts.balances g.A.Accounts.free g.T.TieRule.meaning g.C.Convention.meaning d.house (Seal n) (Err c.in-Err.field-0.why) c.seal.new.self q) in
    refused_turns g.A.Accounts.balances g.A.Accounts.free g.T.TieRule.meaning g.C.Convention.meaning d (Seal n) c.in-Err.field-0.why c.hold-in-Err.new.self m (ap hand_ticket h.hand ∙ ap (λ (x : BiddingTicket). Some (bidding x.number)) c.in-Err.ensures.ticket ∙ sym (ap hand_ticket was))
