use Rattle.std.proofs.Common.{◌≡◌, Err, Ok, Some, sym, refl, ap, ◌∙◌, subst}
use Rattle.std.proofs.lemmas.Result.{err_from_is_err_and}
use Rattle.rules.specs.declared.call.Call.TheVariants.{Publish}
use Rattle.rules.specs.declared.call.Accepted.TheVariants.{Published}
use Rattle.rules.specs.declared.auction.TicketName.{TicketName}
use Rattle.rules.specs.Books.{sealed}
use Rattle.rules.specs.Rules.{quietly}
use Rattle.house.specs.declared.house.House.{House}
use Rattle.house.specs.declared.tickets.SealedTicket.{SealedTicket}
use Rattle.house.specs.declared.tickets.Ticket.{Ticket as AnyTicket}
use Rattle.house.specs.Tickets.{ticket_name}
use Rattle.house.specs.Calls.{Allots, Makes}
use Rattle.room.specs.Hands.{hand_ticket}
use Rattle.room.proofs.Turning.{allots_makes, published-turns, refused_turns, wrong_taken}
use Rattle.room.proofs.room.Room.publish.Goals as goal

pub returns-in_err-ticket : goal.returns-in_err-ticket
returns-in_err-ticket g c =
    let p = err_from_is_err_and c.from_residual.result c.from_residual.ensures.1 in
    wrong_taken g.A.Accounts.balances g.A.Accounts.free g.T.TieRule.meaning g.C.Convention.meaning c.args.self.now (Publish c.args.number) (sealed c.args.number) _ c.in_err-ticket.field-0.0 c.from_residual.result _ (p.1 ∙ ap Err p.2) c.in_err-ticket.ensures refl

pub returns-in-Ok : goal.returns-in-Ok
returns-in-Ok g c =
    let d = c.args.self.now in
    let n = c.args.number in
    let u = c.in_ok-ticket.ensures in
    let own : sealed c.in-Sealed.ticket.number ≡ sealed n = sym (ap ticket_name c.in-Sealed.is) ∙ u.1 in
    let same : c.in-Sealed.ticket.number ≡ n = ap (λ (s : TicketName). s.number) own in
    let q = subst (λ (y : House g.row.A.Denot g.row.T.Denot g.row.C.Denot). Allots g.T.TieRule.meaning y n (Ok (Published c.in-Ok.field-0.first c.in-Ok.field-0.count)) c.publish.new.self) u.2 (simp same at c.in-Ok.ensures.calls) in
    published-turns g.A.Accounts.balances g.A.Accounts.free g.T.TieRule.meaning g.C.Convention.meaning d n c.in-Ok.field-0.first c.in-Ok.field-0.count _
    (allots_makes g.A.Accounts.balances g.A.Accounts.free g.T.TieRule.meaning g.C.Convention.meaning d.house n (Ok (Published c.in-Ok.field-0.first c.in-Ok.field-0.count)) c.publish.new.self q) (ap hand_ticket u.3)

pub returns-in-Err : goal.returns-in-Err
returns-in-Err g c =
    let d = c.args.self.now in
    let n = c.args.number in
    let u = c.in_ok-ticket.ensures in
    let own : sealed c.in-Sealed.ticket.number ≡ sealed n = sym (ap ticket_name c.in-Sealed.is) ∙ u.1 in
    let same : c.in-Sealed.ticket.number ≡ n = ap (λ (s : TicketName). s.number) own in
    let was = u.0 ∙ ap (λ (x : AnyTicket). Some x) c.in-Sealed.is in
    let h = c.hold.ensures in
    let q = subst (λ (y : House g.row.A.Denot g.row.T.Denot g.row.C.Denot). Allots g.T.TieRule.meaning y n (Err c.in-Err.field-0.why) c.publish.new.self) u.2 (simp same at c.in-Err.ensures.calls) in
    let m = subst (λ (y : House g.row.A.Denot g.row.T.Denot g.row.C.Denot). Makes g.A.Accounts.balances g.A.Accounts.free g.T.TieRule.meaning g.C.Convention.meaning d.house (Publish n) (quietly (Err c.in-Err.field-0.why)) y) (sym (h.house u.3))
    (allots_makes g.A.Accounts.balances g.A.Accounts.free g.T.TieRule.meaning g.C.Convention.meaning d.house n (Err c.in-Err.field-0.why) c.publish.new.self q) in
    refused_turns g.A.Accounts.balances g.A.Accounts.free g.T.TieRule.meaning g.C.Convention.meaning d (Publish n) c.in-Err.field-0.why c.hold.new.self m (ap hand_ticket h.hand ∙ ap (λ (x : SealedTicket). Some (sealed x.number)) c.in-Err.ensures.ticket ∙ sym (ap hand_ticket was))
