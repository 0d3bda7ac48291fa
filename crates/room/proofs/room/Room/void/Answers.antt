use Rattle.std.proofs.Common.{[], Err, sym, refl, ap, ◌∙◌, subst}
use Rattle.std.proofs.lemmas.Result.{err_from_is_err_and}
use Rattle.rules.specs.declared.call.Call.TheVariants.{Void}
use Rattle.rules.specs.declared.auction.TicketName.{TicketName}
use Rattle.rules.specs.Numbers.{Answer}
use Rattle.rules.specs.Rules.{quietly}
use Rattle.book.specs.View.{done_or}
use Rattle.house.specs.Calls.{Quiet}
use Rattle.house.specs.declared.house.House.{House}
use Rattle.room.specs.Hands.{hand_ticket}
use Rattle.room.proofs.Laws.{quiet_makes}
use Rattle.room.proofs.Turning.{void_turns, wrong_taken, held_own}
use Rattle.room.proofs.room.Room.void.Goals as goal

pub returns-in_err-held : goal.returns-in_err-held
returns-in_err-held g c =
    let p = err_from_is_err_and c.from_residual.result c.from_residual.ensures.1 in
    wrong_taken g.A.Accounts.balances g.A.Accounts.free g.T.TieRule.meaning g.C.Convention.meaning c.args.self.now (Void c.args.ticket) c.args.ticket [] c.in_err-held.field-0.0 c.from_residual.result _ (p.1 ∙ ap Err p.2) c.in_err-held.ensures refl

pub returns : goal.returns
returns g c =
    let d = c.args.self.now in
    let s = c.args.ticket in
    let u = c.in_ok-held.ensures in
    let h' = c.void.new.self in
    let q = subst (λ (x : Answer). Quiet d.house (Void s) x h') (sym c.done_or.ensures)
    (subst (λ (y : House g.row.A.Denot g.row.T.Denot g.row.C.Denot). Quiet y (Void s) (done_or c.void.result) h') u.2 (subst (λ (k : TicketName). Quiet c.take_ticket.new.self.house (Void k) (done_or c.void.result) h') u.1 c.void.ensures)) in
    void_turns g.A.Accounts.balances g.A.Accounts.free g.T.TieRule.meaning g.C.Convention.meaning d s (quietly c.done_or.result) _ (quiet_makes g.A.Accounts.balances g.A.Accounts.free g.T.TieRule.meaning g.C.Convention.meaning d.house (Void s) c.done_or.result h' q) (held_own d.hand c.in_ok-held.held s u.0 u.1) (ap hand_ticket u.3)
