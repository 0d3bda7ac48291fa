use Rattle.std.proofs.Common.{Some, sym, refl, ap, ◌∙◌, subst}
use Rattle.std.proofs.lemmas.Int.{to_z-of_z}
use Rattle.rules.specs.declared.call.Call.TheVariants.{Bid}
use Rattle.rules.specs.Numbers.{Answer}
use Rattle.rules.specs.Books.{bidding}
use Rattle.rules.specs.Rules.{quietly}
use Rattle.house.specs.Calls.{Quiet}
use Rattle.house.specs.declared.tickets.Ticket.{Ticket}
use Rattle.room.proofs.Laws.{quiet_makes}
use Rattle.room.proofs.Turning.{bid_turns, wrong_turns, held_none, held_sealed, held_other_bidding, held_this_bidding}
use Rattle.room.proofs.room.Room.bid.Goals as goal

pub returns-then-number : goal.returns-then-number
returns-then-number g c =
    let d = c.args.self.now in
    wrong_turns g.A.Accounts.balances g.A.Accounts.free g.T.TieRule.meaning g.C.Convention.meaning d (Bid c.args.number c.args.institution c.args.price c.args.millions) (bidding c.args.number) _ d refl refl
    (held_other_bidding d.hand c.in-Bidding.ticket c.args.number (c.in-Some.is ∙ ap (λ (x : Ticket). Some x) c.in-Bidding.is) (λ e. c.if-number.true (c.number.ensures ∙ e))) refl

pub returns-in_default : goal.returns-in_default
returns-in_default g c =
    let d = c.args.self.now in
    wrong_turns g.A.Accounts.balances g.A.Accounts.free g.T.TieRule.meaning g.C.Convention.meaning d (Bid c.args.number c.args.institution c.args.price c.args.millions) (bidding c.args.number) _ d refl refl (held_none d.hand (bidding c.args.number) c.in_default.is) refl

pub returns-in-Sealed : goal.returns-in-Sealed
returns-in-Sealed g c =
    let d = c.args.self.now in
    wrong_turns g.A.Accounts.balances g.A.Accounts.free g.T.TieRule.meaning g.C.Convention.meaning d (Bid c.args.number c.args.institution c.args.price c.args.millions) (bidding c.args.number) _ d refl refl (held_sealed d.hand c.in-Sealed.field-0 c.args.number (c.in-Some.is ∙ ap (λ (x : Ticket). Some x) c.in-Sealed.is)) refl

pub returns-else-number : goal.returns-else-number
returns-else-number g c =
    let fi = c.ranges.institution in let fp = c.ranges.price in let fm = c.ranges.millions in
    let d = c.args.self.now in
    let same = sym c.number.ensures ∙ c.if-number.false in
    let call = Bid c.args.number c.args.institution c.args.price c.args.millions in
    let h' = c.bid.new.self in
    let q = subst (λ (x : Answer). Quiet d.house call x h') (sym c.done_or.ensures) (simp (to_z-of_z, same) at c.bid.ensures) in
    bid_turns g.A.Accounts.balances g.A.Accounts.free g.T.TieRule.meaning g.C.Convention.meaning d c.args.number c.args.institution c.args.price c.args.millions (quietly c.done_or.result) _
    (quiet_makes g.A.Accounts.balances g.A.Accounts.free g.T.TieRule.meaning g.C.Convention.meaning d.house call c.done_or.result h' q) refl (held_this_bidding d.hand c.in-Bidding.ticket c.args.number (c.in-Some.is ∙ ap (λ (x : Ticket). Some x) c.in-Bidding.is) same)
