use Rattle.std.proofs.Common.{Err, Result, sym, ap, ◌∙◌, subst, arith}
use Rattle.std.proofs.lemmas.Int.{to_z-of_z}
use Rattle.std.proofs.lemmas.Result.{err_from_is_err_and}
use Rattle.terms.specs.declared.refusal.Refusal.{Refusal}
use Rattle.rules.specs.declared.call.Call.TheVariants.{Terminate}
use Rattle.rules.specs.declared.hedge.Line.{Line}
use Rattle.book.specs.View.{ended_or}
use Rattle.house.specs.Calls.{Makes}
use Rattle.house.proofs.Making.{tells_makes}
use Rattle.house.proofs.Postings.{posts_none}
use Rattle.house.proofs.house.House.terminate.Goals as goal

pub returns-in_err-line : goal.returns-in_err-line
returns-in_err-line g c =
    let f = c.ranges.hedge in
    let h = c.args.self.now in
    let p = err_from_is_err_and c.from_residual.result c.from_residual.ensures.1 in
    let t = c.in_err-line.ensures.tells (g.C.Convention.meaning h.convention) in
    subst (λ (r : Result Line Refusal). Makes g.A.Accounts.balances g.A.Accounts.free g.T.TieRule.meaning g.C.Convention.meaning h (Terminate c.args.hedge) (ended_or r) (record { accounts = h.accounts; tie_rule = h.tie_rule; convention = h.convention; book = c.terminate.new.self })) (sym (p.1 ∙ ap Err p.2))
    (tells_makes g.A.Accounts.balances g.A.Accounts.free g.T.TieRule.meaning g.C.Convention.meaning h (Terminate c.args.hedge) _ h.accounts c.terminate.new.self (simp (to_z-of_z, c.free_postings-free.ensures) at t) (posts_none (g.A.Accounts.balances h.accounts) (g.A.Accounts.free h.accounts)))

pub post_line-requires-clause-payable : goal.post_line-requires-clause-payable
post_line-requires-clause-payable g c = (c.in_ok-line.ensures.tells (g.C.Convention.meaning c.args.self.now.convention)).payable.0

pub post_line-requires-clause-some : goal.post_line-requires-clause-some
post_line-requires-clause-some g c =
    let e = (c.in_ok-line.ensures.tells (g.C.Convention.meaning c.args.self.now.convention)).enough in
    let f = c.free_postings-free.ensures in
    omega arith

pub returns : goal.returns
returns g c =
    let f = c.ranges.hedge in
    let h = c.args.self.now in
    let t = c.in_ok-line.ensures.tells (g.C.Convention.meaning h.convention) in
    tells_makes g.A.Accounts.balances g.A.Accounts.free g.T.TieRule.meaning g.C.Convention.meaning h (Terminate c.args.hedge) _ c.post_line.new.accounts c.terminate.new.self (simp (to_z-of_z, c.free_postings-free.ensures) at t) c.post_line.ensures
