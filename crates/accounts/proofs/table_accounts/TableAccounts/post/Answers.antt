use Rattle.std.proofs.Common.{◌-◌, List, ℤ, sym, refl, ◌∙◌, subst, arith, length-set}
use Rattle.accounts.specs.Tables.{Bounded}
use Rattle.terms.proofs.Answered.{new_unless, old_unless}
use Rattle.accounts.proofs.Answered.{accepted_back, passed, stopped}
use Rattle.accounts.proofs.Moves.{written_is, bounded_moved}
use Rattle.accounts.proofs.table_accounts.TableAccounts.post.Goals as goal

pub returns-in_err-test-clause-moves : goal.returns-in_err-test-clause-moves
returns-in_err-test-clause-moves c = old_unless _ _ (stopped _ _ _ _ refl c.ranges.payer c.ranges.payee c.ranges.centavos c.in_err-test.ensures.answer)

pub returns-in_err-test-clause-uses : goal.returns-in_err-test-clause-uses
returns-in_err-test-clause-uses c = old_unless _ _ (stopped _ _ _ _ refl c.ranges.payer c.ranges.payee c.ranges.centavos c.in_err-test.ensures.answer)

pub invariant_of-self : goal.invariant_of-self
invariant_of-self c =
    let t = c.args.self.now in
    let h = accepted_back _ _ _ _ c.ranges.payer c.ranges.payee c.ranges.centavos c.in_ok-test.ensures.accepted in
    let w = written_is c.args.payer c.args.payee c.args.centavos t.free t.balances h t.bounded in
    let m = bounded_moved c.args.payer c.args.payee c.args.centavos t.free t.balances t.parties t.limited h t.bounded in
    let P : List ℤ → Type 0 = λ xs. Bounded xs (t.free - 1) in
    record { parties = simp length-set t.parties; limited = omega arith; bounded = subst P (sym w) m }

pub returns-clause-moves : goal.returns-clause-moves
returns-clause-moves c =
    let t = c.args.self.now in
    let e = c.in_ok-test.ensures in
    let h = accepted_back _ _ _ _ c.ranges.payer c.ranges.payee c.ranges.centavos e.accepted in
    written_is c.args.payer c.args.payee c.args.centavos t.free t.balances h t.bounded
    ∙ new_unless _ _ (passed _ _ _ _ refl c.ranges.payer c.ranges.payee c.ranges.centavos e.answer)

pub returns-clause-uses : goal.returns-clause-uses
returns-clause-uses c = new_unless _ _ (passed _ _ _ _ refl c.ranges.payer c.ranges.payee c.ranges.centavos c.in_ok-test.ensures.answer)
