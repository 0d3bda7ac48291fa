use Rattle.std.proofs.Common.{◌<◌, length, ◌∙◌, arith}
use Rattle.accounts.specs.Journals.{journal_balances}
use Rattle.terms.proofs.Answered.{new_unless, old_unless}
use Rattle.accounts.proofs.Answered.{back, moved_back, passed, stopped}
use Rattle.accounts.proofs.Records.{journal_moved}
use Rattle.accounts.proofs.journal.JournalAccounts.post.Goals as goal

pub returns-in_err-test-clause-moves : goal.returns-in_err-test-clause-moves
returns-in_err-test-clause-moves c = old_unless _ _ (stopped _ _ _ _ c.free_postings.ensures c.ranges.payer c.ranges.payee c.ranges.centavos c.in_err-test.ensures.answer)

pub returns-in_err-test-clause-uses : goal.returns-in_err-test-clause-uses
returns-in_err-test-clause-uses c = old_unless _ _ (stopped _ _ _ _ c.free_postings.ensures c.ranges.payer c.ranges.payee c.ranges.centavos c.in_err-test.ensures.answer)

pub returns-in_err-test-clause-writes : goal.returns-in_err-test-clause-writes
returns-in_err-test-clause-writes c = old_unless _ _ (stopped _ _ _ _ c.free_postings.ensures c.ranges.payer c.ranges.payee c.ranges.centavos c.in_err-test.ensures.answer)

pub returns-clause-moves : goal.returns-clause-moves
returns-clause-moves c =
    let s = c.args.self.now in
    let ps = s.list.now in
    let e = c.in_ok-test.ensures in
    let free = c.free_postings.ensures in
    let some = e.accepted.some in
    let there : c.args.self.now.used < length c.args.self.now.list.now = omega arith in
    let few : c.args.self.now.used < 50000 = omega arith in
    journal_moved (back c.args.payer) (back c.args.payee) (back c.args.centavos) c.free_postings.result s.used ps there few e.accepted
    ∙ moved_back c.args.payer c.args.payee c.args.centavos (journal_balances ps s.used) c.ranges.payer c.ranges.payee c.ranges.centavos
    ∙ new_unless _ _ (passed _ _ _ _ c.free_postings.ensures c.ranges.payer c.ranges.payee c.ranges.centavos e.answer)
