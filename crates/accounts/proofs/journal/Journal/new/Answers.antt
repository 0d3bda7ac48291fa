use Rattle.std.proofs.Common.{refl}
use Rattle.accounts.specs.Journals.{journal_balances}
use Rattle.accounts.proofs.journal.Journal.new.Goals as goal

pub returns-clause-balances : goal.returns-clause-balances
unfolding journal_balances
returns-clause-balances c = refl
