use Rattle.std.proofs.Common.{rules}
use Rattle.accounts.proofs.posting.Posting.test.Goals as goal

pub returns-clause-accepted : goal.returns-clause-accepted
returns-clause-accepted c = record { payer_least = search rules; payer_most = search rules; payee_least = search rules; payee_most = search rules; apart = search rules; least = search rules; most = search rules; some = search rules }
