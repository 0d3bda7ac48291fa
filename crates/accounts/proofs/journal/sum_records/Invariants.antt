use Rattle.std.proofs.Common.{◌≡◌, ◌*◌, ◌≤◌, take, nat_abs}
use Rattle.accounts.specs.Journals.{balance_by}
use Rattle.accounts.proofs.journal.sum_records.Given as goal

abbrev pub invariant-loop-posting : goal.invariant-loop-posting
invariant-loop-posting l = (l.sum ≡ balance_by (take l.posting-index l.records) l.party) × (nat_abs l.sum ≤ l.posting-index * 30000000000000)
