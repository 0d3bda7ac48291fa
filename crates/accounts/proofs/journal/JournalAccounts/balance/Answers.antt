use Rattle.std.proofs.Common.{sym, ◌∙◌, arith}
use Rattle.accounts.proofs.Records.{balance_answered}
use Rattle.accounts.proofs.journal.JournalAccounts.balance.Goals as goal

pub returns : goal.returns
returns c =
    let s = c.args.self.now in
    let m = c.min.ensures in
    let n = c.min-written.ensures in
    balance_answered c.args.party c.sum_records.result c.min-written.result s.list.now s.used
    (sym c.has.ensures ∙ c.if-not-has.false) c.ranges.party (record { sfits = c.sum_records.type_inv }) (omega arith) c.sum_records.ensures
