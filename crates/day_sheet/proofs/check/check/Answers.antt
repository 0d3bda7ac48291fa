use Rattle.day_sheet.proofs.Spelling.{one-spelling}
use Rattle.day_sheet.proofs.Alone.{one-verdict, one_list, one-reading}
use Rattle.day_sheet.proofs.Returns.{reads_back, writes_again}
use Rattle.day_sheet.proofs.check.check.Goals as goal

pub returns-clause-alone : goal.returns-clause-alone
returns-clause-alone c = one-verdict

pub returns-clause-list : goal.returns-clause-list
returns-clause-list c = one_list

pub returns-clause-spelling : goal.returns-clause-spelling
returns-clause-spelling c = one-spelling

pub returns-clause-readings : goal.returns-clause-readings
returns-clause-readings c = one-reading

pub returns-clause-back : goal.returns-clause-back
returns-clause-back c = reads_back

pub returns-clause-again : goal.returns-clause-again
returns-clause-again c = writes_again
