use Rattle.day_sheet.proofs.Sheeted.{run_told}
use Rattle.day_sheet.proofs.parts.Parts.holidays_hold.Goals as goal

pub returns-in-Holidays : goal.returns-in-Holidays
returns-in-Holidays c = rw c.is_ok.ensures.value (run_told c.args.self.now.letter c.args.self.now.tail.now c.ending.result c.check_run.result c.ending.ensures c.in-Holidays.is c.check_run.ensures)
