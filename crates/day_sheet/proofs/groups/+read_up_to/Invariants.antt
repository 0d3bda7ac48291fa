use Rattle.day_sheet.proofs.groups.+read_up_to.Given as goal

abbrev pub decreases-read_up_to : goal.decreases-read_up_to
decreases-read_up_to l = l.most
