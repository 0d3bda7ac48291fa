use Rattle.day_sheet.proofs.groups.+count.Given as goal

abbrev pub decreases-count : goal.decreases-count
decreases-count l = l.number
