use Rattle.day_sheet.proofs.groups.+put.Given as goal

abbrev pub decreases-put : goal.decreases-put
decreases-put l = l.number
