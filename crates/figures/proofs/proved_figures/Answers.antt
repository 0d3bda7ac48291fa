use Rattle.std.proofs.Common.{refl}
use Rattle.day_sheet.specs.Groups.{groups}
use Rattle.figures.proofs.proved_figures.Goals as goal

pub returns : goal.returns
unfolding groups
returns c = record { count = refl; stated = refl }
