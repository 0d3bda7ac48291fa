use Rattle.std.proofs.Common.{pos, ap, ◌∙◌, w64}
use Rattle.std.specs.Prelude.{int_le}
use Rattle.std.proofs.lemmas.Int.{to_z-of_z}
use Rattle.day_sheet.proofs.Held.{holdable-is}
use Rattle.day_sheet.proofs.entry.is_holdable.Goals as goal

pub returns : goal.returns
returns c = ap (int_le (pos 0)) (to_z-of_z w64 c.args.number c.ranges.number) ∙ holdable-is c.args.number c.ranges.number
