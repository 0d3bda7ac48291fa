use Rattle.std.proofs.Common.{refl}
use Rattle.day_sheet.proofs.Tries.{passed}
use Rattle.day_sheet.proofs.Sheeted.{spells_refused, spells_written}
use Rattle.day_sheet.proofs.writer.Sheet.write.Goals as goal

pub returns-in_err-self-clause-writes : goal.returns-in_err-self-clause-writes
returns-in_err-self-clause-writes c =
    let told = c.in_err-self.ensures in
    rw (passed c.from_residual.result c.in_err-self.field-0.0 c.from_residual.ensures.1) (spells_refused c.args.self.now _ c.args.parts.now c.in_err-self.field-0.0 told.answer told.bytes refl)

pub returns-clause-writes : goal.returns-clause-writes
returns-clause-writes c =
    let told = c.in_ok-self.ensures in
    spells_written c.args.self.now _ c.args.parts.now c.in_ok-self.field-0 told.answer told.bytes refl
