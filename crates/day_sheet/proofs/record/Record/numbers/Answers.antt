use Rattle.std.proofs.Common.{pos, ◌+ℤ◌, refl, w64, SFits, rules}
use Rattle.std.proofs.lemmas.Int.{to_z-of_z}
use Rattle.terms.specs.declared.refusal.Refusal.TheVariants.{BadNumber}
use Rattle.day_sheet.proofs.Tries.{passed, told}
use Rattle.day_sheet.proofs.Held.{unholdable, second_unheld}
use Rattle.day_sheet.proofs.record.Record.numbers.Goals as goal

pub returns-in_err-raised-in-Bid : goal.returns-in_err-raised-in-Bid
returns-in_err-raised-in-Bid c =
    let none = c.in_err-raised-in-Bid.ensures in
    let is = told c.in_err-raised-in-Bid.field-0.0 BadNumber c.checked_add.result none.ok_part none.value in
    let f : SFits w64 c.in-Bid.price = search rules in
    let t = rw none.ok_part at c.checked_add.ensures in
    rw (passed c.from_residual.result c.in_err-raised-in-Bid.field-0.0 c.from_residual.ensures.1, is) (simp c.in-Bid.is (refl, second_unheld c.in-Bid.institution (c.in-Bid.price +ℤ pos 10000) c.in-Bid.millions (unholdable (c.in-Bid.price +ℤ pos 10000) (simp to_z-of_z at t)), refl))
