use Rattle.std.proofs.Common.{sym, ap, ◌∙◌, arith}
use Rattle.std.proofs.lemmas.List.{length-drop, take_rest}
use Rattle.day_sheet.specs.Readings.{number_by}
use Rattle.day_sheet.specs.declared.groups.NoNumber.TheVariants.{Broken}
use Rattle.day_sheet.proofs.Spelling.{begins_from, broken_from}
use Rattle.day_sheet.proofs.Tries.{passed, told}
use Rattle.day_sheet.proofs.groups.read.Goals as goal

pub returns-in_err-value : goal.returns-in_err-value
returns-in_err-value c =
    let a = c.read_up_to-read.ensures ∙ ap (number_by 9) (take_rest c.args.bytes.now c.args.at) in
    let b = c.in_err-value.ensures in
    let e = told c.in_err-value.field-0.0 Broken c.read_up_to-read.result b.ok_part b.value in
    rw (passed c.from_residual.result c.in_err-value.field-0.0 c.from_residual.ensures.1, e) (broken_from _ (omega (arith, length-drop c.args.at c.args.bytes.now)) (sym b.ok_part ∙ a))

pub returns : goal.returns
returns c =
    let a = c.read_up_to-read.ensures ∙ ap (number_by 9) (take_rest c.args.bytes.now c.args.at) in
    let b = c.in_ok-value.ensures in
    begins_from c.args.bytes.now c.args.at c.in_ok-value.value c.in_ok-value.length (sym b.ok_part ∙ a)
