use Rattle.std.proofs.Common.{◌∙◌, arith}
use Rattle.day_sheet.specs.declared.fault.Stop.TheVariants.{Record}
use Rattle.day_sheet.specs.Records.{misplaced}
use Rattle.day_sheet.proofs.Tries.{passed, told}
use Rattle.day_sheet.proofs.Fronts.{start_is, start_same, start_apart, byte_at, letter_at, head_none, head_unknown, head_short, lengthed, head_past}
use Rattle.day_sheet.proofs.heads.read_head.Goals as goal

pub returns-in_err-byte : goal.returns-in_err-byte
returns-in_err-byte c =
    let none = c.in_err-byte.ensures in
    rw (passed c.from_residual.result c.in_err-byte.field-0.0 c.from_residual.ensures.1, told c.in_err-byte.field-0.0 Record c.get.result none.ok_part none.value) (head_none c.args.sheet.now c.args.at c.args.first c.get.result none.ok_part c.get.ensures.lookup.0 c.requires)

pub returns-in_err-letter : goal.returns-in_err-letter
returns-in_err-letter c =
    let unknown = c.in_err-letter.ensures in
    let b = byte_at c.args.sheet.now c.args.at c.get.result c.in_ok-byte.field-0 c.in_ok-byte.ensures.ok_part c.get.ensures.lookup.0 c.get.ensures.lookup.1 in
    rw (passed c.from_residual-in_err-letter.result c.in_err-letter.field-0.0 c.from_residual-in_err-letter.ensures.1, unknown.0) (head_unknown c.args.sheet.now c.args.at c.in_ok-byte.field-0.now c.args.first b unknown.1)

pub returns-then-eq-first : goal.returns-then-eq-first
returns-then-eq-first c =
    let b = byte_at c.args.sheet.now c.args.at c.get.result c.in_ok-byte.field-0 c.in_ok-byte.ensures.ok_part c.get.ensures.lookup.0 c.get.ensures.lookup.1 in
    let e = letter_at c.args.sheet.now c.args.at c.in_ok-byte.field-0.now c.in_ok-letter.letter b c.in_ok-letter.ensures in
    misplaced c.in_ok-letter.letter _ e (start_apart c.eq.result _ c.args.first (c.eq.ensures ∙ start_is c.in_ok-letter.letter) c.if-eq-first.true)

pub returns-in_err-value : goal.returns-in_err-value
returns-in_err-value c =
    let b = byte_at c.args.sheet.now c.args.at c.get.result c.in_ok-byte.field-0 c.in_ok-byte.ensures.ok_part c.get.ensures.lookup.0 c.get.ensures.lookup.1 in
    let e = letter_at c.args.sheet.now c.args.at c.in_ok-byte.field-0.now c.in_ok-letter.letter b c.in_ok-letter.ensures in
    rw (passed c.from_residual-in_err-value.result c.in_err-value.field-0.0 c.from_residual-in_err-value.ensures.1) (head_short c.args.sheet.now c.args.at c.args.first c.in_ok-letter.letter c.in_err-value.field-0.0 e (start_same c.eq.result _ c.args.first (c.eq.ensures ∙ start_is c.in_ok-letter.letter) c.if-eq-first.false) c.in_err-value.ensures)

pub returns-then-value-sheet : goal.returns-then-value-sheet
returns-then-value-sheet c =
    let b = byte_at c.args.sheet.now c.args.at c.get.result c.in_ok-byte.field-0 c.in_ok-byte.ensures.ok_part c.get.ensures.lookup.0 c.get.ensures.lookup.1 in
    let e = letter_at c.args.sheet.now c.args.at c.in_ok-byte.field-0.now c.in_ok-letter.letter b c.in_ok-letter.ensures in
    let l = lengthed c.args.sheet.now c.args.at c.in_ok-letter.letter c.in_ok-value.field-0.value c.in_ok-value.field-0.length e c.in_ok-value.ensures in
    head_past c.args.sheet.now c.args.at c.args.first c.in_ok-letter.letter c.in_ok-value.field-0.value c.in_ok-value.field-0.length l (start_same c.eq.result _ c.args.first (c.eq.ensures ∙ start_is c.in_ok-letter.letter) c.if-eq-first.false) (omega arith)
