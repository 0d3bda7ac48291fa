use Rattle.std.proofs.Common.{ap, ◌∙◌, refl, arith}
use Rattle.day_sheet.specs.Writings.{size_of}
use Rattle.day_sheet.specs.Parts.{asked}
use Rattle.day_sheet.proofs.Held.{body-size, spellings-least, size-of, size_most}
use Rattle.day_sheet.proofs.parts.Parts.size.Goals as goal
use Rattle.day_sheet.proofs.parts.Parts.size.Goals.{then-self-gt-MOST_BYTES-via-then-self-gt-MOST_BYTES, then-self-gt-MOST_BYTES-via-else-self-gt-MOST_BYTES+then-self-gt-MOST_BYTES-2}

pub returns-then-self-gt-MOST_BYTES : goal.returns-then-self-gt-MOST_BYTES
returns-then-self-gt-MOST_BYTES c =
    let z = body-size (asked c.args.self.now) c.args.self.now.more.now c.args.self.now.tail.now in
    let m = spellings-least c.args.self.now.more.now in
    elim c.then-self-gt-MOST_BYTES.branch [
      | then-self-gt-MOST_BYTES-via-then-self-gt-MOST_BYTES w ↦ (refl, omega (arith, w.if-self-gt-MOST_BYTES.true))
      | then-self-gt-MOST_BYTES-via-else-self-gt-MOST_BYTES+then-self-gt-MOST_BYTES-2 w ↦ (refl, omega (arith, w.if-self-gt-MOST_BYTES-2.true))
    ]

pub size_of_all-requires-2 : goal.size_of_all-requires-2
size_of_all-requires-2 c =
    let m = size_most c.args.self.now c.requires in
    omega arith

pub overflow_add-result : goal.overflow_add-result
overflow_add-result c =
    let a = c.size_of_all.ensures ∙ ap size_of c.asked.ensures in
    let m = size_most c.args.self.now c.requires in
    omega (arith, c.size_of_all-2.ensures)

pub overflow_add-result-2 : goal.overflow_add-result-2
overflow_add-result-2 c =
    let a = c.size_of_all.ensures ∙ ap size_of c.asked.ensures in
    let m = size_most c.args.self.now c.requires in
    omega (arith, c.size_of_all-2.ensures)

pub returns : goal.returns
returns c =
    let p = c.args.self.now in
    let a = c.size_of_all.ensures ∙ ap size_of c.asked.ensures in
    let m = size_most p c.requires in
    let z = body-size (asked p) p.more.now p.tail.now in
    (omega (arith, c.size_of_all-2.ensures, size-of (asked p), size-of p.more.now), omega (arith, c.size_of_all-2.ensures, size-of (asked p), size-of p.more.now))
