use Rattle.std.proofs.Common.{◌∷◌, ◌++◌, length, ap, ◌∙◌, arith}
use Rattle.day_sheet.specs.Groups.{groups}
use Rattle.day_sheet.specs.Writings.{spellings, written_at}
use Rattle.day_sheet.specs.Letters.{byte_of}
use Rattle.day_sheet.specs.Entries.{body}
use Rattle.day_sheet.specs.Parts.{asked, body_of}
use Rattle.day_sheet.proofs.Overlays.{written-parts}
use Rattle.day_sheet.proofs.Held.{spelled-size}
use Rattle.day_sheet.proofs.parts.Parts.put.Goals as goal

pub returns-clause-bytes : goal.returns-clause-bytes
returns-clause-bytes c =
    let p = c.args.self.now in
    let z = spelled-size p.letter (asked p) p.more.now p.tail.now c.args.size c.requires.size in
    let a = ap (λ ns. length (spellings ns)) c.asked.ensures in
    written-parts c.args.out.now c.args.at c.byte.result (groups c.args.size) (spellings c.asked.result.now) (spellings p.more.now) p.tail.now c.put-start.result c.put_all-after.result c.put_all-rest.result c.put-start.new.out c.put_all-after.new.out c.put_all-rest.new.out c.put_bytes.new.out (omega (arith, c.requires.room)) c.put-start.ensures.bytes c.put-start.ensures.next c.put_all-after.ensures.bytes c.put_all-after.ensures.next c.put_all-rest.ensures.bytes c.put_all-rest.ensures.next c.put_bytes.ensures.bytes
    ∙ ap (λ b. written_at c.args.out.now c.args.at (b ∷ (groups c.args.size ++ body c.asked.result.now p.more.now p.tail.now))) c.byte.ensures
    ∙ ap (λ n. written_at c.args.out.now c.args.at (byte_of p.letter ∷ (groups n ++ body c.asked.result.now p.more.now p.tail.now))) c.requires.size
    ∙ ap (λ ns. written_at c.args.out.now c.args.at (byte_of p.letter ∷ (groups (length (body_of p)) ++ body ns p.more.now p.tail.now))) c.asked.ensures
