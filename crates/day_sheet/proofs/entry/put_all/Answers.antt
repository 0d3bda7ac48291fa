use Rattle.std.proofs.Common.{get_or, pos, w64, SFits, rules}
use Rattle.std.proofs.lemmas.Int.{to_z-of_z}
use Rattle.day_sheet.proofs.Held.{put_room, put_step}
use Rattle.day_sheet.proofs.entry.put_all.Goals as goal

pub put-next-requires : goal.put-next-requires
put-next-requires c =
    let f : SFits w64 (get_or c.args.numbers.now c.loop-number.number-index (pos 0)) = search rules in
    let n = c.unsigned_abs.ensures.value in
    put_room c.args.out.now c.args.at c.args.numbers.now c.loop-number.number-index c.loop-number.next c.loop-number.out c.unsigned_abs.result c.loop-number-test.true (simp to_z-of_z at n) c.requires c.loop-number.auto.out c.loop-number.invariant

pub loop-number-preserved : goal.loop-number-preserved
loop-number-preserved c =
    let f : SFits w64 (get_or c.args.numbers.now c.loop-number.number-index (pos 0)) = search rules in
    let n = c.unsigned_abs.ensures.value in
    put_step c.args.out.now c.args.at c.args.numbers.now c.loop-number.number-index c.loop-number.next c.loop-number.out c.unsigned_abs.result c.put-next.result c.put-next.new.out c.loop-number-test.true (simp to_z-of_z at n) c.requires c.loop-number.invariant c.put-next.ensures.next c.put-next.ensures.bytes
