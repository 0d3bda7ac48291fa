use Rattle.std.proofs.Common.{length, ap, ◌∙◌, arith, length-set}
use Rattle.day_sheet.proofs.Spelling.{groups-small, groups-large, groups-some}
use Rattle.day_sheet.proofs.Overlays.{put_last, put_more}
use Rattle.day_sheet.proofs.groups.+put.Goals as goal

pub bounds-out-at : goal.bounds-out-at
bounds-out-at t c = omega (arith, groups-some c.args.number)

pub returns-then-number-lt128 : goal.returns-then-number-lt128
returns-then-number-lt128 t c =
    record {
      next = omega (arith, ap length (groups-small c.args.number (omega arith)));
      bytes = put_last c.args.out.now c.args.at c.args.number (omega (arith, groups-some c.args.number)) (omega arith);
    }

pub bounds-out-at-2 : goal.bounds-out-at-2
bounds-out-at-2 t c = omega (arith, groups-some c.args.number)

pub put-requires : goal.put-requires
put-requires t c = simp length-set (omega (arith, ap length (groups-large c.args.number (omega arith))))

pub returns : goal.returns
returns t c =
    record {
      next = omega (arith, c.put.ensures.next, ap length (groups-large c.args.number (omega arith)));
      bytes = c.put.ensures.bytes ∙ put_more c.args.out.now c.args.at c.args.number (omega (arith, groups-some c.args.number)) (omega arith);
    }
