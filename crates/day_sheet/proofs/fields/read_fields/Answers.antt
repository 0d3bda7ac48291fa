use Rattle.std.proofs.Common.{◌≡◌, rules}
use Rattle.day_sheet.specs.Faults.{later}
use Rattle.day_sheet.proofs.Tries.{passed, mapped, kept}
use Rattle.day_sheet.proofs.Bodies.{tail_of, numbers-failed, end-failed, bid_second, whole}
use Rattle.day_sheet.proofs.fields.read_fields.Goals as goal

pub returns-in_err-read : goal.returns-in_err-read
returns-in_err-read c =
    rw (passed c.from_residual.result c.in_err-read.field-0.0 c.from_residual.ensures.1) (numbers-failed c.args.letter c.args.body.now c.numbers.result _ c.numbers.ensures c.in_err-read.ensures)

pub returns-in_err-map_err : goal.returns-in_err-map_err
returns-in_err-map_err c =
    let e = mapped _ c.check_ending.result c.map_err.result c.in_err-map_err.field-0.0 c.map_err.ensures.cases c.in_err-map_err.was in
    let moved = e.2 in
    let g : c.in_err-map_err.field-0.0 ≡ later c.in_ok-read.read.length e.0 = search rules in
    let t = tail_of c.args.letter c.args.body.now c.in_ok-read.read.numbers c.numbers.result c.in_ok-read.read.length c.numbers.ensures c.in_ok-read.ensures in
    let f = end-failed c.args.letter c.args.body.now c.in_ok-read.read.numbers c.in_ok-read.read.length c.ending.result e.0 c.ending.ensures t (rw e.1 at c.check_ending.ensures) in
    rw (passed c.from_residual-in_err-map_err.result c.in_err-map_err.field-0.0 c.from_residual-in_err-map_err.ensures.1, g) f.0

pub record_of-requires : goal.record_of-requires
record_of-requires c =
    let t = tail_of c.args.letter c.args.body.now c.in_ok-read.read.numbers c.numbers.result c.in_ok-read.read.length c.numbers.ensures c.in_ok-read.ensures in
    bid_second c.args.letter c.args.body.now c.in_ok-read.read.numbers c.in_ok-read.read.length c.in_ok-read.ensures.0 t

pub returns : goal.returns
returns c =
    let t = tail_of c.args.letter c.args.body.now c.in_ok-read.read.numbers c.numbers.result c.in_ok-read.read.length c.numbers.ensures c.in_ok-read.ensures in
    let ends = rw (kept _ c.check_ending.result c.map_err.result c.in_ok-map_err.field-0 c.map_err.ensures.cases c.in_ok-map_err.was) at c.check_ending.ensures in
    whole c.args.letter c.args.body.now c.args.body.ref_ptr c.record_of.result c.in_ok-read.read.numbers c.in_ok-read.read.length c.ending.result c.in_ok-read.ensures.0 c.ending.ensures t ends c.record_of.ensures.letter c.record_of.ensures.numbers c.record_of.ensures.tail
