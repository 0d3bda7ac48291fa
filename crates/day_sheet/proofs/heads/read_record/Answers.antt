use Rattle.std.proofs.Common.{◌≡◌, ◌+◌, ◌-◌, ◌^◌, ◌<◌, take, drop, arith, rules}
use Rattle.day_sheet.specs.Faults.{later, place_in}
use Rattle.day_sheet.proofs.Fronts.{bodied, record_failed, stands}
use Rattle.day_sheet.proofs.Tries.{passed, mapped, kept}
use Rattle.day_sheet.proofs.heads.read_record.Goals as goal

pub map_err-requires : goal.map_err-requires
map_err-requires c = λ e is.
    let h = c.in_ok-letter.field-0 in
    let b = bodied c.args.sheet.now c.args.at c.args.first h.letter h.start h.«end» c.in_ok-letter.ensures in
    let f = record_failed c.args.sheet.now c.args.at c.args.first h.letter h.start h.«end» (take (h.«end» - h.start) (drop h.start c.args.sheet.now)) e b (rw is at c.read_fields.ensures) in
    let fits : h.start - c.args.at + place_in e < 2 ^ 64 = omega (arith, f.1) in
    search rules

pub returns-in_err-record : goal.returns-in_err-record
returns-in_err-record c =
    let e = mapped _ c.read_fields.result c.map_err.result c.in_err-record.field-0.0 c.map_err.ensures.cases c.in_err-record.was in
    let moved = e.2 in
    let h = c.in_ok-letter.field-0 in
    let g : c.in_err-record.field-0.0 ≡ later (h.start - c.args.at) e.0 = search rules in
    let b = bodied c.args.sheet.now c.args.at c.args.first h.letter h.start h.«end» c.in_ok-letter.ensures in
    let f = record_failed c.args.sheet.now c.args.at c.args.first h.letter h.start h.«end» (take (h.«end» - h.start) (drop h.start c.args.sheet.now)) e.0 b (rw e.1 at c.read_fields.ensures) in
    rw (passed c.from_residual-in_err-record.result c.in_err-record.field-0.0 c.from_residual-in_err-record.ensures.1, g) f.0

pub returns : goal.returns
returns c =
    let h = c.in_ok-letter.field-0 in
    let b = bodied c.args.sheet.now c.args.at c.args.first h.letter h.start h.«end» c.in_ok-letter.ensures in
    let read = rw (kept _ c.read_fields.result c.map_err.result c.in_ok-record.record c.map_err.ensures.cases c.in_ok-record.was) at c.read_fields.ensures in
    stands c.args.sheet.now c.args.sheet.ref_ptr c.args.at c.args.first h.letter h.start h.«end» (take (h.«end» - h.start) (drop h.start c.args.sheet.now)) c.in_ok-record.record b read
