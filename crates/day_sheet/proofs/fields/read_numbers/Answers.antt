use Rattle.std.proofs.Common.{arith, w64}
use Rattle.std.proofs.lemmas.Int.{to_z_pos}
use Rattle.day_sheet.proofs.Runs.{kept_more, short-fits}
use Rattle.day_sheet.proofs.fields.read_numbers.Goals as goal

pub overflow_cast-number : goal.overflow_cast-number
overflow_cast-number c = omega (arith, short-fits c.in_ok-read.read.value c.in_ok-read.ensures.0.0)

pub loop-number-preserved : goal.loop-number-preserved
loop-number-preserved c =
    let b = c.in_ok-read.ensures in
    rw (to_z_pos w64 c.in_ok-read.read.value (short-fits c.in_ok-read.read.value b.0.0)) (kept_more c.loop-number.number-items c.args.bytes.now c.loop-number.number-index c.loop-number.at c.in_ok-read.read.value c.in_ok-read.read.length (omega arith) c.loop-number.invariant b.0 b.1)
