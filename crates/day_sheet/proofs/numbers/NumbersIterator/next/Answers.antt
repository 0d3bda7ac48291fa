use Rattle.std.proofs.Common.{refl, ap, arith, w64}
use Rattle.std.proofs.lemmas.Int.{ints, to_z_pos}
use Rattle.day_sheet.proofs.Runs.{first_of, none_first, short-fits}
use Rattle.day_sheet.proofs.numbers.NumbersIterator.next.Goals as goal

pub returns-in_err-value-clause-steps : goal.returns-in_err-value-clause-steps
returns-in_err-value-clause-steps c =
    rw c.from_residual.ensures ((none_first c.args.self.now.bytes.now c.read.result c.read.ensures c.in_err-value.ensures.value), refl)

pub overflow_cast-result : goal.overflow_cast-result
overflow_cast-result c =
    let f = first_of c.args.self.now.bytes.now c.read.result c.in_ok-value.field-0 c.read.ensures c.in_ok-value.ensures.value in
    let b = short-fits c.in_ok-value.field-0.value f.begins.0 in
    omega (arith, ints)

pub returns-clause-steps : goal.returns-clause-steps
returns-clause-steps c =
    let f = first_of c.args.self.now.bytes.now c.read.result c.in_ok-value.field-0 c.read.ensures c.in_ok-value.ensures.value in
    (c.in_ok-value.field-0.value, to_z_pos w64 c.in_ok-value.field-0.value (short-fits c.in_ok-value.field-0.value f.begins.0), f.begins, ap (λ k. (c.args.self.now.bytes.ref_ptr.0, k)) (omega (arith, f.size)))

pub returns-clause-goes : goal.returns-clause-goes
returns-clause-goes c =
    let f = first_of c.args.self.now.bytes.now c.read.result c.in_ok-value.field-0 c.read.ensures c.in_ok-value.ensures.value in
    record { on = λ _. (tt, tt, f.shorter); keeps = tt; rests = λ _. tt }
