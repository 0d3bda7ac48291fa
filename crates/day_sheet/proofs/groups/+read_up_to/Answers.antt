use Rattle.std.proofs.Common.{◌-◌, get_or, sym, ap, ◌∙◌, arith}
use Rattle.std.proofs.lemmas.Bool.{cond-false, ne_eqb}
use Rattle.day_sheet.proofs.Spelling.{read_from, number_bound}
use Rattle.day_sheet.proofs.groups.+read_up_to.Goals as goal

pub overflow_mul-result : goal.overflow_mul-result
overflow_mul-result t c = omega (arith, (number_bound (c.args.most - 1) _ c.in_ok-rest.rest c.in_ok-rest.length (omega arith) c.in_ok-rest.ensures).0)

pub overflow_add-result : goal.overflow_add-result
overflow_add-result t c =
    let e = ap (λ bs. get_or bs 0 0) c.in_ok-group.ensures.cases.0 in
    omega (arith, c.type_inv.bytes 0, (number_bound (c.args.most - 1) _ c.in_ok-rest.rest c.in_ok-rest.length (omega arith) c.in_ok-rest.ensures).0)

pub overflow_add-result-2 : goal.overflow_add-result-2
overflow_add-result-2 t c = omega (arith, (number_bound (c.args.most - 1) _ c.in_ok-rest.rest c.in_ok-rest.length (omega arith) c.in_ok-rest.ensures).1)

pub returns : goal.returns
returns t c =
    let e = ap (λ bs. get_or bs 0 0) c.in_ok-group.ensures.cases.0 in
    let b = c.type_inv.bytes 0 in
    rw c.from-2.ensures (sym (cond-false _ _ _ (ne_eqb c.in_ok-rest.rest 0 c.if-rest-eq0.false))
    ∙ read_from c.args.most c.in_ok-group.field-0-0.now c.args.bytes.now c.in_ok-group.after.now _ (omega arith) c.in_ok-group.ensures.cases.0 (omega arith) (omega arith) c.in_ok-rest.ensures)
