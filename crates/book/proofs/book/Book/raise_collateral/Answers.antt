use Rattle.std.proofs.Common.{◌≡◌, ◌<◌, None, length, nat_abs, Err, refl, ap, ◌∙◌, arith}
use Rattle.std.proofs.lemmas.Int.{to_z-of_z}
use Rattle.std.proofs.lemmas.Result.{err_from_is_err_and}
use Rattle.rules.specs.declared.call.Call.TheVariants.{Lodge}
use Rattle.book.specs.View.{Refuses}
use Rattle.book.proofs.Steps.{tested_error, desk_written}
use Rattle.book.proofs.book.Book.raise_collateral.Goals as goal

pub returns-in_err-institution : goal.returns-in_err-institution
returns-in_err-institution c =
    let f = c.ranges.institution in
    let g = c.ranges.centavos in
    let p = err_from_is_err_and c.from_residual.result c.from_residual.ensures.1 in
    tested_error c.args.self.now (Lodge c.args.institution c.args.centavos) c.in_err-institution.field-0.0 c.from_residual.result (p.1 ∙ ap Err p.2) (simp to_z-of_z at c.in_err-institution.ensures.answer)

pub returns : goal.returns
returns c =
    let f = c.ranges.institution in
    let g = c.ranges.centavos in
    let k = c.args.self.now in
    let call = Lodge c.args.institution c.args.centavos in
    let q = c.in_ok-institution.ensures.answer in
    let n = k.sized.1 in
    let none : Refuses k call None = simp to_z-of_z at q.0 in
    let at : c.place.result ≡ nat_abs c.args.institution = c.place.ensures ∙ simp to_z-of_z at q.1 in
    let lt : nat_abs c.args.institution < length k.desks = omega (arith, at, c.place.ensures, c.in_ok-institution.institution.known) in
    let u : c.unsigned_abs.result ≡ nat_abs c.args.centavos = simp to_z-of_z at c.unsigned_abs.ensures.value in
    record { steps = rw (at, u) (desk_written k call (nat_abs c.args.institution) _ lt none (λ T C balance free. refl)); plan = refl }
