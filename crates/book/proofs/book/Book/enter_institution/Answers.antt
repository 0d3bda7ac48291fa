use Rattle.std.proofs.Common.{◌≡◌, ◌<◌, None, length, nat_abs, Err, refl, ap, ◌∙◌, arith}
use Rattle.std.proofs.lemmas.Int.{to_z-of_z}
use Rattle.std.proofs.lemmas.Result.{err_from_is_err_and}
use Rattle.rules.specs.declared.call.Call.TheVariants.{Admit}
use Rattle.book.specs.View.{Refuses}
use Rattle.book.proofs.Steps.{tested_error, desk_written}
use Rattle.book.proofs.book.Book.enter_institution.Goals as goal

pub returns-in_err-institution : goal.returns-in_err-institution
returns-in_err-institution c =
    let f = c.ranges.institution in
    let p = err_from_is_err_and c.from_residual.result c.from_residual.ensures.1 in
    tested_error c.args.self.now (Admit c.args.institution) c.in_err-institution.field-0.0 c.from_residual.result (p.1 ∙ ap Err p.2) (simp to_z-of_z at c.in_err-institution.ensures)

pub returns : goal.returns
returns c =
    let f = c.ranges.institution in
    let k = c.args.self.now in
    let call = Admit c.args.institution in
    let q = c.in_ok-institution.ensures in
    let n = k.sized.1 in
    let none : Refuses k call None = simp to_z-of_z at q.0 in
    let at : c.place.result ≡ nat_abs c.args.institution = c.place.ensures ∙ simp to_z-of_z at q.1 in
    let lt : nat_abs c.args.institution < length k.desks = omega (arith, at, c.place.ensures, c.in_ok-institution.institution.known) in
    record { steps = rw (c.default.ensures.1.0, c.default.ensures.1.1.0, c.default.ensures.1.1.1) (rw at (desk_written k call (nat_abs c.args.institution) _ lt none (λ T C balance free. refl))); plan = refl }
