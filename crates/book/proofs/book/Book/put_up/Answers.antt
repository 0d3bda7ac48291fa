use Rattle.std.proofs.Common.{◌≡◌, Some, None, Ok, Err, sym, refl, ap, ◌∙◌}
use Rattle.std.proofs.lemmas.Int.{to_z-of_z}
use Rattle.std.proofs.lemmas.Result.{err_from_is_err_and}
use Rattle.terms.specs.Refusals.{first, answered}
use Rattle.terms.proofs.Answered.{none_from_ok, some_from_err, value_from_ok}
use Rattle.rules.specs.declared.call.Call.TheVariants.{Announce}
use Rattle.rules.specs.declared.auction.Terms.{Terms}
use Rattle.rules.specs.Rules.{terms_given}
use Rattle.book.specs.Tests.{announce_input, announce_state}
use Rattle.book.specs.View.{ticket_or}
use Rattle.book.proofs.Steps.{refused_by, announce_refused, announce_tested, announced}
use Rattle.book.proofs.book.Book.put_up.Goals as goal

pub returns-in_err-terms : goal.returns-in_err-terms
returns-in_err-terms c =
    let k = c.args.self.now in
    let kd = c.args.kind in let o = c.args.offer in let u = c.args.cap in let m = c.args.maturity in
    let fk = c.ranges.kind in let fo = c.ranges.offer in let fu = c.ranges.cap in let fm = c.ranges.maturity in
    let why = c.in_err-terms.field-0.0 in
    let p = err_from_is_err_and c.from_residual.result c.from_residual.ensures.1 in
    let e : Err why ≡ answered (first (announce_input k.plan kd o u m)) (terms_given kd o u m) = simp to_z-of_z at c.in_err-terms.ensures.answer in
    refused_by k (Announce kd o u m) why (ticket_or c.from_residual.result) (ap ticket_or (p.1 ∙ ap Err p.2)) (announce_refused k kd o u m why (sym (some_from_err (first (announce_input k.plan kd o u m)) why (terms_given kd o u m) e)))

pub returns-in_err-test_announce : goal.returns-in_err-test_announce
returns-in_err-test_announce c =
    let k = c.args.self.now in
    let kd = c.args.kind in let o = c.args.offer in let u = c.args.cap in let m = c.args.maturity in
    let fk = c.ranges.kind in let fo = c.ranges.offer in let fu = c.ranges.cap in let fm = c.ranges.maturity in
    let why = c.in_err-test_announce.field-0.0 in
    let p = err_from_is_err_and c.from_residual-in_err-test_announce.result c.from_residual-in_err-test_announce.ensures.1 in
    let e : Ok c.in_ok-terms.terms ≡ answered (first (announce_input k.plan kd o u m)) (terms_given kd o u m) = simp to_z-of_z at c.in_ok-terms.ensures.answer in
    let t = value_from_ok (first (announce_input k.plan kd o u m)) c.in_ok-terms.terms (terms_given kd o u m) e in
    let q = some_from_err (first (announce_state k c.in_ok-terms.terms)) why tt c.in_err-test_announce.ensures.answer in
    refused_by k (Announce kd o u m) why (ticket_or c.from_residual-in_err-test_announce.result) (ap ticket_or (p.1 ∙ ap Err p.2))
    (announce_tested k kd o u m (Some why) (sym (none_from_ok (first (announce_input k.plan kd o u m)) c.in_ok-terms.terms (terms_given kd o u m) e)) (sym q ∙ ap (λ (x : Terms). first (announce_state k x)) t))

pub returns : goal.returns
returns c =
    let k = c.args.self.now in
    let kd = c.args.kind in let o = c.args.offer in let u = c.args.cap in let m = c.args.maturity in
    let fk = c.ranges.kind in let fo = c.ranges.offer in let fu = c.ranges.cap in let fm = c.ranges.maturity in
    let e : Ok c.in_ok-terms.terms ≡ answered (first (announce_input k.plan kd o u m)) (terms_given kd o u m) = simp to_z-of_z at c.in_ok-terms.ensures.answer in
    let t = value_from_ok (first (announce_input k.plan kd o u m)) c.in_ok-terms.terms (terms_given kd o u m) e in
    let q = none_from_ok (first (announce_state k c.in_ok-terms.terms)) tt tt c.in_ok-test_announce.ensures.answer in
    let none = announce_tested k kd o u m None (sym (none_from_ok (first (announce_input k.plan kd o u m)) c.in_ok-terms.terms (terms_given kd o u m) e)) (sym q ∙ ap (λ (x : Terms). first (announce_state k x)) t) in
    record { steps = announced k kd o u m c.in_ok-terms.terms t none; plan = refl }
