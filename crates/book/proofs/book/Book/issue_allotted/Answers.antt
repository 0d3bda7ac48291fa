use Rattle.std.proofs.Common.{◌≡◌, ℕ, Err, Option, Result, sym, ◌-◌, length, take, ap, ◌∙◌, subst, arith, length-take}
use Rattle.terms.specs.declared.refusal.Refusal.{Refusal}
use Rattle.terms.specs.Refusals.{first}
use Rattle.portfolio.specs.View.{placed_of}
use Rattle.book.specs.Deals.{room_tests}
use Rattle.book.specs.Publishing.{taken_off, closed, deals_for, Issues}
use Rattle.book.specs.declared.publication.Publication.{Publication}
use Rattle.book.specs.View.{books_of}
use Rattle.std.proofs.lemmas.Result.{err_from_is_err_and}
use Rattle.terms.proofs.Answered.{none_from_ok, some_from_err}
use Rattle.book.proofs.Published.{issues_refused, issues_made}
use Rattle.book.proofs.book.Book.issue_allotted.Goals as goal

pub returns-in_err-test_room : goal.returns-in_err-test_room
returns-in_err-test_room c =
    let k = c.args.self.now in
    let n = length-take k.taken k.bids in
    let why = c.in_err-test_room.field-0.0 in
    let p = err_from_is_err_and c.from_residual.result c.from_residual.ensures.1 in
    let sizes : length (take k.taken k.bids) ≡ length c.args.dollars.now = omega (arith, k.sized.0, k.few.0, c.requires.sizes) in
    let tests : ℕ → Option Refusal = λ m. first (room_tests (length (placed_of k.portfolio)) k.portfolio.numbered m) in
    subst (λ (r : Result Publication Refusal). Issues k (deals_for k c.args.standing c.args.dollars.now) c.args.standing.terms.kind r k) (sym (p.1 ∙ ap Err p.2))
    (issues_refused k c.args.standing c.args.dollars.now sizes why (sym (some_from_err (tests c.count_given-count.result) why tt c.in_err-test_room.ensures.answer) ∙ ap tests c.count_given-count.ensures.count))

pub returns : goal.returns
returns c =
    let k = c.args.self.now in
    let a = c.args.standing in
    let ds = c.args.dollars.now in
    let n = length-take k.taken k.bids in
    let sizes : length (take k.taken k.bids) ≡ length ds = omega (arith, k.sized.0, k.few.0, c.requires.sizes) in
    let p = c.issue_all.new.portfolio in
    let tests : ℕ → Option Refusal = λ m. first (room_tests (length (placed_of k.portfolio)) k.portfolio.numbered m) in
    issues_made k a ds sizes c.close_auction.new.self (placed_of p) p.numbered c.count_given-count.result c.publication_of-publication.result c.count_given-count.ensures.count (sym (none_from_ok (tests c.count_given-count.result) tt tt c.in_ok-test_room.ensures.answer)) c.publication_of-publication.ensures
    c.issue_all.ensures.hedges
    c.issue_all.ensures.numbered
    (λ balance free. c.close_auction.ensures.books balance free ∙ ap (λ m. closed (placed_of p) p.numbered (k.matured - taken_off a.terms.kind m) (books_of balance free k)) c.sum.ensures)
    c.close_auction.ensures.plan
