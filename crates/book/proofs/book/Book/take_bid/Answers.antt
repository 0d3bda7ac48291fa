use Rattle.std.proofs.Common.{◌≡◌, List, take, get_or, Some, None, Ok, Err, sym, refl, ap, ◌∙◌, arith}
use Rattle.std.proofs.lemmas.Int.{to_z-of_z}
use Rattle.std.proofs.lemmas.Result.{err_from_is_err_and}
use Rattle.terms.specs.Refusals.{first, answered}
use Rattle.terms.proofs.Answered.{none_from_ok, some_from_err, value_from_ok}
use Rattle.rules.specs.declared.call.Call.TheVariants.{Bid as Offers}
use Rattle.rules.specs.declared.call.Accepted.TheVariants.{Done}
use Rattle.rules.specs.declared.auction.Bid.{Bid}
use Rattle.rules.specs.Allotment.{entered}
use Rattle.rules.specs.Books.{with_auction}
use Rattle.rules.specs.Rules.{bid_given, quietly}
use Rattle.book.specs.Soundness.{no_desk}
use Rattle.book.specs.Tests.{bid_input, bid_state}
use Rattle.book.specs.View.{auction_of, books_of, done_or}
use Rattle.book.proofs.Sound.{sound_taken}
use Rattle.book.proofs.Steps.{refused_by, bid_refused, bid_tested, bid_taken}
use Rattle.book.proofs.book.Book.take_bid.Goals as goal

pub returns-in_err-bid : goal.returns-in_err-bid
returns-in_err-bid c =
    let k = c.args.self.now in
    let a = c.in_ok-terms.field-0 in
    let n = c.args.number in let i = c.args.institution in let p = c.args.price in let m = c.args.millions in
    let fi = c.ranges.institution in let fp = c.ranges.price in let fm = c.ranges.millions in
    let why = c.in_err-bid.field-0.0 in
    let q = err_from_is_err_and c.from_residual-in_err-bid.result c.from_residual-in_err-bid.ensures.1 in
    let tests = bid_input a.terms.kind k.rate i p m in
    let e : Err why ≡ answered (first tests) (bid_given i p m) = simp to_z-of_z at c.in_err-bid.ensures.answer in
    refused_by k (Offers n i p m) why (done_or c.from_residual-in_err-bid.result) (ap done_or (q.1 ∙ ap Err q.2)) (bid_refused k n i p m a why c.in_ok-terms.ensures (sym (some_from_err (first tests) why (bid_given i p m) e)))

pub returns-in_err-test_bid : goal.returns-in_err-test_bid
returns-in_err-test_bid c =
    let k = c.args.self.now in
    let a = c.in_ok-terms.field-0 in
    let n = c.args.number in let i = c.args.institution in let p = c.args.price in let m = c.args.millions in
    let fi = c.ranges.institution in let fp = c.ranges.price in let fm = c.ranges.millions in
    let tests = bid_input a.terms.kind k.rate i p m in
    let e : Ok c.in_ok-bid.bid ≡ answered (first tests) (bid_given i p m) = simp to_z-of_z at c.in_ok-bid.ensures.answer in
    let x = value_from_ok (first tests) c.in_ok-bid.bid (bid_given i p m) e in
    let none = none_from_ok (first tests) c.in_ok-bid.bid (bid_given i p m) e in
    let state = λ (y : Bid). first (bid_state a.terms (take k.taken k.bids) (get_or k.desks y.institution no_desk) y) in
    let why = c.in_err-test_bid.field-0.0 in
    let q = err_from_is_err_and c.from_residual-in_err-test_bid.result c.from_residual-in_err-test_bid.ensures.1 in
    let r = some_from_err (state c.in_ok-bid.bid) why tt c.in_err-test_bid.ensures.answer in
    refused_by k (Offers n i p m) why (done_or c.from_residual-in_err-test_bid.result) (ap done_or (q.1 ∙ ap Err q.2)) (bid_tested k n i p m a (Some why) c.in_ok-terms.ensures (sym none) (sym r ∙ ap state x))

pub invariant_of-self : goal.invariant_of-self
invariant_of-self c =
    let k = c.args.self.now in
    let a = c.in_ok-terms.field-0 in
    record {
      sized = (c.enter.auto.bids ∙ k.sized.0, k.sized.1);
      few = (omega (arith, c.in_ok-test_bid.ensures.passed), k.few.1);
      dated = k.dated;
      sound = sound_taken k.rate k.auction a c.in_ok-bid.bid (take k.taken k.bids) _ c.in_ok-terms.ensures.0 c.in_ok-bid.ensures.sound c.enter.ensures k.sound;
      required = k.required;
    }

pub returns : goal.returns
returns c =
    let k = c.args.self.now in
    let a = c.in_ok-terms.field-0 in
    let n = c.args.number in let i = c.args.institution in let p = c.args.price in let m = c.args.millions in
    let fi = c.ranges.institution in let fp = c.ranges.price in let fm = c.ranges.millions in
    let tests = bid_input a.terms.kind k.rate i p m in
    let e : Ok c.in_ok-bid.bid ≡ answered (first tests) (bid_given i p m) = simp to_z-of_z at c.in_ok-bid.ensures.answer in
    let x = value_from_ok (first tests) c.in_ok-bid.bid (bid_given i p m) e in
    let none = none_from_ok (first tests) c.in_ok-bid.bid (bid_given i p m) e in
    let state = λ (y : Bid). first (bid_state a.terms (take k.taken k.bids) (get_or k.desks y.institution no_desk) y) in
    let r = none_from_ok (state c.in_ok-bid.bid) tt tt c.in_ok-test_bid.ensures.answer in
    let untested = bid_tested k n i p m a None c.in_ok-terms.ensures (sym none) (sym r ∙ ap state x) in
    let bids = c.enter.ensures ∙ ap (λ (y : Bid). entered y (take k.taken k.bids)) x in
    record {
      steps = λ T C balance free. bid_taken k n i p m a c.in_ok-terms.ensures untested T C balance free ∙ ap (λ (bs : List Bid). (quietly (Ok Done), with_auction (auction_of k.auction bs) k.auctions (books_of balance free k))) (sym bids);
      plan = refl;
    }
