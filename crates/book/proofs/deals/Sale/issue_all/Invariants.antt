use Rattle.portfolio.specs.View.{placed_of}
use Rattle.book.proofs.Issuing.{Left}
use Rattle.book.proofs.deals.Sale.issue_all.Given as goal

abbrev pub invariant-loop-bid : goal.invariant-loop-bid
invariant-loop-bid l = Left l.self.day l.self.rate l.self.terms l.bids l.dollars (placed_of l.initial.portfolio) l.initial.portfolio.numbered l.bid-iterator.a.rest.now l.bid-iterator.b.rest.now (placed_of l.portfolio) l.portfolio.numbered
