-- What a publication does to the tables, once the dollars of the bids are known. Assumes nothing.
use Rattle.std.specs.Prelude.{◌≡◌, ℕ, suc, ◌+◌, ◌-◌, cond, List, ◌++◌, map, length, take, ℤ, None, Option, Result, ◌==◌}
use Rattle.terms.specs.declared.refusal.Refusal.{Refusal}
use Rattle.terms.specs.Refusals.{first, answered, unless_refused}
use Rattle.rules.specs.declared.auction.Kind.{Kind}
use Rattle.rules.specs.declared.auction.Kind.TheVariants.{Initial, Maturity}
use Rattle.rules.specs.declared.hedge.Deal.{Deal}
use Rattle.rules.specs.declared.hedge.Hedge.{Hedge}
use Rattle.rules.specs.Allotment.{sold_at}
use Rattle.rules.specs.Books.{Books}
use Rattle.rules.specs.Settlement.{fresh}
use Rattle.portfolio.specs.View.{placed_of}
use Rattle.book.specs.declared.publication.Publication.{Publication}
use Rattle.book.specs.declared.standing.Standing.{Standing}
use Rattle.book.specs.declared.book.Book.{Book}
use Rattle.book.specs.Deals.{deals_of, room_tests}
use Rattle.book.specs.View.{books_of}

-- the dollars that an auction takes off those matured: none of an initial auction
abbrev pub taken_off : Kind → (sold : ℕ) → ℕ
taken_off Initial sold = 0
taken_off Maturity sold = sold

-- the books with other hedges and other dollars matured, and no auction standing
abbrev pub closed : List Hedge → (numbered matured : ℕ) → Books → Books
closed hedges numbered matured b = record { day = b.day; rate = b.rate; auction = None; auctions = b.auctions; hedges = hedges; numbered = numbered; matured = matured; desk = b.desk; balance = b.balance; free = b.free }

-- no auction stands any more, and the dollars that it sold are off those matured
pub record Closes (k : Book) (kind : Kind) (sold : ℕ) (k' : Book) : Type 0 where
  pub books : (balance : ℕ → ℤ) (free : ℕ) → books_of balance free k' ≡ closed (placed_of k.portfolio) k.portfolio.numbered (k.matured - taken_off kind sold) (books_of balance free k)
  pub plan : k'.plan ≡ k.plan

-- the first number and the count that a publication answers
abbrev pub told_of : (numbered count : ℕ) → Publication
told_of numbered count = record { first = cond (count == 0) 0 (suc numbered); count = count }

-- the books with these deals published
abbrev pub published : Kind → List Deal → Books → Books
published kind deals b = closed (b.hedges ++ map (fresh b.day) deals) (b.numbered + length deals) (b.matured - sold_at kind deals) b

-- the deals of an auction's bids with these dollars
abbrev pub deals_for : Book → Standing → (dollars : List ℕ) → List Deal
deals_for k a dollars = deals_of k.portfolio.numbered k.rate a.terms (take k.taken k.bids) dollars

-- why there is no room for them
abbrev pub no_room : Book → List Deal → Option Refusal
no_room k deals = first (room_tests (length (placed_of k.portfolio)) k.portfolio.numbered (length deals))

-- they are published, if there is room
pub record Issues (k : Book) (deals : List Deal) (kind : Kind) (r : Result Publication Refusal) (k' : Book) : Type 0 where
  pub answer : r ≡ answered (no_room k deals) (told_of k.portfolio.numbered (length deals))
  pub books : (balance : ℕ → ℤ) (free : ℕ) → books_of balance free k' ≡ unless_refused (no_room k deals) (published kind deals (books_of balance free k)) (books_of balance free k)
  pub plan : k'.plan ≡ k.plan
