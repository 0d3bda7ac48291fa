-- Whole lists of requests on a house just made, and the law after each. Assumes nothing.
use Rattle.std.specs.Prelude.{◌≡◌, ℕ, ◌≤◌, List, [], ◌∷◌, map, reverse, length, take, ℤ, pos, None}
use Rattle.std.specs.List.{flat_map, AllByRecursion}
use Rattle.terms.specs.declared.plan.Plan.{Plan}
use Rattle.tie_rules.specs.Sharing.{Sharing}
use Rattle.conventions.specs.Deciding.{Deciding}
use Rattle.rules.specs.declared.call.Call.{Call}
use Rattle.rules.specs.declared.call.Call.TheVariants as c
use Rattle.rules.specs.Numbers.{Answer}
use Rattle.rules.specs.declared.hedge.Line.{Line}
use Rattle.rules.specs.Books.{Books, with_auction}
use Rattle.rules.specs.Law.{run}
use Rattle.room.specs.Hands.{last_ticket}
use Rattle.room.specs.Rooms.{Lawful}
use Rattle.room.specs.declared.request.Request.{Request}
use Rattle.room.specs.declared.request.Request.TheVariants as q

-- the call that a request means: one with the ticket in hand goes under the last auction's number
abbrev pub meant : Books → Request → Call
meant b (q.Named x) = x
meant b (q.Bid i p m) = c.Bid b.auctions i p m
meant b q.Seal = c.Seal b.auctions
meant b q.Publish = c.Publish b.auctions
meant b q.Void = c.Void (last_ticket b)

-- new accounts: every balance is nought
abbrev pub New : List ℤ → Type 0
New = AllByRecursion (λ z. z ≡ pos 0)

-- a standing auction is voided when a room is closed
abbrev pub closed : Books → Books
closed b = with_auction None b.auctions b

module _ (P : Plan) (T : Sharing) (C : Deciding) (n : ℕ) where
  -- the calls that requests mean, each by the books that the calls before it left; those made before, the latest first
  abbrev pub spoken : List Call → List Request → List Call
  spoken past [] = []
  spoken past (r ∷ rs) = meant (run P T C n past).books r ∷ spoken (meant (run P T C n past).books r ∷ past) rs

  -- what a run shows: its calls are those that the requests mean; its answers, its lines and its books are those of the rules, a standing auction being voided at the end; and after every call the law stands whole
  pub record RunShows (requests : List Request) (calls : List Call) (answers : List Answer) (lines : List Line) (b : Books) : Type 0 where
    pub said : calls ≡ spoken [] requests
    pub answered : answers ≡ map (λ e. e.answer) (reverse (run P T C n (reverse calls)).history)
    pub told : lines ≡ flat_map (λ e. e.lines) (reverse (run P T C n (reverse calls)).history)
    pub books : b ≡ closed (run P T C n (reverse calls)).books
    pub law : (k : ℕ) → k ≤ length calls → Lawful P T n (run P T C n (reverse (take k calls))).history (run P T C n (reverse (take k calls))).books
    pub ended : Lawful P T n (run P T C n (reverse calls)).history b
