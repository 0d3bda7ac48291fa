-- How a portfolio is read. Assumes nothing.
use Rattle.std.specs.Prelude.{ℕ, List, map, take, filter}
use Rattle.rules.specs.declared.hedge.Hedge.{Hedge}
use Rattle.rules.specs.Books.{total}
use Rattle.rules.specs.Settlement.{closing, open_ones}
use Rattle.portfolio.specs.declared.portfolio.Portfolio.{Portfolio}

-- the hedges on its places, by number
abbrev pub placed_of : Portfolio → List Hedge
placed_of p = take p.placed p.hedges

-- the dollars of the open hedges that mature on a day
abbrev pub maturing_at : ℕ → List Hedge → ℕ
maturing_at day hs = total (map (λ x. x.deal.dollars) (filter (closing day) (open_ones hs)))
