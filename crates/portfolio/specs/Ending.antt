-- What the termination of a hedge does. Assumes nothing.
use Rattle.std.specs.Prelude.{◌≡◌, ℕ, ◌<◌, Bool, true, false, ◌||◌, List, [], ◌∷◌, map, length, ℤ, pos, Some, None, filter, Option, ◌==◌, int_lt, slice_index_or, unsigned_abs}
use Rattle.rules.specs.declared.hedge.Hedge.{Hedge}
use Rattle.rules.specs.declared.hedge.Line.{Line}
use Rattle.rules.specs.Settlement.{line_of, turned, of_number}
use Rattle.portfolio.specs.Fitting.{Payable, no_hedge}
use Rattle.portfolio.specs.declared.portfolio.Portfolio.{Portfolio}
use Rattle.portfolio.specs.View.{placed_of}

-- no open hedge has that number
abbrev pub none_open : ℤ → List Hedge → Bool
none_open number hs = int_lt number (pos 0) || length (filter (of_number (unsigned_abs number)) hs) == 0

-- an open hedge of that number stands on this place
abbrev pub OpenAt : ℤ → Portfolio → ℕ → Type 0
OpenAt number p i = (i < p.placed) × (none_open number (placed_of p) ≡ false) × (of_number (unsigned_abs number) (slice_index_or p.hedges i no_hedge) ≡ true)

-- the hedge of that number is settled and closed, the others stay
abbrev pub all_ended_at : ℕ → ℕ → ℕ → List Hedge → List Hedge
all_ended_at n day rate hs = map (λ x. turned (of_number n x) (of_number n x) day rate x) hs

-- no line and no change exactly where none is open; otherwise the line of the one that was
abbrev pub Ended : ℤ → ℕ → ℕ → (before after : List Hedge) → Option Line → Type 0
Ended number day rate before after None = (none_open number before ≡ true) × (after ≡ before)
Ended number day rate before after (Some l) =
    (none_open number before ≡ false) × (map (line_of rate) (filter (of_number (unsigned_abs number)) before) ≡ l ∷ []) × (after ≡ all_ended_at (unsigned_abs number) day rate before) × Payable l
