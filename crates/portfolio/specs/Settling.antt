-- What a settlement does to the hedges, and the lines that it writes. Assumes nothing.
use Rattle.std.specs.Prelude.{ℕ, ◌+◌, Bool, List, [], ◌∷◌, ◌++◌, map, length, drop, filter, slice_set, Option, None, Some, nat_lt}
use Rattle.conventions.specs.Deciding.{Deciding}
use Rattle.terms.specs.declared.refusal.Refusal.{Refusal}
use Rattle.terms.specs.declared.refusal.Refusal.TheVariants.{WrongLength}
use Rattle.rules.specs.declared.hedge.Hedge.{Hedge}
use Rattle.rules.specs.declared.hedge.Line.{Line}
use Rattle.rules.specs.Settlement.{closing, line_of, open_ones, pays, turned}

-- every place may want a line
abbrev pub room_tests : ℕ → List (Refusal × Bool)
room_tests room = (WrongLength, nat_lt room 128) ∷ []

-- a hedge after the day: settled where the convention says so, and closed on its maturity day
abbrev pub settled_one : Deciding → ℕ → ℕ → Hedge → Hedge
settled_one C day rate x = turned (pays C day rate x) (closing day x) day rate x

-- the open hedges after the day, by number
abbrev pub all_settled_at : Deciding → ℕ → ℕ → List Hedge → List Hedge
all_settled_at C day rate hs = map (settled_one C day rate) (open_ones hs)

-- the lines of the open hedges that the convention settles, by number
abbrev pub paid_lines : Deciding → ℕ → ℕ → List Hedge → List Line
paid_lines C day rate hs = map (line_of rate) (filter (pays C day rate) (open_ones hs))

-- lines laid over the first of others
abbrev pub laid_over : (new old : List Line) → List Line
laid_over new old = new ++ drop (length new) old

-- lines with one more written, if there is one
abbrev pub with_line : Option Line → ℕ → List Line → List Line
with_line None count lines = lines
with_line (Some l) count lines = slice_set lines count l

-- how many are written then
abbrev pub counted : Option Line → ℕ → ℕ
counted None count = count
counted (Some l) count = count + 1
