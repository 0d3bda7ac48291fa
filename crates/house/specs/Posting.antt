-- What posting lines does to accounts. Assumes nothing.
use Rattle.std.specs.Prelude.{◌≡◌, ℕ, ◌-◌, List, length, ℤ, pos, slice_index_or}
use Rattle.rules.specs.declared.hedge.Line.{Line}
use Rattle.rules.specs.Books.{posted}

-- balances by party
abbrev pub by_party : List ℤ → ℕ → ℤ
by_party balances p = slice_index_or balances p (pos 0)

-- each line is posted between the bank and its institution, and takes one of the free postings
pub record Posts (lines : List Line) (balances : List ℤ) (free : ℕ) (balances' : List ℤ) (free' : ℕ) : Type 0 where
  pub moves : by_party balances' ≡ posted lines (by_party balances)
  pub uses : free' ≡ free - length lines
