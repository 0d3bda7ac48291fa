-- What keeps a table's balances within 64 bits.
use Rattle.std.specs.Prelude.{ℕ, ◌-◌, ◌*◌, ◌≤◌, List, ℤ, pos, slice_index_or, unsigned_abs}
use Rattle.std.proofs.Common.{arith}

-- a balance is at most the greatest amount for each posting made
abbrev pub Bounded : (balances : List ℤ) (free : ℕ) → Type 0
Bounded balances free = (k : ℕ) → unsigned_abs (slice_index_or balances k (pos 0)) ≤ (100000 - free) * 30000000000000

pub most_table : 100000 ≤ 100000
most_table = omega arith
