-- What the writing of a number answers. Assumes nothing.
use Rattle.std.specs.Prelude.{ℕ, ◌+◌, Bool, cond, ◌&&◌, List, [], ◌∷◌, ◌++◌, map, length, take, drop, ℤ, pos, Some, None, Option, int_le, nat_le, nat_lt, sum_by, unsigned_abs}
use Rattle.std.specs.List.{flat_map}
use Rattle.terms.specs.declared.refusal.Refusal.{Refusal}
use Rattle.terms.specs.declared.refusal.Refusal.TheVariants.{WrongLength, BadNumber}
use Rattle.terms.specs.Refusals.{first}
use Rattle.day_sheet.specs.Groups.{groups}

-- how many groups spell a number, if nine are enough
abbrev pub length_in : ℕ → Option ℕ
length_in n = cond (nat_le (length (groups n)) 9) (Some (length (groups n))) None

-- the bytes after others were written over them at a place
abbrev pub written_at : (bytes : List ℕ) (at : ℕ) (more : List ℕ) → List ℕ
written_at bytes at more = take at bytes ++ (more ++ drop (at + length more) bytes)

-- why a number is not written at a place among so many bytes: it has more than nine groups, or no room
abbrev pub number_refusal : (room at n : ℕ) → Option Refusal
number_refusal room at n = first ((BadNumber, nat_lt 9 (length (groups n))) ∷ (WrongLength, nat_lt room (at + length (groups n))) ∷ [])

-- a number that a sheet can hold: it is not under nought, and has at most nine groups
abbrev pub holdable : ℤ → Bool
holdable z = int_le (pos 0) z && nat_le (length (groups (unsigned_abs z))) 9

-- the spellings of numbers side by side
abbrev pub spellings : List ℤ → List ℕ
spellings zs = flat_map groups (map unsigned_abs zs)

-- how many bytes spell the numbers
abbrev pub size_of : List ℤ → ℕ
size_of zs = sum_by (λ z. length (groups (unsigned_abs z))) zs
