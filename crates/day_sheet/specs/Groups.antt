-- How a number is spelled in groups of seven bits. Assumes nothing.
use Rattle.std.specs.Prelude.{◌≡◌, ℕ, zero, suc, ◌+◌, ◌/◌, ◌%◌, ◌≤◌, cond, List, [], ◌∷◌, ◌++◌, length, ◌≢◌, nat_lt}

-- the groups of a number, lowest first: each has seven bits, and all but the last have 128 added
abbrev pub groups_by : (turns n : ℕ) → List ℕ
groups_by zero n = n ∷ []
groups_by (suc turns) n = cond (nat_lt n 128) (n ∷ []) ((128 + n % 128) ∷ groups_by turns (n / 128))

-- its spelling: a number has fewer groups than its value and one, so that many turns are enough
unfoldable pub groups : ℕ → List ℕ
groups n = groups_by n n

-- a number that a sheet can hold: it has at most nine groups
abbrev pub Short : ℕ → Type 0
Short n = length (groups n) ≤ 9

-- the bytes begin with the spelling of a number that a sheet can hold, and the rest follows
abbrev pub Begins : (bytes : List ℕ) (n : ℕ) (rest : List ℕ) → Type 0
Begins bytes n rest = Short n × (bytes ≡ groups n ++ rest)

-- a number is begun and broken: there are bytes, and they begin with the spelling of no number
abbrev pub Broken : (bytes : List ℕ) → Type 0
Broken bytes = (bytes ≢ []) × ((n : ℕ) (rest : List ℕ) → Begins bytes n rest → ⊥)

-- a spelling determines its number, and is not the front of another's: bytes begin with one number at most
abbrev pub OneSpelling : Type 0
OneSpelling = (m n : ℕ) (x y : List ℕ) → Short m → Short n → groups m ++ x ≡ groups n ++ y → (m ≡ n) × (x ≡ y)
