-- Postings and questions: when one is refused, and what an accepted one changes. Assumes nothing.
use Rattle.std.specs.Prelude.{◌≡◌, ℕ, ◌<◌, Bool, cond, not, ◌&&◌, ◌||◌, List, [], ◌∷◌, replicate, ℤ, pos, ◌+ℤ◌, ◌-ℤ◌, ◌≤ℤ◌, Option, ◌==◌, int_le, slice_index_or, slice_set, unsigned_abs}
use Rattle.terms.specs.declared.refusal.Refusal.{Refusal}
use Rattle.terms.specs.declared.refusal.Refusal.TheVariants.{UnknownParty, AmountOutOfRange, NoFreePosting}
use Rattle.terms.specs.Ranges.{is_party, is_posting}
use Rattle.terms.specs.Refusals.{first}

-- two numbers name the same party
abbrev pub same_party : ℤ → ℤ → Bool
same_party a b = int_le a b && int_le b a

-- a posting is between two different parties, of an amount in range, and needs a free posting: tested in this order
abbrev pub posting_tests : (payer payee centavos : ℤ) (free : ℕ) → List (Refusal × Bool)
posting_tests payer payee centavos free =
    (UnknownParty, not (is_party payer) || not (is_party payee) || same_party payer payee)
    ∷ (AmountOutOfRange, not (is_posting centavos))
    ∷ (NoFreePosting, (free == 0))
    ∷ []

-- why a posting is refused, if it is
abbrev pub posting_refused : (payer payee centavos : ℤ) (free : ℕ) → Option Refusal
posting_refused payer payee centavos free = first (posting_tests payer payee centavos free)

-- a question about a balance is refused only if it names no party
abbrev pub question_tests : (party : ℤ) → List (Refusal × Bool)
question_tests party = (UnknownParty, not (is_party party)) ∷ []

-- balances stand in a list by party
abbrev pub balance_of : (party : ℤ) (balances : List ℤ) → ℤ
balance_of party balances = slice_index_or balances (unsigned_abs party) (pos 0)

-- a posting takes the amount from the payer's balance and adds it to the payee's
abbrev pub moved : (payer payee centavos : ℤ) (balances : List ℤ) → List ℤ
moved payer payee centavos balances =
    slice_set (slice_set balances (unsigned_abs payer) (balance_of payer balances -ℤ centavos)) (unsigned_abs payee) (balance_of payee balances +ℤ centavos)

-- new accounts hold nought for each of the seventeen parties
abbrev pub noughts : List ℤ
noughts = replicate 17 (pos 0)

-- the sum of a list of amounts
abbrev pub total : List ℤ → ℤ
total [] = pos 0
total (z ∷ zs) = z +ℤ total zs

-- a payment line is a posting between the bank, party 0, and an institution, which receives a positive amount and pays a negative one
abbrev pub line_payer : (institution centavos : ℤ) → ℤ
line_payer institution centavos = cond (int_le (pos 0) centavos) (pos 0) institution

-- the other side of the line
abbrev pub line_payee : (institution centavos : ℤ) → ℤ
line_payee institution centavos = cond (int_le (pos 0) centavos) institution (pos 0)

-- a posting has the amount without its sign
abbrev pub line_amount : (centavos : ℤ) → ℤ
line_amount centavos = pos (unsigned_abs centavos)

-- why a payment line is refused, if it is
abbrev pub line_refused : (institution centavos : ℤ) (free : ℕ) → Option Refusal
line_refused institution centavos free = posting_refused (line_payer institution centavos) (line_payee institution centavos) (line_amount centavos) free

-- the balances after an accepted payment line
abbrev pub line_paid : (institution centavos : ℤ) (balances : List ℤ) → List ℤ
line_paid institution centavos balances = moved (line_payer institution centavos) (line_payee institution centavos) (line_amount centavos) balances

-- what is known of a posting that is not refused
pub record Accepted (payer payee centavos : ℤ) (free : ℕ) : Type 0 where
  pub payer_least : pos 0 ≤ℤ payer
  pub payer_most : payer ≤ℤ pos 16
  pub payee_least : pos 0 ≤ℤ payee
  pub payee_most : payee ≤ℤ pos 16
  pub apart : payer ≡ payee → ⊥
  pub least : pos 0 ≤ℤ centavos
  pub most : centavos ≤ℤ pos 30000000000000
  pub some : 0 < free
