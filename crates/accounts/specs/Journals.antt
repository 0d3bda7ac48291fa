-- A journal's records, and the balances that they come to. Assumes nothing: every list of records means something.
use Rattle.std.specs.Prelude.{◌≡◌, ℕ, ◌-◌, ◌≤◌, min, cond, List, map, length, take, ℤ, pos, neg_ℤ, Option}
use Rattle.std.proofs.Common.{arith}
use Rattle.std.specs.List.{range_with_len}
use Rattle.std.proofs.lemmas.List.FromFn.{length-map-range_with_len}
use Rattle.terms.specs.declared.refusal.Refusal.{Refusal}
use Rattle.terms.specs.Refusals.{unless_refused}
use Rattle.accounts.specs.declared.posting.Posting.{Posting}
use Rattle.accounts.specs.Postings.{same_party, posting_refused, total}

-- what a posting moves into a party's balance: the amount out of the payer's and into the payee's
abbrev pub share : (party : ℤ) → Posting → ℤ
share party p = cond (same_party p.payer party) (neg_ℤ p.centavos) (cond (same_party p.payee party) p.centavos (pos 0))

-- a record moves that share; one that no posting makes moves nothing
abbrev pub moved_into : (party : ℤ) → Posting → ℤ
moved_into party p = unless_refused (posting_refused p.payer p.payee p.centavos 1) (share party p) (pos 0)

-- the records of a journal: those written, and at most 50,000
abbrev pub recorded : (list : List Posting) (used : ℕ) → List Posting
recorded list used = take (min used 50000) list

-- a party's balance is the sum of what each record moves into it
abbrev pub balance_by : List Posting → (party : ℤ) → ℤ
balance_by records party = total (map (moved_into party) records)

-- the balances of the seventeen parties
unfoldable pub journal_balances : (list : List Posting) (used : ℕ) → List ℤ
journal_balances list used = map (λ k. balance_by (recorded list used) (pos k)) (range_with_len 0 17)

-- the places of the list that are not written yet, of the first 50,000
abbrev pub free_places : (list : List Posting) (used : ℕ) → ℕ
free_places list used = min (length list) 50000 - used

-- why a journal refuses a posting, if it does
abbrev pub journal_refused : (payer payee centavos : ℤ) (list : List Posting) (used : ℕ) → Option Refusal
journal_refused payer payee centavos list used = posting_refused payer payee centavos (free_places list used)

pub most_journal : 50000 ≤ 100000
most_journal = omega arith

pub limited_journal : (list : List Posting) (used : ℕ) → free_places list used ≤ 50000
limited_journal list used = omega arith

pub parties-journal : (list : List Posting) (used : ℕ) → length (journal_balances list used) ≡ 17
unfolding journal_balances
parties-journal list used = length-map-range_with_len (λ k. balance_by (recorded list used) (pos k)) 0 17
