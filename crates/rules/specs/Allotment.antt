-- Bids, and the dollars that they get. Assumes nothing.
use Rattle.std.specs.Prelude.{ℕ, suc, ◌-◌, ◌*◌, cond, List, [], ◌∷◌, ◌++◌, map, ℤ, pos, ◌+ℤ◌, filter, ◌==◌, int_lt, nat_eq, nat_le, unsigned_abs}
use Rattle.tie_rules.specs.Sharing.{Sharing}
use Rattle.rules.specs.declared.auction.Kind.{Kind}
use Rattle.rules.specs.declared.auction.Kind.TheVariants.{Initial, Maturity}
use Rattle.rules.specs.declared.auction.Terms.{Terms}
use Rattle.rules.specs.declared.auction.Bid.{Bid}
use Rattle.rules.specs.declared.hedge.Deal.{Deal}
use Rattle.rules.specs.Books.{total}

-- the dollars that a bid names
abbrev pub named : Bid → ℕ
named x = 1000000 * x.millions

-- a new bid goes behind the bids of its price and above
abbrev pub entered : Bid → List Bid → List Bid
entered x [] = x ∷ []
entered x (y ∷ ys) = cond (int_lt y.price x.price) (x ∷ y ∷ ys) (y ∷ entered x ys)

-- an institution's millions among the bids
abbrev pub millions_of : ℕ → List Bid → ℕ
millions_of i xs = total (map (λ x. x.millions) (filter (λ x. nat_eq x.institution i) xs))

-- the bids in groups of one price
abbrev pub joined_to : Bid → List (List Bid) → List (List Bid)
joined_to x [] = (x ∷ []) ∷ []
joined_to x ([] ∷ gs) = (x ∷ []) ∷ gs
joined_to x ((y ∷ ys) ∷ gs) = cond (int_lt y.price x.price) ((x ∷ []) ∷ (y ∷ ys) ∷ gs) ((x ∷ y ∷ ys) ∷ gs)

-- bids in falling price, in groups of one price
abbrev pub prices : List Bid → List (List Bid)
prices [] = []
prices (x ∷ xs) = joined_to x (prices xs)

-- a bid with the dollars that it got
abbrev pub Got : Type 0
Got = record { of : Bid; dollars : ℕ }

-- bids with their dollars, in order
abbrev pub paired : List Bid → List ℕ → List Got
paired [] ds = []
paired (x ∷ xs) [] = []
paired (x ∷ xs) (d ∷ ds) = record { of = x; dollars = d } ∷ paired xs ds

-- the bids at one price get all that they name if they fit; otherwise the tie rule's shares if any dollars are left, and nought if none is
abbrev pub served : Sharing → ℕ → List ℕ → List ℕ
served T left amounts = cond (nat_le (total amounts) left) amounts (cond (left == 0) (map (λ _. 0) amounts) (T.shares amounts left))

-- prices are met in falling order
abbrev pub allot : Sharing → ℕ → List (List Bid) → List Got
allot T left [] = []
allot T left (g ∷ gs) = paired g (served T left (map named g)) ++ allot T (left - total (map named g)) gs

-- what each bid of an auction got
abbrev pub allotted : Sharing → Terms → List Bid → List Got
allotted T t xs = allot T (1000000 * t.offer) (prices xs)

-- the assignment rate: the price, or in a maturity auction the units over the current rate
abbrev pub assigned_rate : Kind → ℕ → ℤ → ℤ
assigned_rate Initial rate price = price
assigned_rate Maturity rate price = price +ℤ pos rate

-- what a bid with dollars becomes: number, current rate and terms are given
abbrev pub deal_of : ℕ → ℕ → Terms → Got → Deal
deal_of n rate t x = record { number = n; institution = x.of.institution; dollars = x.dollars; assigned = unsigned_abs (assigned_rate t.kind rate x.of.price); maturity = t.maturity }

-- each bid with dollars becomes a deal with the next number
abbrev pub numbered_from : ℕ → ℕ → Terms → List Got → List Deal
numbered_from n rate t [] = []
numbered_from n rate t (x ∷ xs) = cond (x.dollars == 0) (numbered_from n rate t xs) (deal_of n rate t x ∷ numbered_from (suc n) rate t xs)

-- the dollars that a publication takes off those matured
abbrev pub sold_at : Kind → List Deal → ℕ
sold_at Initial ds = 0
sold_at Maturity ds = total (map (λ d. d.dollars) ds)
