-- The ranges of the quantities that calls name. Assumes nothing.
use Rattle.std.specs.Prelude.{Bool, ◌&&◌, ℤ, pos, negsuc, int_le}

-- a number from the least to the most, both included
abbrev pub within : ℤ → ℤ → ℤ → Bool
within least most z = int_le least z && int_le z most

-- the central bank is party 0, institutions are 1 to 16
abbrev pub is_party : ℤ → Bool
is_party = within (pos 0) (pos 16)

-- an institution, and not the bank
abbrev pub is_institution : ℤ → Bool
is_institution = within (pos 1) (pos 16)

-- whole millions of dollars of an offer, a cap or a bid
abbrev pub is_millions : ℤ → Bool
is_millions = within (pos 1) (pos 2000)

-- ten-thousandths of a peso per dollar
abbrev pub is_rate : ℤ → Bool
is_rate = within (pos 1) (pos 999999)

-- the same, as a maturity bid adds them to the current rate: -9,999 to 99,999
abbrev pub is_units : ℤ → Bool
is_units = within (negsuc 9998) (pos 99999)

-- a part of a whole
abbrev pub is_percent : ℤ → Bool
is_percent = within (pos 0) (pos 100)

-- 1 January 2017 to 31 December 2099
abbrev pub is_day : ℤ → Bool
is_day = within (pos 0) (pos 30314)

-- centavos of one posting
abbrev pub is_posting : ℤ → Bool
is_posting = within (pos 0) (pos 30000000000000)
