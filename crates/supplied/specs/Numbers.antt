-- Words on whole numbers that the kinds use.
use Rattle.std.specs.Prelude.{ℕ, suc, ◌/◌, Bool, false, ℤ, pos, negsuc, ◌*ℤ◌, neg_ℤ, ◌==◌}
use Rattle.std.specs.Int.{int_min, int_max}

abbrev pub is_zero : ℤ → Bool
is_zero (pos n) = n == 0
is_zero (negsuc n) = false

-- the greatest and the least number of 32 bits
abbrev pub greatest : ℤ
greatest = pos 2_147_483_647

abbrev pub least : ℤ
least = negsuc 2_147_483_647

-- z held within 32 bits
abbrev pub held : ℤ → ℤ
held z = int_max least (int_min z greatest)

-- z divided by n and rounded towards zero: as often as n goes into z's magnitude, with z's sign
abbrev pub truncated : ℤ → ℕ → ℤ
truncated (pos a) n = pos (a / n)
truncated (negsuc a) n = neg_ℤ (pos (suc a / n))

-- v times p, in thousandths
abbrev pub scaled : ℤ → ℤ → ℤ
scaled p v = held (truncated (v *ℤ p) 1000)
