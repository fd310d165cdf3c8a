-- Numbers in a script: plain decimals.
use Rattle.std.specs.Prelude.{◌≡◌, ℕ, ◌+◌, ◌-◌, ◌*◌, ◌^◌, ◌<◌, ◌≤◌, List, [], ◌∷◌, length, ℤ, pos, neg_ℤ}
use Rattle.std.specs.List.{AllByRecursion}

-- the code of a digit, from 48 for 0 to 57 for 9
abbrev pub Digit : ℕ → Type 0
Digit c = (48 ≤ c) × (c ≤ 57)

-- the number that digits write behind the digits of n
abbrev pub value_behind : ℕ → List ℕ → ℕ
value_behind n [] = n
value_behind n (c ∷ cs) = value_behind (n * 10 + (c - 48)) cs

-- one digit or more, and nothing else, that write n; zeros may stand in front
pub record Decimal (ds : List ℕ) (n : ℕ) : Type 0 where
  pub some : 0 < length ds
  pub digits : AllByRecursion Digit ds
  pub value : value_behind 0 ds ≡ n

-- a number of 64 bits
pub record Number (ds : List ℕ) (n : ℕ) : Type 0 where
  pub decimal : Decimal ds n
  pub fits : n < 2 ^ 64

-- a signed number of 32 bits: digits, or a minus (code 45) directly in front of them
pub data Signed : List ℕ → ℤ → Type 0 where
  plain : {ds : List ℕ} {n : ℕ} → Decimal ds n → n < 2 ^ 31 → Signed ds (pos n)
  minus : {ds : List ℕ} {n : ℕ} → Decimal ds n → n ≤ 2 ^ 31 → Signed (45 ∷ ds) (neg_ℤ (pos n))
