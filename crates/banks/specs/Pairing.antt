-- What a pair of banks means.
use Rattle.std.specs.Prelude.{ℕ, ◌-◌, cond, nat_lt}
use Rattle.banks.specs.Meaning.{Meaning}

-- numbers below n are f's, the others, less n, are g's
abbrev pub split : {X : Type 0} → ℕ → (ℕ → X) → (ℕ → X) → ℕ → X
split n f g k = cond (nat_lt k n) (f k) (g (k - n))

abbrev pub paired : ℕ → Meaning → Meaning → Meaning
paired n m j = record { rows = split n m.rows j.rows; reaction = split n m.reaction j.reaction }
