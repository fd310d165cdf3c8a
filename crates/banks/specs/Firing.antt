-- What one firing does to a bank's meaning.
use Rattle.std.specs.Prelude.{ℕ, cond, List, ℤ, Option, ◌==◌}
use Rattle.banks.specs.Meaning.{Meaning, Reacted}

-- f with v at a
abbrev pub put : {X : Type 0} → (ℕ → X) → ℕ → X → ℕ → X
put f a v k = cond (k == a) v (f k)

-- what actor a makes of its row, at timestamp t with the inlets g
abbrev pub fired : Meaning → ℕ → ℕ → List (Option ℤ) → Reacted
fired m a t g = m.reaction a (m.rows a) t g

-- the meaning from then on: actor a has its new row, and all else is as it was
abbrev pub next : Meaning → ℕ → ℕ → List (Option ℤ) → Meaning
next m a t g = record { rows = put m.rows a (fired m a t g).row; reaction = m.reaction }
