-- What equal meaning is good for.
use Rattle.std.specs.Prelude.{◌≡◌, ℕ, ◌+◌, ◌<◌, List, length, ℤ, Option}
use Rattle.banks.specs.Meaning.{Meaning, Alike}
use Rattle.banks.specs.Firing.{fired, next}
use Rattle.banks.specs.Pairing.{paired}

pub record AlikeLaws : Type 0 where
  -- equal meaning is reflexive, symmetric and transitive
  pub same : (n : ℕ) (m : Meaning) → Alike n m m
  pub back : (n : ℕ) (m j : Meaning) → Alike n m j → Alike n j m
  pub onward : (n : ℕ) (m j k : Meaning) → Alike n m j → Alike n j k → Alike n m k
  -- banks of equal meaning answer alike, and have equal meaning afterwards
  pub answers : (n : ℕ) (m j : Meaning) → Alike n m j → (a t : ℕ) (g : List (Option ℤ)) → a < n → length g ≡ 4 →
      fired m a t g ≡ fired j a t g
  pub stays : (n : ℕ) (m j : Meaning) → Alike n m j → (a t : ℕ) (g : List (Option ℤ)) → length g ≡ 4 →
      Alike n (next m a t g) (next j a t g)
  -- pairs of banks of equal meaning have equal meaning
  pub pairs : (n k : ℕ) (m m' j j' : Meaning) → Alike n m m' → Alike k j j' → Alike (n + k) (paired n m j) (paired n m' j')
