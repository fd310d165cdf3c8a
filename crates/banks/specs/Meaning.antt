-- What a bank means: a row of whole numbers for each actor number, and a reaction.
use Rattle.std.specs.Prelude.{◌≡◌, ℕ, ◌<◌, List, length, ℤ, Option}

-- what a firing leaves: the actor's new row, and its four outlets, each a value or absent
pub record Reacted : Type 0 where
  pub row : List ℤ
  pub outlets : List (Option ℤ)

-- a fixed rule from actor number, row, timestamp and four inlets
abbrev pub Reaction : Type 0
Reaction = ℕ → List ℤ → ℕ → List (Option ℤ) → Reacted

pub record Meaning : Type 0 where
  pub rows : ℕ → List ℤ
  pub reaction : Reaction

-- the rows of actor a that follow from its row in m, by any timestamps and any four inlets
pub data Follows (m : Meaning) (a : ℕ) : List ℤ → Type 0 where
  at_open : Follows m a (m.rows a)
  after : {w : List ℤ} (t : ℕ) (g : List (Option ℤ)) → length g ≡ 4 → Follows m a w → Follows m a (m.reaction a w t g).row

-- equal meaning for a project of n actors: equal rows, and reactions that agree on all rows that follow from there
pub record Alike (n : ℕ) (m j : Meaning) : Type 0 where
  pub rows : (a : ℕ) → a < n → m.rows a ≡ j.rows a
  pub reaction : (a : ℕ) → a < n → (w : List ℤ) → Follows m a w → (t : ℕ) (g : List (Option ℤ)) → length g ≡ 4 →
      m.reaction a w t g ≡ j.reaction a w t g
