-- Paths over a square table of edges, kept row by row, and what its closure is. Assumes nothing.
use Rattle.std.specs.Prelude.{◌≡◌, ℕ, ◌+◌, ◌*◌, ◌<◌, List, [], ◌∷◌, slice_index_or, slice_set}
use Rattle.std.specs.List.{AllByRecursion}

-- row i, column j of a table with rows of n: the edge from i to j
abbrev pub at : {W : Type 0} → W → ℕ → List W → ℕ → ℕ → W
at none n t i j = slice_index_or t (i * n + j) none

-- each of the places is below n
abbrev pub Below : ℕ → List ℕ → Type 0
Below n ks = AllByRecursion (λ k. k < n) ks

-- the edges e on the way from i through the inner places ks to j, joined in order
abbrev pub along {ℓ} : {W : Type ℓ} → (W → W → W) → (ℕ → ℕ → W) → ℕ → List ℕ → ℕ → W
along join e i [] j = e i j
along join e i (k ∷ ks) j = join (e i k) (along join e k ks j)

-- there is an edge at each step from i through ks to j
abbrev pub Linked : (ℕ → ℕ → Type 0) → ℕ → List ℕ → ℕ → Type 0
Linked E i ks j = along (λ A B. A × B) E i ks j

-- the sum of the edges from i through ks to j
abbrev pub total : (ℕ → ℕ → ℕ) → ℕ → List ℕ → ℕ → ℕ
total e i ks j = along ◌+◌ e i ks j

-- x is at least as good as y
abbrev pub Covers : {W : Type 0} → (W → W → W) → W → W → Type 0
Covers choose x y = choose x y ≡ x

module _ {W : Type 0} (none : W) (choose join : W → W → W) where
  -- the choice among finitely many paths from i to j over the edges e, with inner places below n
  pub data Chosen (e : ℕ → ℕ → W) (n i j : ℕ) : W → Type 0 where
    no_path : Chosen e n i j none
    path : (ks : List ℕ) → Below n ks → Chosen e n i j (along join e i ks j)
    either : {x y : W} → Chosen e n i j x → Chosen e n i j y → Chosen e n i j (choose x y)

  -- r has, for each two places, the choice among all paths of one or more edges of t
  pub record Closure (n : ℕ) (t r : List W) : Type 0 where
    -- it is at least as good as every path, however long
    pub absorbs : (i j : ℕ) → i < n → j < n → (ks : List ℕ) → Below n ks
        → Covers choose (at none n r i j) (along join (at none n t) i ks j)
    -- and nothing but paths went into it
    pub made : (i j : ℕ) → i < n → j < n → Chosen (at none n t) n i j (at none n r i j)

  -- the table t where the way from i to j has been offered the one through k
  abbrev pub relaxed : ℕ → ℕ → ℕ → ℕ → List W → List W
  relaxed n k i j t =
      slice_set t (i * n + j) (choose (at none n t i j) (join (at none n t i k) (at none n t k j)))
