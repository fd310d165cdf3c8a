-- What a closure says of spans, and of yes and no, in plain words. Assumes nothing.
use Rattle.std.specs.Prelude.{◌≡◌, ℕ, ◌^◌, ◌<◌, ◌≤◌, Bool, true, false, List, is_some, Some, None, Decides, Option}
use Rattle.std.specs.Option.{unwrap_or}
use Rattle.paths.specs.Paths.{at, Below, Linked, total}
use Rattle.paths.specs.Spans.{greatest, length_of, no_span}
use Rattle.paths.specs.declared.span.Span.{Span}

-- there is a path from i to j over the edges E, with inner places below n
abbrev pub Connected : ℕ → (ℕ → ℕ → Type 0) → ℕ → ℕ → Type 0
Connected n E i j = (ks : List ℕ) × Below n ks × Linked E i ks j

-- the length from i to j in a table of spans, if it has one
abbrev pub length_at : ℕ → List Span → ℕ → ℕ → Option ℕ
length_at n t i j = length_of (at no_span n t i j)

-- there is an edge from i to j
abbrev pub Edge : ℕ → List Span → ℕ → ℕ → Type 0
Edge n t i j = is_some (length_at n t i j) ≡ true

-- the microseconds of that edge
abbrev pub micros_at : ℕ → List Span → ℕ → ℕ → ℕ
micros_at n t i j = unwrap_or (length_at n t i j) 0

-- no edge is longer than a thousand seconds
abbrev pub Short : ℕ → List Span → Type 0
Short n t = (i j : ℕ) → i < n → j < n → Edge n t i j → micros_at n t i j ≤ 1000000000

-- r has the least sums over the paths of one or more edges of t
pub record Distances (n : ℕ) (t r : List Span) : Type 0 where
  -- a length is the sum along some path
  pub some : (i j d : ℕ) → i < n → j < n → length_at n r i j ≡ Some d
      → (ks : List ℕ) × Below n ks × Linked (Edge n t) i ks j × (total (micros_at n t) i ks j ≡ d)
  -- and no path has a smaller one
  pub least : (i j d : ℕ) → i < n → j < n → length_at n r i j ≡ Some d
      → (ks : List ℕ) → Below n ks → Linked (Edge n t) i ks j → d ≤ total (micros_at n t) i ks j
  -- where there is no length, every path is too long for a span
  pub long : (i j : ℕ) → i < n → j < n → length_at n r i j ≡ None
      → (ks : List ℕ) → Below n ks → Linked (Edge n t) i ks j → greatest ≤ total (micros_at n t) i ks j
  -- among few places with short edges that leaves no path: there is a length exactly where there is a path
  pub exactly : n ≤ 33 → Short n t → (i j : ℕ) → i < n → j < n
      → Decides (is_some (length_at n r i j)) (Connected n (Edge n t) i j)
  -- and leaves each length below 2 ^ 63
  pub small : n ≤ 33 → Short n t → (i j d : ℕ) → i < n → j < n → length_at n r i j ≡ Some d → d < 2 ^ 63

-- r says yes exactly where there is a path of one or more edges of t
abbrev pub Reached : ℕ → List Bool → List Bool → Type 0
Reached n t r = (i j : ℕ) → i < n → j < n
    → Decides (at false n r i j) (Connected n (λ a b. at false n t a b ≡ true) i j)
