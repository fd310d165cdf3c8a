-- Numbers as bytes, low byte first, and bytes written over others.
use Rattle.std.specs.Prelude.{ℕ, zero, suc, ◌+◌, ◌*◌, ◌/◌, ◌%◌, List, [], ◌∷◌, ◌++◌, length, take, drop}

-- the w low bytes of x
abbrev pub le : ℕ → ℕ → List ℕ
le zero x = []
le (suc w) x = x % 256 ∷ le w (x / 256)

-- the number that the bytes spell
abbrev pub val : List ℕ → ℕ
val [] = 0
val (b ∷ bs) = b + 256 * val bs

-- n bytes from the place at on
abbrev pub between : ℕ → ℕ → List ℕ → List ℕ
between at n bs = take n (drop at bs)

-- s written over d from the place at on, the rest left as it was
abbrev pub put : List ℕ → ℕ → List ℕ → List ℕ
put d at s = take at d ++ (s ++ drop (at + length s) d)
