-- Words on lists that the definitions of a run use.
use Rattle.std.specs.Prelude.{ℕ, ◌≤◌, min, Bool, cond, List, [], ◌∷◌, Some, None, Option, ◌==◌}
use Rattle.std.specs.List.{filter}
use Rattle.line.specs.Lists.{In}
-- an element put into a list that is ordered by rank, behind those of its rank
pub use Rattle.queue.specs.Order.{put}

-- P holds of all that stand in the list
abbrev pub Each : {A : Type 0} → (A → Type 0) → List A → Type 0
Each {A} P xs = (x : A) → In x xs → P x

-- R holds between each element and all that stand behind it
abbrev pub Pairs : {A : Type 0} → (A → A → Type 0) → List A → Type 0
Pairs R [] = Unit {0}
Pairs R (x ∷ xs) = Each (R x) xs × Pairs R xs

-- the elements that pass a test, in order
abbrev pub keep : {A : Type 0} → (A → Bool) → List A → List A
keep = filter

-- several put in, one after another
abbrev pub put_all : {A : Type 0} → (A → ℕ) → List A → List A → List A
put_all f [] ys = ys
put_all f (x ∷ xs) ys = put_all f xs (put f x ys)

-- the list rises by rank
abbrev pub Ordered : {A : Type 0} → (A → ℕ) → List A → Type 0
Ordered {A} f xs = Pairs (λ (x y : A). f x ≤ f y) xs

-- ys is xs without one x
pub data Without {A : Type 0} (x : A) : List A → List A → Type 0 where
  here : {xs : List A} → Without x (x ∷ xs) xs
  later : {y : A} {xs ys : List A} → Without x xs ys → Without x (y ∷ xs) (y ∷ ys)

abbrev pub lower : ℕ → Option ℕ → ℕ
lower n None = n
lower n (Some m) = min n m

-- the least number that f gives, none where the list is empty
abbrev pub least : {A : Type 0} → (A → ℕ) → List A → Option ℕ
least f [] = None
least f (x ∷ xs) = Some (lower (f x) (least f xs))

-- f with another value at a
abbrev pub changed : {A : Type 0} → (ℕ → A) → ℕ → A → ℕ → A
changed f a x b = cond (b == a) x (f b)
