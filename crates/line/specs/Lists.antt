-- Words on lists that the definitions of a line use.
use Rattle.std.specs.Prelude.{◌≡◌, Bool, cond, ◌⊎◌, List, [], ◌∷◌, Some, None, Option}

-- x stands in the list
abbrev pub In : {A : Type 0} → A → List A → Type 0
In x [] = ⊥
In x (y ∷ ys) = (x ≡ y) ⊎ In x ys

-- what g gives of the first element that passes the test f, if one does
abbrev pub first : {A B : Type 0} → (A → Bool) → (A → B) → List A → Option B
first f g [] = None
first f g (x ∷ xs) = cond (f x) (Some (g x)) (first f g xs)
