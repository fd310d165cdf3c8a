-- The first element that passes a test, as the library finds it.
use Rattle.std.proofs.Common.{◌≡◌, Bool, true, false, cond, List, [], ◌∷◌, Some, Option, refl}
use Rattle.std.specs.List.{find}
use Rattle.std.specs.Option.{option_map}
use Rattle.line.specs.Lists.{first}

mapped-cond : {A B : Type 0} (g : A → B) (b : Bool) (x : A) (v : Option A) (w : Option B) → option_map g v ≡ w → option_map g (cond b (Some x) v) ≡ cond b (Some (g x)) w
mapped-cond g true x v w e = refl
mapped-cond g false x v w e = e

pub first-found : {A B : Type 0} (f : A → Bool) (g : A → B) (xs : List A) → option_map g (find f xs) ≡ first f g xs
first-found f g [] = refl
first-found f g (x ∷ xs) = mapped-cond g (f x) x (find f xs) (first f g xs) (first-found f g xs)
