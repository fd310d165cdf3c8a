-- What the silent bank means.
use Rattle.std.specs.Prelude.{List, [], ◌∷◌, ℤ, None, Option}
use Rattle.banks.specs.Meaning.{Meaning}

-- four outlets on which nothing is given
abbrev pub nothing : List (Option ℤ)
nothing = None ∷ None ∷ None ∷ None ∷ []

-- every row is empty and stays so, and nothing is ever given
abbrev pub silent : Meaning
silent = record { rows = λ a. []; reaction = λ a w t g. record { row = []; outlets = nothing } }
