-- The kinds of actors: the row that each starts with, and what it makes of its row and its inlets.
use Rattle.std.specs.Prelude.{ℕ, cond, List, [], ◌∷◌, ℤ, pos, ◌+ℤ◌, Some, None, Option, int_lt, slice_index_or}
use Rattle.std.specs.Int.{int_min}
use Rattle.banks.specs.Meaning.{Reacted}
use Rattle.banks.specs.Silence.{nothing}
use Rattle.line.specs.declared.parts.Kind.{Kind}
use Rattle.line.specs.declared.parts.Kind.TheVariants.{Pass, Count, Gate, Toggle, Scale, Sort, Other}
use Rattle.supplied.specs.Numbers.{is_zero, greatest, scaled}

-- the number that a row holds, 0 where it is empty
abbrev pub number : List ℤ → ℤ
number [] = pos 0
number (n ∷ w) = n

abbrev pub inlet : ℕ → List (Option ℤ) → Option ℤ
inlet i g = slice_index_or g i None

-- v on each of the four outlets
abbrev pub on_all : Option ℤ → List (Option ℤ)
on_all v = v ∷ v ∷ v ∷ v ∷ []

-- the row is w from now on, and the outlets are o
abbrev pub leaves : List ℤ → List (Option ℤ) → Reacted
leaves w o = record { row = w; outlets = o }

-- the row holds the number n from now on, which is given on all outlets
abbrev pub gives : ℤ → Reacted
gives n = leaves (n ∷ []) (on_all (Some n))

-- pass gives inlet 0
abbrev pub passed : List ℤ → Option ℤ → Reacted
passed w v = leaves w (on_all v)

-- count: inlet 0 adds 1 up to the greatest number, inlet 1 sets 0, both together set 0; it gives the count
abbrev pub counted : List ℤ → Option ℤ → Option ℤ → Reacted
counted w v (Some r) = gives (pos 0)
counted w (Some v) None = gives (int_min (number w +ℤ pos 1) greatest)
counted w None None = leaves w nothing

-- a gate's row after inlet 1: a value other than 0 opens it, which is 1, and the value 0 shuts it, which is 0
abbrev pub ruled : List ℤ → Option ℤ → List ℤ
ruled w (Some c) = cond (is_zero c) (pos 0) (pos 1) ∷ []
ruled w None = w

-- gate: inlet 1 comes first, and then inlet 0 is given if the gate is open
abbrev pub gated : List ℤ → Option ℤ → Option ℤ → Reacted
gated w v c = leaves (ruled w c) (cond (is_zero (number (ruled w c))) nothing (on_all v))

-- toggle: inlet 0 flips 0 and 1; it gives the new state
abbrev pub toggled : List ℤ → Option ℤ → Reacted
toggled w (Some v) = gives (cond (is_zero (number w)) (pos 1) (pos 0))
toggled w None = leaves w nothing

-- scale gives inlet 0 times the parameter divided by 1000, rounded towards zero and held within 32 bits
abbrev pub scales : ℤ → List ℤ → Option ℤ → Reacted
scales p w (Some v) = leaves w (on_all (Some (scaled p v)))
scales p w None = leaves w nothing

-- sort: inlet 0 goes to outlet 0 if it is below the parameter, else to outlet 1
abbrev pub sorted : ℤ → List ℤ → Option ℤ → Reacted
sorted p w (Some v) = leaves w (cond (int_lt v p) (Some v ∷ None ∷ None ∷ None ∷ []) (None ∷ Some v ∷ None ∷ None ∷ []))
sorted p w None = leaves w nothing

-- the kinds, by the row, the inlets and the parameter p
abbrev pub reacts : Kind → ℤ → List ℤ → List (Option ℤ) → Reacted
reacts Pass p w g = passed w (inlet 0 g)
reacts Count p w g = counted w (inlet 0 g) (inlet 1 g)
reacts Gate p w g = gated w (inlet 0 g) (inlet 1 g)
reacts Toggle p w g = toggled w (inlet 0 g)
reacts Scale p w g = scales p w (inlet 0 g)
reacts Sort p w g = sorted p w (inlet 0 g)
reacts Other p w g = leaves w nothing

-- the row at the start: 0 for the kinds that hold a number, and empty for the others
abbrev pub starts : Kind → List ℤ
starts Pass = []
starts Count = pos 0 ∷ []
starts Gate = pos 0 ∷ []
starts Toggle = pos 0 ∷ []
starts Scale = []
starts Sort = []
starts Other = []
