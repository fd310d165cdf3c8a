-- A bank of eight actors, each of which gives the total of what came in.
use Rattle.std.specs.Prelude.{cond, List, [], ◌∷◌, ℤ, pos, ◌+ℤ◌, Some, None, Option, nat_lt, slice_index_or}
use Rattle.std.specs.Int.{saturate_to_bits}
use Rattle.banks.specs.Meaning.{Reacted, Meaning}
use Rattle.banks.specs.Silence.{nothing}
use Rattle.example_bank.specs.declared.Total.{Total}

-- the new row w and the outlets o
abbrev pub leaves : List ℤ → List (Option ℤ) → Reacted
leaves w o = record { row = w; outlets = o }

-- n is the total from now on, and outlet 0 gives it
abbrev pub added : ℤ → Reacted
added n = leaves (n ∷ []) (Some n ∷ None ∷ None ∷ None ∷ [])

-- a value is added to the total, which is held within 32 bits; without one the row stays, and nothing is given
abbrev pub summed : List ℤ → Option ℤ → Reacted
summed w (Some v) = added (saturate_to_bits 31 (slice_index_or w 0 (pos 0) +ℤ v))
summed w None = leaves w nothing

-- the row that stands for a total
abbrev pub row_of : Total → List ℤ
row_of t = t.sum ∷ []

abbrev pub zero_total : Total
zero_total = record { sum = pos 0 }

-- actors 0 to 7 have the totals ts, and other numbers are silent
abbrev pub totals : List Total → Meaning
totals ts =
    record {
      rows = λ a. cond (nat_lt a 8) (row_of (slice_index_or ts a zero_total)) [];
      reaction = λ a w t g. cond (nat_lt a 8) (summed w (slice_index_or g 0 None)) (leaves w nothing);
    }
