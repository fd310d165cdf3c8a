-- What the supplied bank means for the actors of a project.
use Rattle.std.specs.Prelude.{ℕ, List, take, pos, slice_index_or}
use Rattle.banks.specs.Meaning.{Meaning}
use Rattle.line.specs.declared.parts.Kind.TheVariants.{Other}
use Rattle.line.specs.declared.parts.Actor.{Actor}
use Rattle.supplied.specs.Kinds.{reacts, starts}

-- stands in for an actor whose number is not in the project: silent, with an empty row
abbrev pub bystander : Actor
bystander = record { kind = Other; parameter = pos 0; delay = 0 }

-- the actor of a number; of more than 32 actors the first 32 count
abbrev pub numbered : List Actor → ℕ → Actor
numbered xs a = slice_index_or (take 32 xs) a bystander

-- each actor by its kind and parameter
abbrev pub supplied : List Actor → Meaning
supplied xs =
    record {
      rows = λ a. starts (numbered xs a).kind;
      reaction = λ a w t g. reacts (numbered xs a).kind (numbered xs a).parameter w g;
    }
