-- The row that stands for an actor's state, and the rule that the state follows.
use Rattle.std.specs.Prelude.{List, [], ◌∷◌, ℤ, pos, Option}
use Rattle.banks.specs.Meaning.{Reacted}
use Rattle.line.specs.declared.parts.Kind.TheVariants as kind
use Rattle.supplied.specs.Kinds.{reacts}
use Rattle.supplied.specs.declared.kinds.count.Counter.{Counter}
use Rattle.supplied.specs.declared.kinds.gate.Gate.{Gate as Gates}
use Rattle.supplied.specs.declared.kinds.gate.Gate.TheVariants.{Shut, Open}
use Rattle.supplied.specs.declared.kinds.toggle.Toggle.{Toggle as Toggles}
use Rattle.supplied.specs.declared.kinds.toggle.Toggle.TheVariants.{Off, On}
use Rattle.supplied.specs.declared.state.State.{State}
use Rattle.supplied.specs.declared.state.State.TheVariants.{Other, Pass, Count, Gate, Toggle, Scale, Sort}

abbrev pub count_row : Counter → List ℤ
count_row c = c.count ∷ []

abbrev pub gate_row : Gates → List ℤ
gate_row Shut = pos 0 ∷ []
gate_row Open = pos 1 ∷ []

abbrev pub toggle_row : Toggles → List ℤ
toggle_row Off = pos 0 ∷ []
toggle_row On = pos 1 ∷ []

abbrev pub row_of : State → List ℤ
row_of Other = []
row_of Pass = []
row_of (Count c) = count_row c
row_of (Gate g) = gate_row g
row_of (Toggle t) = toggle_row t
row_of (Scale s) = []
row_of (Sort s) = []

-- the rule of the state's kind, at its parameter
abbrev pub rule_of : State → List ℤ → List (Option ℤ) → Reacted
rule_of Other = reacts kind.Other (pos 0)
rule_of Pass = reacts kind.Pass (pos 0)
rule_of (Count c) = reacts kind.Count (pos 0)
rule_of (Gate g) = reacts kind.Gate (pos 0)
rule_of (Toggle t) = reacts kind.Toggle (pos 0)
rule_of (Scale s) = reacts kind.Scale s.parameter
rule_of (Sort s) = reacts kind.Sort s.parameter
