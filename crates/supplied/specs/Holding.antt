-- What a supplied bank means, by the states that it holds.
use Rattle.std.specs.Prelude.{ℕ, List, slice_index_or}
use Rattle.banks.specs.Meaning.{Meaning}
use Rattle.supplied.specs.States.{row_of, rule_of}
use Rattle.supplied.specs.declared.state.State.{State}
use Rattle.supplied.specs.declared.state.State.TheVariants.{Other}
use Rattle.supplied.specs.declared.bank.Supplied.{Supplied}

-- the state of an actor number, that of a silent actor past the end
abbrev pub state_of : List State → ℕ → State
state_of ss a = slice_index_or ss a Other

abbrev pub holding : List State → Meaning
holding ss = record { rows = λ a. row_of (state_of ss a); reaction = λ a w t g. rule_of (state_of ss a) w g }

abbrev pub meaning_of : Supplied → Meaning
meaning_of s = holding s.states
