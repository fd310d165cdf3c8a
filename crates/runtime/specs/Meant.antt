-- The state that the fields of a runtime mean.
use Rattle.std.specs.Prelude.{ℕ, Bool, List, [], ◌∷◌, reverse, ℤ, Some, None, Option, slice_index_or}
use Rattle.runs.specs.State.{State}
use Rattle.runs.specs.declared.records.Event.{Event}
use Rattle.runs.specs.declared.records.Running.{Running}
use Rattle.runs.specs.declared.records.Output.{Output}
use Rattle.runtime.specs.declared.rows.SensorRow.{SensorRow}

-- stands in for a sensor that is not there
abbrev pub no_sensor : SensorRow
no_sensor = record { lateness = 0; last = None }

abbrev pub lateness_at : List SensorRow → ℕ → ℕ
lateness_at xs x = (slice_index_or xs x no_sensor).lateness

abbrev pub last_at : List SensorRow → ℕ → Option ℕ
last_at xs x = (slice_index_or xs x no_sensor).last

-- a stack as it is kept, its top last, with its top first
abbrev pub top_first : List Running → List Running
top_first fs = reverse fs

-- rows of a state without its bank
abbrev pub no_rows : ℕ → List ℤ
no_rows a = []

abbrev pub state_of : ℕ → Bool → List SensorRow → List Event → List Running → List Output → (ℕ → List ℤ) → State
state_of c b xs es fs os w = record {
  clock = c;
  taking = b;
  last = last_at xs;
  events = es;
  stack = top_first fs;
  outputs = os;
  rows = w;
}

-- a record that may be missing, as a list
abbrev pub listed : {A : Type 0} → Option A → List A
listed None = []
listed (Some x) = x ∷ []
