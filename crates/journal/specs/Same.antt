-- What two journals have in common, and when they are runs.
use Rattle.std.specs.Prelude.{◌≡◌, ℕ, ◌<◌, length}
use Rattle.line.specs.Times.{Line, Sound}
use Rattle.banks.specs.Meaning.{Meaning, Alike}
use Rattle.runs.specs.State.{State}
use Rattle.runs.specs.Runs.{Journal, Runs, Complete, sensor_events}

-- each sensor with a number below n gave both journals the same events
abbrev pub EqualEventsBelow : ℕ → Journal → Journal → Type 0
EqualEventsBelow n h k = (x : ℕ) → x < n → sensor_events h x ≡ sensor_events k x

-- the journal is a run of some sound line over some bank
pub record Run (h : Journal) : Type 0 where
  pub line : Line
  pub bank : Meaning
  pub state : State
  pub sound : ∥ Sound line ∥₁
  pub runs : Runs line bank h state

-- the journals are complete runs of one sound line, over banks of equal meaning
pub record CompleteRuns (h k : Journal) : Type 0 where
  pub line : Line
  pub first_bank : Meaning
  pub second_bank : Meaning
  pub first_state : State
  pub second_state : State
  pub sound : Sound line
  pub alike : Alike (length line.plan.actors) first_bank second_bank
  pub first_runs : Runs line first_bank h first_state
  pub second_runs : Runs line second_bank k second_state
  pub first_complete : Complete first_state
  pub second_complete : Complete second_state
