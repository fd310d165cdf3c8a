-- What comparing two runs tells.
use Rattle.std.specs.Prelude.{◌≡◌, Bool, length, Decides}
use Rattle.banks.specs.Meaning.{Meaning, Alike}
use Rattle.project.specs.Project.{line, plan}
use Rattle.project.specs.declared.project.Project.{Project}
use Rattle.runs.specs.Laws.{EqualEvents, EqualRecords}
use Rattle.runs.specs.Runs.{Journal, Runs, Complete}
use Rattle.runs.specs.State.{State}

-- of the journals h and k: whether each sensor gave both the same events, and whether all records are equal
pub record Compares (h k : Journal) (same_events same_records : Bool) : Type 0 where
  -- where they are runs of projects
  pub events : (p q : Project) (m j : Meaning) (s z : State) → Runs (line p) m h s → Runs (line q) j k z →
      Decides same_events (EqualEvents h k)
  pub records : Decides same_records (EqualRecords h k)
  -- of complete runs of one project over banks of equal meaning the two answers are one
  pub one_answer : (p : Project) (m j : Meaning) (s z : State) → Alike (length (plan p).actors) m j →
      Runs (line p) m h s → Runs (line p) j k z → Complete s → Complete z → same_events ≡ same_records
