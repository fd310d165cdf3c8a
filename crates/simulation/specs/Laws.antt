-- The laws over runs, of every project and every bank.
use Rattle.std.specs.Prelude.{◌≡◌, ℕ, false, ◌↔◌, length}
use Rattle.banks.specs.Meaning.{Meaning, Alike}
use Rattle.project.specs.Project.{line, plan}
use Rattle.project.specs.declared.project.Project.{Project}
use Rattle.runs.specs.Laws.{EqualEvents, EqualRecords, EitherBegins, Orderly, Moves}
use Rattle.runs.specs.Runs.{Journal, Runs, Complete, actor_record, actuator_record}
use Rattle.runs.specs.State.{State}

pub record LawsOverRuns : Type 0 where
  -- two complete runs of one project over banks of equal meaning have equal records exactly when each sensor gave both
  -- the same events, whatever the clocks did and whatever order the calls took
  pub events_fix_records : (p : Project) (m j : Meaning) → Alike (length (plan p).actors) m j →
      (h k : Journal) (s z : State) → Runs (line p) m h s → Runs (line p) j k z → Complete s → Complete z →
      ∥ EqualRecords h k ↔ EqualEvents h k ∥₁
  -- of runs that stop at any moment, with equal events: of two records one is a beginning of the other
  pub events_fix_beginnings : (p : Project) (m j : Meaning) → Alike (length (plan p).actors) m j →
      (h k : Journal) (s z : State) → Runs (line p) m h s → Runs (line p) j k z → EqualEvents h k →
      ∥ ((a : ℕ) → EitherBegins (actor_record h a) (actor_record k a))
      × ((q : ℕ) → EitherBegins (actuator_record h q) (actuator_record k q)) ∥₁
  -- after every call firings rise, stacked deadlines fall, and outputs went at the later of timestamp and posting
  pub always_orderly : (p : Project) (m : Meaning) (h : Journal) (s : State) → Runs (line p) m h s →
      ∥ Orderly (line p) h s ∥₁
  -- a closed runtime never sticks
  pub never_sticks : (p : Project) (m : Meaning) (h : Journal) (s : State) → Runs (line p) m h s → s.taking ≡ false →
      ∥ Moves (line p) m s ∥₁
