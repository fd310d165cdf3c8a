-- Comparing two runs of projects: the type of a project says that it is sound.
use Rattle.std.proofs.Common.{◌≡◌, Bool, Decides}
use mathlib.Core.Bool.{Bool-set}
use mathlib.Core.Logic.{∥∥₁_elim}
use Rattle.project.specs.Project.{line}
use Rattle.runs.specs.Laws.{EqualEvents, EqualRecords}
use Rattle.runs.specs.Runs.{Journal}
use Rattle.journal.specs.Same.{Run, CompleteRuns}
use Rattle.simulation.specs.Compared.{Compares}

pub compares : (h k : Journal) (a b : Bool) → (Run h → Run k → Decides a (EqualEvents h k)) → Decides b (EqualRecords h k) →
    (CompleteRuns h k → a ≡ b) → Compares h k a b
compares h k a b events records law = record {
  events = λ p q m j s z r t. events (record { line = line p; bank = m; state = s; sound = p.sound; runs = r })
      (record { line = line q; bank = j; state = z; sound = q.sound; runs = t });
  records = records;
  one_answer = λ p m j s z alike r t c d. ∥∥₁_elim p.sound (Bool-set a b) (λ sound. law (record {
    line = line p;
    first_bank = m;
    second_bank = j;
    first_state = s;
    second_state = z;
    sound = sound;
    alike = alike;
    first_runs = r;
    second_runs = t;
    first_complete = c;
    second_complete = d;
  }));
}
