-- The laws over runs, of every project: its type says that it is sound.
use mathlib.Core.Logic.{∥∥₁_map}
use Rattle.runs.proofs.Laws.{events_fix_records, events_fix_beginnings, always_orderly, never_sticks}
use Rattle.project.specs.Project.{line}
use Rattle.simulation.specs.Laws.{LawsOverRuns}

pub laws_over_runs : LawsOverRuns
laws_over_runs = record {
  events_fix_records = λ p m j e h k s z r q c d. ∥∥₁_map p.sound (λ l. events_fix_records (line p) l m j e h k s z r q c d);
  events_fix_beginnings = λ p m j e h k s z r q c. ∥∥₁_map p.sound (λ l. events_fix_beginnings (line p) l m j e h k s z r q c);
  always_orderly = λ p m h s r. ∥∥₁_map p.sound (λ l. always_orderly (line p) l m h s r);
  never_sticks = λ p m h s r c. ∥∥₁_map p.sound (λ l. never_sticks (line p) l m h s r c);
}
