-- Complete runs of one line: the events decide the records.
use Rattle.std.proofs.Common.{Bool, Decides}
use Rattle.runs.specs.Runs.{Journal}
use Rattle.runs.specs.Laws.{EqualEvents, EqualRecords}
use Rattle.runs.proofs.Laws.{events_fix_records}
use Rattle.journal.specs.Same.{Run, CompleteRuns}

module _ (h k : Journal) (c : CompleteRuns h k) where
  first : Run h
  first = record
      { line = c.line; bank = c.first_bank; state = c.first_state; sound = ∣ c.sound ∣₁; runs = c.first_runs }

  second : Run k
  second = record
      { line = c.line; bank = c.second_bank; state = c.second_state; sound = ∣ c.sound ∣₁; runs = c.second_runs }

  pub decides-records : (r : Bool) → (Run h → Run k → Decides r (EqualEvents h k)) → Decides r (EqualRecords h k)
  decides-records r runs =
      let d = runs first second in
      let law = events_fix_records c.line c.sound c.first_bank c.second_bank c.alike h k
      c.first_state c.second_state c.first_runs c.second_runs c.first_complete c.second_complete in
      (λ e. law.1 (d.0 e), λ same. d.1 (law.0 same))
