-- What it is to perform calls and keep their journal.
use Rattle.std.specs.Prelude.{◌≡◌, Bool, true, false, List, map, Some, None, Option}
use Rattle.banks.specs.Meaning.{Meaning}
use Rattle.project.specs.Project.{line}
use Rattle.runs.specs.Runs.{Journal, Runs}
use Rattle.runs.specs.declared.records.Call.{Call}
use Rattle.runs.specs.declared.records.Call.TheVariants.{Close}
use Rattle.runs.specs.declared.records.Answer.{Answer}
use Rattle.runs.specs.declared.records.Answer.TheVariants.{Done}
use Rattle.runs.specs.declared.records.Step.{Step}
use Rattle.runtime.specs.Model.{Performs, state}
use Rattle.runtime.specs.declared.runtime.Inner.{Inner}

-- the calls of a journal
abbrev pub called : Journal → List Call
called h = map (λ x. x.call) h

-- the step of a close
abbrev pub closing : Step
closing = record { call = Close; answer = Done }

-- a call took i to j and was answered, or is lacking and did nothing
abbrev pub Asked : {B : Type 0} → (B → Meaning) → (lacking : Bool) → Inner B → Call → Option Answer → Inner B → Type 0
Asked means lacking i c (Some a) j = (lacking ≡ false) × Performs means i c a j
Asked means lacking i c None j = (lacking ≡ true) × (j ≡ i)

-- a runtime that was i, with the journal h, is now j, with the journal k: where h is a run to i, k is a run to j; project
-- and reaction are the same
pub record Worked {B : Type 0} (means : B → Meaning) (i : Inner B) (h : Journal) (j : Inner B) (k : Journal) : Type 0 where
  pub runs : (m : Meaning) → m.reaction ≡ (means i.bank).reaction → Runs (line i.core.project) m h (state means i) →
      Runs (line i.core.project) m k (state means j)
  pub project : j.core.project ≡ i.core.project
  pub reaction : (means j.bank).reaction ≡ (means i.bank).reaction
