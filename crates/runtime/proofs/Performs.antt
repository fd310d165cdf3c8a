-- Calls that leave the bank alone: of a core, of a runtime, and as a call in general.
use Rattle.std.proofs.Common.{refl, ap}
use Rattle.banks.specs.Meaning.{Meaning}
use Rattle.runs.specs.declared.records.Call.{Call}
use Rattle.runs.specs.declared.records.Answer.{Answer}
use Rattle.runtime.specs.Model.{Does, Moves, Performs}
use Rattle.runtime.specs.declared.runtime.Inner.{Inner}
use Rattle.runtime.specs.declared.state.Core.{Core}

-- what a call does to the core, it does to the runtime over any bank
pub does : {B : Type 0} {means : B → Meaning} {i : Inner B} {j : Core} {c : Call} {r : Answer} →
    Moves i.core c r j → Does means i c r (record { core = j; bank = i.bank })
does {means = means} {i = i} m = record { outcome = m.outcome (means i.bank); project = m.project; bank = refl }

pub performs : {B : Type 0} {means : B → Meaning} {i : Inner B} {c : Call} {r : Answer} {j : Inner B} →
    Does means i c r j → Performs means i c r j
performs {means = means} d = record {
  outcome = d.outcome;
  project = d.project;
  reaction = ap (λ b. (means b).reaction) d.bank;
  bank = λ _. d.bank;
}
