-- The checks of a start on the firing that it would stack.
use Rattle.std.specs.Prelude.{List, drop, take}
use Rattle.project.specs.Project.{line}
use Rattle.runs.specs.Calls.{Check, start_checks}
use Rattle.runs.specs.State.{deadline_at}
use Rattle.runs.specs.declared.records.Answer.{Answer}
use Rattle.runs.specs.declared.records.Answer.TheVariants.{Fired}
use Rattle.runtime.specs.Meant.{no_rows}
use Rattle.runtime.specs.Model.{state_over}
use Rattle.runtime.specs.declared.candidate.Candidate.{Candidate}

-- all checks of the start, in their order
abbrev pub checks : Candidate → List Check
checks c = start_checks (line c.core.now.project) (state_over c.core.now no_rows) c.firing.actor c.firing.timestamp

-- the checks on the firing, behind the two on its actor: that it is one, and that an event waits at it
abbrev pub firing_checks : Candidate → List Check
firing_checks c = drop 2 (checks c)

-- the firing keeps its order among events and firings: the first three of them
abbrev pub order_checks : Candidate → List Check
order_checks c = take 3 (firing_checks c)

-- no sensor can still send the actor an event up to the timestamp
abbrev pub early_check : Candidate → List Check
early_check c = take 1 (drop 2 (checks c))

-- no event waits that could still come to the actor by the timestamp
abbrev pub behind_check : Candidate → List Check
behind_check c = take 1 (drop 3 (checks c))

-- the deadline is below that of the top of the stack
abbrev pub sooner_check : Candidate → List Check
sooner_check c = take 1 (drop 4 (checks c))

-- what the firing sends stays within the horizon, and finds room: the last three
abbrev pub bound_checks : Candidate → List Check
bound_checks c = drop 5 (checks c)

-- what a start of the firing answers where no check refuses it
abbrev pub accepted : Candidate → Answer
accepted c = Fired (record {
  actor = c.firing.actor;
  timestamp = c.firing.timestamp;
  deadline = deadline_at (line c.core.now.project) c.firing.actor c.firing.timestamp;
})
