use Rattle.std.proofs.Common.{◌≡◌, take}
use Rattle.project.specs.Project.{line}
use Rattle.runs.specs.Lists.{keep, least}
use Rattle.runs.specs.Calls.{could_reach, event_actor}
use Rattle.runtime.proofs.candidate.Candidate.not_behind.Given as goal

abbrev pub invariant-loop-event : goal.invariant-loop-event
invariant-loop-event l = l.lowest ≡ least event_actor (keep (could_reach (line l.self.core.now.project) l.self.firing.actor l.self.firing.timestamp) (take l.event-index l.events))
