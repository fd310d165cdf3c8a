use Rattle.std.proofs.Common.{◌≡◌, take}
use Rattle.runs.specs.Lists.{keep, least}
use Rattle.runs.specs.State.{at_actor, event_time}
use Rattle.runtime.proofs.events.first_at.Given as goal

abbrev pub invariant-loop-event : goal.invariant-loop-event
invariant-loop-event l = l.first ≡ least event_time (keep (at_actor l.actor) (take l.event-index l.events))
