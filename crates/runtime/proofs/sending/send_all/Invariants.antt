use Rattle.std.proofs.Common.{◌≡◌}
use Rattle.queue.specs.Held.{held}
use Rattle.project.specs.Project.{plan}
use Rattle.runs.specs.State.{event_from, event_time, output_from, output_time}
use Rattle.runtime.proofs.Posts.{SentSoFar}
use Rattle.runtime.proofs.sending.send_all.Given as goal

abbrev pub invariant-loop-outlet : goal.invariant-loop-outlet
invariant-loop-outlet l = record {
  events : SentSoFar event_time (event_from (plan l.project) l.firing) (held l.initial.events.waiting) l.outlet (held l.events.waiting);
  outputs : SentSoFar output_time (output_from (plan l.project) l.firing) (held l.initial.outputs.waiting) l.outlet (held l.outputs.waiting);
  events_aside : l.events.aside ≡ l.initial.events.aside;
  outputs_aside : l.outputs.aside ≡ l.initial.outputs.aside;
}
