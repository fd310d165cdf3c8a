use Rattle.std.proofs.Common.{get_or, Some, sym, ap, ap₂, ◌∙◌}
use Rattle.project.specs.Project.{line}
use Rattle.project.proofs.Wired.{in-at}
use Rattle.runs.specs.Calls.{could_reach, event_actor}
use Rattle.runs.specs.Lists.{lower}
use Rattle.runtime.specs.Meant.{no_rows}
use Rattle.runtime.specs.Model.{state_over}
use Rattle.runtime.proofs.Leasts.{least_more, least-same, no_event}
use Rattle.runtime.proofs.States.{event-inside}
use Rattle.runtime.proofs.candidate.Candidate.not_behind.Goals as goal
use Rattle.runtime.proofs.candidate.Candidate.not_behind.Goals.{then-could_reach, else-could_reach}

pub could_reach-requires : goal.could_reach-requires
could_reach-requires c =
    let es = c.waiting-events.result.now in
    let here = in-at es c.loop-event.event-index no_event c.loop-event-test.true in
    let was = c.args.self.now.core.now in
    record {
      source = event-inside (line was.project) (state_over was no_rows) es (get_or es c.loop-event.event-index no_event) c.waiting-events.ensures here was.secure;
      target = c.args.self.now.inside;
    }

pub loop-event-preserved : goal.loop-event-preserved
loop-event-preserved c =
    let es = c.waiting-events.result.now in
    let i = c.loop-event.event-index in
    let reach = could_reach (line c.args.self.now.core.now.project) c.args.self.now.firing.actor c.args.self.now.firing.timestamp in
    let e = get_or es i no_event in
    elim c.if-could_reach.branch [
      | then-could_reach w ↦ w.lowest-is ∙ ap Some (w.lower.ensures ∙ ap₂ lower w.from.ensures c.loop-event.invariant)
          ∙ sym (least_more event_actor reach es i no_event c.loop-event-test.true (sym w.if-could_reach.ensures))
      | else-could_reach w ↦ w.lowest-is ∙ c.loop-event.invariant
          ∙ sym (least-same event_actor reach es i no_event c.loop-event-test.true (sym w.if-could_reach.ensures))
    ]
