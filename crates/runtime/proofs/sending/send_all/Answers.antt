use Rattle.std.proofs.Common.{◌<◌, ◌∙◌, arith}
use Rattle.queue.specs.Held.{held}
use Rattle.project.specs.Project.{plan}
use Rattle.runs.specs.State.{event_from, event_time, output_from, output_time}
use Rattle.runtime.proofs.Posts.{send-room, sent-more}
use Rattle.runtime.proofs.sending.send_all.Goals as goal

pub send_from-requires-clause-event_room : goal.send_from-requires-clause-event_room
send_from-requires-clause-event_room c =
    let inside : c.loop-outlet.outlet < 4 = omega arith in
    let events = event_from (plan c.args.project.now) c.args.firing.now in
    let room = send-room event_time events (held c.args.events.now.waiting) 128 _ _ _ inside c.loop-outlet.invariant.events c.requires.event_room in
    omega (arith, room, c.loop-outlet.invariant.events_aside)

pub send_from-requires-clause-output_room : goal.send_from-requires-clause-output_room
send_from-requires-clause-output_room c =
    let inside : c.loop-outlet.outlet < 4 = omega arith in
    let outputs = output_from (plan c.args.project.now) c.args.firing.now in
    let room = send-room output_time outputs (held c.args.outputs.now.waiting) 64 _ _ _ inside c.loop-outlet.invariant.outputs c.requires.output_room in
    omega (arith, room, c.loop-outlet.invariant.outputs_aside)

pub loop-outlet-preserved : goal.loop-outlet-preserved
loop-outlet-preserved c =
    let inside : c.loop-outlet.outlet < 4 = omega arith in
    let events = event_from (plan c.args.project.now) c.args.firing.now in
    let outputs = output_from (plan c.args.project.now) c.args.firing.now in
    record {
      events = sent-more event_time events (held c.args.events.now.waiting) _ _ _ inside c.loop-outlet.invariant.events c.send_from.ensures.events;
      outputs = sent-more output_time outputs (held c.args.outputs.now.waiting) _ _ _ inside c.loop-outlet.invariant.outputs c.send_from.ensures.outputs;
      events_aside = c.send_from.ensures.events_aside ∙ c.loop-outlet.invariant.events_aside;
      outputs_aside = c.send_from.ensures.outputs_aside ∙ c.loop-outlet.invariant.outputs_aside;
    }
