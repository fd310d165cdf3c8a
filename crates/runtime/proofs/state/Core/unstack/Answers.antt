use Rattle.std.proofs.Common.{◌+◌, ◌≤◌, ◌∷◌, length, sym, refl, ap, ◌∙◌, arith, lit<}
use Rattle.bounded.specs.Held as bounded
use Rattle.bounded.specs.Held.{front}
use Rattle.queue.specs.Held.{held}
use Rattle.project.specs.Project.{line, plan}
use Rattle.runs.specs.Lists.{put_all}
use Rattle.runs.specs.State.{event_time, events_sent, output_time, outputs_sent, to_actuator, to_inlet}
use Rattle.runtime.specs.Meant.{no_rows, top_first}
use Rattle.runtime.specs.Model.{state_over}
use Rattle.runtime.proofs.Tops.{top-in_time}
use Rattle.runtime.proofs.Finishes.{aside-top, finish-events-room, finish-outputs-room, popped, secure-unstacked, unstacked-state, written, written_is}
use Rattle.runtime.proofs.state.Core.unstack.Goals as goal

pub free-requires : goal.free-requires
free-requires c =
    let was = c.args.self.now in
    let more = c.leading-events.ensures.value in
    let all = aside-top (bounded.held was.stack) c.args.top c.requires to_inlet (plan was.project) _ refl in
    let few : c.leading-events.result ≤ c.args.self.now.events.aside = omega (arith, was.inlets) in (lit< tt, few)

pub free-requires-2 : goal.free-requires-2
free-requires-2 c =
    let was = c.args.self.now in
    let more = c.leading-outputs.ensures.value in
    let all = aside-top (bounded.held was.stack) c.args.top c.requires to_actuator (plan was.project) _ refl in
    let few : c.leading-outputs.result ≤ c.args.self.now.outputs.aside = omega (arith, was.actuators) in (lit< tt, few)

pub send_all-requires : goal.send_all-requires
send_all-requires c =
    let was = c.args.self.now in
    let l = line was.project in
    let f = c.args.top in
    let events = aside-top (bounded.held was.stack) f c.requires to_inlet (plan was.project) _ refl in
    let outputs = aside-top (bounded.held was.stack) f c.requires to_actuator (plan was.project) _ refl in
    let event_room = finish-events-room l was.clock was.taking was.sensors (held was.events.waiting) (bounded.held was.stack) (held was.outputs.waiting) f c.args.outlets c.shown-outlets.result c.requires c.shown-outlets.ensures was.project.sound was.secure _ _ refl refl in
    let output_room = finish-outputs-room l was.clock was.taking was.sensors (held was.events.waiting) (bounded.held was.stack) (held was.outputs.waiting) f c.args.outlets c.shown-outlets.result c.requires c.shown-outlets.ensures was.project.sound was.secure _ _ refl refl in
    let e : length (held c.free.new.self.waiting) + length (events_sent (plan c.args.self.now.project) (written c.args.top c.shown-outlets.result)) + c.free.new.self.aside ≤ 128 =
    omega (arith, event_room, events, was.inlets, c.leading-events.ensures.value, c.free.ensures.aside, ap length c.free.ensures.waiting) in
    let o : length (held c.free-2.new.self.waiting) + length (outputs_sent (plan c.args.self.now.project) (written c.args.top c.shown-outlets.result)) + c.free-2.new.self.aside ≤ 64 =
    omega (arith, output_room, outputs, was.actuators, c.leading-outputs.ensures.value, c.free-2.ensures.aside, ap length c.free-2.ensures.waiting) in
    record {
      in_time = top-in_time l (state_over was no_rows) f c.requires was.secure;
      event_room = e;
      output_room = o;
    }

pub invariant_of-self : goal.invariant_of-self
invariant_of-self c =
    let was = c.args.self.now in
    let l = line was.project in
    let f = c.args.top in
    let inlets = aside-top (bounded.held was.stack) f c.requires to_inlet (plan was.project) _ c.pop.ensures.after in
    let actuators = aside-top (bounded.held was.stack) f c.requires to_actuator (plan was.project) _ c.pop.ensures.after in
    let sent = c.send_all.ensures.events ∙ ap (put_all event_time (events_sent (plan c.args.self.now.project) (written c.args.top c.shown-outlets.result))) c.free.ensures.waiting in
    let out = c.send_all.ensures.outputs ∙ ap (put_all output_time (outputs_sent (plan c.args.self.now.project) (written c.args.top c.shown-outlets.result))) c.free-2.ensures.waiting in
    record {
      secure = secure-unstacked l was.clock was.taking was.sensors (held was.events.waiting) (bounded.held was.stack) (held was.outputs.waiting) f c.args.outlets c.shown-outlets.result c.requires c.shown-outlets.ensures was.project.sound was.secure _ _ _ c.pop.ensures.after sent out;
      known = was.known;
      inlets = omega (arith, was.inlets, inlets, c.leading-events.ensures.value, c.free.ensures.aside, c.send_all.ensures.events_aside);
      actuators = omega (arith, was.actuators, actuators, c.leading-outputs.ensures.value, c.free-2.ensures.aside, c.send_all.ensures.outputs_aside);
    }

pub returns : goal.returns
returns c =
    let was = c.args.self.now in
    let l = line was.project in
    let f = c.args.top in
    let sent = c.send_all.ensures.events ∙ ap (put_all event_time (events_sent (plan c.args.self.now.project) (written c.args.top c.shown-outlets.result))) c.free.ensures.waiting in
    let out = c.send_all.ensures.outputs ∙ ap (put_all output_time (outputs_sent (plan c.args.self.now.project) (written c.args.top c.shown-outlets.result))) c.free-2.ensures.waiting in
    record {
      firing = written_is l was.clock was.taking was.sensors (held was.events.waiting) (bounded.held was.stack) (held was.outputs.waiting) f c.args.outlets c.shown-outlets.result c.requires c.shown-outlets.ensures;
      top = popped (bounded.held was.stack) f c.requires ∙ ap (λ fs. f ∷ top_first fs) (sym c.pop.ensures.after);
      state = λ w v. unstacked-state l was.clock was.taking was.sensors (held was.events.waiting) (bounded.held was.stack) (held was.outputs.waiting) f c.args.outlets c.shown-outlets.result c.requires c.shown-outlets.ensures _ (bounded.held c.pop.new.self) _ w v sent out;
      project = refl;
      taking = refl;
    }
