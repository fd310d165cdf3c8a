use Rattle.std.proofs.Common.{◌+◌, ◌≤◌, length, sym, refl, ap, ◌∙◌, subst, arith, lit<}
use Rattle.bounded.specs.Held.{held}
use Rattle.queue.specs.Held as queue
use Rattle.project.specs.Project.{line, plan}
use Rattle.runs.specs.Safe.{Secure}
use Rattle.runs.specs.State.{aside, started, to_actuator, to_inlet}
use Rattle.runtime.specs.Meant.{no_rows}
use Rattle.runtime.specs.Model.{state_over}
use Rattle.runtime.proofs.States.{event_places-fit, pushed, secure-started, stacked_on, started-state}
use Rattle.runtime.proofs.state.Core.stack_firing.Goals as goal

pub set_aside-requires : goal.set_aside-requires
set_aside-requires c =
    let was = c.args.self.now in
    let l = line was.project in
    let s = state_over was no_rows in
    let a = c.args.firing.actor in
    let t = c.args.firing.timestamp in
    let fit = event_places-fit l (started s a t) (secure-started l was.project.sound s a t c.requires.accepted c.requires.first was.secure) in
    let room : length (queue.held c.take-inlets.new.events.waiting) + (c.leading-events.result + c.take-inlets.new.events.aside) ≤ 128 =
    omega (arith, fit, ap length c.take-inlets.ensures.waiting, c.take-inlets.ensures.aside, c.leading-events.ensures.value, was.inlets) in (lit< tt, room)

pub invariant_of-self : goal.invariant_of-self
invariant_of-self c =
    let was = c.args.self.now in
    let a = c.args.firing.actor in
    let t = c.args.firing.timestamp in
    let l = line was.project in
    let s = state_over was no_rows in
    let on = stacked_on l was.project.sound s a (held was.stack) _ _ _ refl c.requires.accepted was.secure c.push.ensures.answer c.push.ensures.after in
    let kept = c.set_aside.ensures.waiting ∙ c.take-inlets.ensures.waiting in
    let same = started-state was.clock was.taking was.sensors (queue.held was.events.waiting) (held was.stack) (queue.held was.outputs.waiting) no_rows a t _ _ _ _ kept on c.set_aside-2.ensures.waiting c.take-inlets.ensures.inlets in
    let top = pushed (held was.stack) _ _ on in
    let inlets = ap (aside to_inlet (plan was.project)) top in
    let actuators = ap (aside to_actuator (plan was.project)) top in
    record {
      secure = subst (Secure l) (sym same) (secure-started l was.project.sound s a t c.requires.accepted c.requires.first was.secure);
      known = was.known;
      inlets = omega (arith, was.inlets, inlets, c.leading-events.ensures.value, c.take-inlets.ensures.aside, c.set_aside.ensures.aside);
      actuators = omega (arith, was.actuators, actuators, c.leading-outputs.ensures.value, c.set_aside-2.ensures.aside);
    }

pub returns : goal.returns
returns c =
    let was = c.args.self.now in
    let a = c.args.firing.actor in
    let t = c.args.firing.timestamp in
    let l = line was.project in
    let on = stacked_on l was.project.sound (state_over was no_rows) a (held was.stack) _ _ _ refl c.requires.accepted was.secure c.push.ensures.answer c.push.ensures.after in
    let kept = c.set_aside.ensures.waiting ∙ c.take-inlets.ensures.waiting in
    record {
      state = λ m. started-state was.clock was.taking was.sensors (queue.held was.events.waiting) (held was.stack) (queue.held was.outputs.waiting) m.rows a t _ _ _ _ kept on c.set_aside-2.ensures.waiting c.take-inlets.ensures.inlets;
      project = refl;
      taking = refl;
    }
