use Rattle.std.proofs.Common.{◌<◌, length, Some, sym, refl, ap, ◌∙◌, subst, ap₂, w32, rules}
use Rattle.std.proofs.lemmas.Int.{to_z-of_z}
use Rattle.std.specs.Result.{result_err}
use Rattle.runs.specs.Lists.{put_all}
use Rattle.runs.specs.State.{event_at, event_time, arrived}
use Rattle.runs.specs.Calls.{arrive_verdict}
use Rattle.runs.specs.declared.records.Answer.TheVariants.{Done}
use Rattle.runs.specs.Safe.{Secure}
use Rattle.bounded.specs.Held as bounded
use Rattle.queue.specs.Held.{held}
use Rattle.project.specs.Project.{line}
use Rattle.runtime.specs.Meant.{no_rows}
use Rattle.runtime.specs.Model.{state_over}
use Rattle.runtime.proofs.Sensors.{same-lateness}
use Rattle.runtime.proofs.States.{arrived-state, secure-arrived, accepted}
use Rattle.runtime.proofs.state.Core.arrive.Goals as goal

pub invariant_of-self : goal.invariant_of-self
invariant_of-self c =
    let was = c.args.self.now in
    let x = c.args.sensor in
    let t = c.args.timestamp in
    let value = to_z-of_z w32 c.args.value c.ranges.value in
    let inside : c.args.sensor < length c.args.self.now.sensors = search rules in
    let sent = c.post.ensures.waiting ∙ ap (λ es. put_all event_time es (held c.args.self.now.events.waiting)) c.at.ensures ∙ ap₂ (λ k v. put_all event_time (event_at k c.args.timestamp (Some v)) (held c.args.self.now.events.waiting)) c.feed-sink.ensures value in
    let free = sym c.takes_in.ensures ∙ ap result_err c.in_ok-takes_in.was in
    let l = line c.args.self.now.project in
    let safe = secure-arrived l was.project.sound (state_over was no_rows) x t c.args.value c.requires free was.secure in
    let same = arrived-state l was.clock was.taking was.sensors (held was.events.waiting) (bounded.held was.stack) (held was.outputs.waiting) no_rows x t c.args.value _ inside sent in
    record { secure = subst (Secure l) (sym same) safe; known = (λ k. same-lateness was.sensors x t inside k ∙ was.known k); inlets = c.post.ensures.aside ∙ was.inlets; actuators = was.actuators }

pub returns : goal.returns
returns c =
    let was = c.args.self.now in
    let x = c.args.sensor in
    let t = c.args.timestamp in
    let value = to_z-of_z w32 c.args.value c.ranges.value in
    let inside : c.args.sensor < length c.args.self.now.sensors = search rules in
    let sent = c.post.ensures.waiting ∙ ap (λ es. put_all event_time es (held c.args.self.now.events.waiting)) c.at.ensures ∙ ap₂ (λ k v. put_all event_time (event_at k c.args.timestamp (Some v)) (held c.args.self.now.events.waiting)) c.feed-sink.ensures value in
    let free = sym c.takes_in.ensures ∙ ap result_err c.in_ok-takes_in.was in
    record {
      outcome = λ m.
          let same = arrived-state (line was.project) was.clock was.taking was.sensors (held was.events.waiting) (bounded.held was.stack) (held was.outputs.waiting) m.rows x t c.args.value _ inside sent in
          let s = state_over was m.rows in
          let ends = accepted (arrive_verdict (line was.project) s x t) Done s (arrived (line was.project) s x t c.args.value) free in
          (c.requires, ends.0, same ∙ ends.1);
      project = refl;
      taking = refl;
    }
