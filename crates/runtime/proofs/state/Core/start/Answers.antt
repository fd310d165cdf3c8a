use Rattle.std.proofs.Common.{◌≡◌, sym, refl, ap, ◌∙◌, subst}
use Rattle.project.specs.Project.{line}
use Rattle.runs.specs.Calls.{start_answer, start_verdict, time_at, Startable}
use Rattle.runs.specs.State.{deadline_at, started}
use Rattle.runs.specs.declared.records.Answer.TheVariants.{Fired, Refused}
use Rattle.runs.specs.declared.records.Started.{Started}
use Rattle.runtime.specs.Answers.{fired}
use Rattle.runtime.specs.Meant.{no_rows}
use Rattle.runtime.specs.Model.{state_over}
use Rattle.runtime.proofs.Checks.{acceptance, handed_on, refusal}
use Rattle.runtime.proofs.States.{accepted, refused}
use Rattle.runtime.proofs.state.Core.start.Goals as goal

pub returns-in_err-started : goal.returns-in_err-started
returns-in_err-started c =
    let was = c.args.self.now in
    let l = line was.project in
    let f = c.in_err-started.field-0.0 in
    let e : Refused c.in_err-started.field-0.0 ≡ start_answer (line c.args.self.now.project) (state_over c.args.self.now no_rows) c.args.actor =
    ap fired (sym c.in_err-started.was) ∙ c.startable.ensures in
    let v = refusal _ (start_verdict l (state_over was no_rows) c.args.actor) f e in
    record {
      outcome = λ m.
          let ends = refused (start_verdict l (state_over was m.rows) c.args.actor) f (Fired (record { actor = c.args.actor; timestamp = time_at (state_over was m.rows) c.args.actor; deadline = deadline_at l c.args.actor (time_at (state_over was m.rows) c.args.actor) })) (state_over was m.rows) (started (state_over was m.rows) c.args.actor (time_at (state_over was m.rows) c.args.actor)) v in
          (ap fired (handed_on c.from_residual.result f c.from_residual.ensures.1) ∙ ends.0, ends.1);
      project = refl;
      taking = refl;
    }

pub stack_firing-requires : goal.stack_firing-requires
stack_firing-requires c =
    let was = c.args.self.now in
    let l = line was.project in
    let s = state_over was no_rows in
    let e : Fired c.in_ok-started.started ≡ start_answer (line c.args.self.now.project) (state_over c.args.self.now no_rows) c.args.actor =
    ap fired (sym c.in_ok-started.was) ∙ c.startable.ensures in
    let w = acceptance _ _ (start_verdict l s c.args.actor) e in
    let actor = ap (λ (x : Started). x.actor) w.1 in
    record {
      accepted = subst (Startable l s) (sym actor) w.0;
      first = ap (λ (x : Started). x.timestamp) w.1 ∙ ap (time_at s) (sym actor);
    }

pub returns : goal.returns
returns c =
    let was = c.args.self.now in
    let l = line was.project in
    let e : Fired c.in_ok-started.started ≡ start_answer (line c.args.self.now.project) (state_over c.args.self.now no_rows) c.args.actor =
    ap fired (sym c.in_ok-started.was) ∙ c.startable.ensures in
    let w = acceptance _ _ (start_verdict l (state_over was no_rows) c.args.actor) e in
    record {
      outcome = λ m.
          let s = state_over was m.rows in
          let ends = accepted (start_verdict l s c.args.actor) (Fired (record { actor = c.args.actor; timestamp = time_at s c.args.actor; deadline = deadline_at l c.args.actor (time_at s c.args.actor) })) s (started s c.args.actor (time_at s c.args.actor)) w.0 in
          (e, c.stack_firing.ensures.state m ∙ ap (λ (x : Started). started s x.actor x.timestamp) w.1 ∙ ends.1);
      project = c.stack_firing.ensures.project;
      taking = c.stack_firing.ensures.taking;
    }
