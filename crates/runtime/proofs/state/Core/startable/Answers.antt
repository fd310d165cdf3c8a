use Rattle.std.proofs.Common.{List, length, sym, ap, ◌∙◌, arith}
use Rattle.std.specs.Result.{result_ok}
use Rattle.project.specs.Project.{line}
use Rattle.runs.specs.Lists.{keep, least}
use Rattle.runs.specs.State.{at_actor, event_time}
use Rattle.runs.specs.declared.records.Event.{Event}
use Rattle.runtime.specs.Meant.{no_rows}
use Rattle.runtime.specs.Model.{state_over}
use Rattle.runtime.proofs.States.{first-in_time}
use Rattle.runtime.proofs.state.Core.startable.Goals as goal

pub invariant_of-startable : goal.invariant_of-startable
invariant_of-startable c =
    let was = c.args.self.now in
    let first = ap (λ (es : List Event). least event_time (keep (at_actor c.args.actor) es)) (sym c.waiting.ensures) ∙ sym c.first_at.ensures
    ∙ c.ok_or.ensures.ok_part ∙ ap result_ok c.in_ok-timestamp.was in
    record {
      inside = omega (arith, ap length c.actors.ensures);
      in_time = first-in_time (line was.project) (state_over was no_rows) c.args.actor c.in_ok-timestamp.timestamp first was.secure;
    }
