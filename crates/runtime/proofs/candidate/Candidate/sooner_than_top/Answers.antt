use Rattle.std.proofs.Common.{leb, None, sym, ap, ap₂, ◌∙◌}
use Rattle.bounded.specs.Held.{held}
use Rattle.fault.specs.declared.RunCause.TheVariants.{NotSooner}
use Rattle.project.specs.Project.{line}
use Rattle.runs.specs.Calls.{first_met, when}
use Rattle.runtime.specs.Meant.{no_rows, top_first}
use Rattle.runtime.specs.Model.{state_over}
use Rattle.runtime.proofs.Tops.{top-final, top-sooner, top-inside, top-in_time}
use Rattle.runtime.proofs.candidate.Candidate.sooner_than_top.Goals as goal

pub deadline_at-limit-requires : goal.deadline_at-limit-requires
deadline_at-limit-requires c =
    let was = c.args.self.now.core.now in
    let top = top-final (held was.stack) ∙ sym c.last.ensures ∙ c.in-Some.is in
    let s = state_over was no_rows in
    record {
      inside = top-inside (line was.project) s c.in-Some.top top was.secure;
      in_time = top-in_time (line was.project) s c.in-Some.top top was.secure;
    }

pub returns : goal.returns
returns c =
    let was = c.args.self.now.core.now in
    let l = line was.project in
    let top = top-final (held was.stack) ∙ sym c.last.ensures ∙ c.in-Some.is in
    let limit = ap₂ (λ n d. first_met NotSooner (when (leb n d) n) None) c.deadline_at-limit.ensures c.deadline.ensures in
    c.below.ensures ∙ limit ∙ ap (λ v. first_met NotSooner v None) (sym (top-sooner l _ (top_first (held was.stack)) c.in-Some.top top))
