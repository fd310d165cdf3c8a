use Rattle.std.proofs.Common.{unwrap_or, sym, ap, ◌∙◌, subst}
use mathlib.Core.Logic.{∥∥₁_map}
use Rattle.line.specs.Paths.{Deadline}
use Rattle.project.specs.Project.{plan}
use Rattle.project.proofs.project.Project.deadline.Goals as goal

pub returns-clause-least : goal.returns-clause-least
returns-clause-least c = λ h.
    let a = c.args.actor in
    let is = c.unwrap_or.ensures ∙ ap (λ v. unwrap_or v 0) c.span_between.ensures in
    ∥∥₁_map c.args.self.now.sound (λ s. subst (Deadline (plan c.args.self.now) a) (sym is) (s.deadlines a h))
