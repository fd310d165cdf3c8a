use Rattle.std.proofs.Common.{sym, subst}
use mathlib.Core.Logic.{∥∥₁_map}
use Rattle.line.specs.Paths.{Distance}
use Rattle.project.specs.Project.{plan}
use Rattle.project.proofs.project.Project.distance.Goals as goal

pub returns-clause-least : goal.returns-clause-least
returns-clause-least c = λ hb ha.
    let b = c.args.from in
    let a = c.args.to in
    ∥∥₁_map c.args.self.now.sound (λ s. subst (Distance (plan c.args.self.now) b a) (sym c.span_between.ensures) (s.distances b a hb ha))
