use Rattle.std.proofs.Common.{get_or, pos, sym, subst, w64, SFits, rules}
use mathlib.Core.Logic.{∥∥₁_map}
use Rattle.std.proofs.lemmas.Int.{to_z-of_z}
use Rattle.line.specs.Paths.{Wait}
use Rattle.project.specs.Project.{plan}
use Rattle.project.proofs.project.Project.wait.Goals as goal

pub returns-clause-greatest : goal.returns-clause-greatest
returns-clause-greatest c = λ h.
    let a = c.args.actor in
    let f : SFits w64 (get_or c.args.self.now.waits c.args.actor (pos 0)) = search rules in
    ∥∥₁_map c.args.self.now.sound (λ s. subst (Wait (plan c.args.self.now) a) (sym (to_z-of_z w64 _ f)) (s.waits a h))
