use Rattle.std.proofs.Common.{Bool, Decides, ◌≡◌, sym, subst}
use Rattle.project.specs.Project.{plan}
use Rattle.project.proofs.Alike.{same-drafts, same-plans}
use Rattle.project.proofs.project.Project.same_line.Goals as goal

pub returns : goal.returns
returns c =
    let p = c.args.self.now in
    let q = c.args.other.now in
    let w = same-plans p q c.eq.result (subst (λ (b : Bool). Decides b (plan p ≡ plan q)) (sym c.eq.ensures) (same-drafts p.draft q.draft)) in
    record { images = w.0; plans = w.1 }
