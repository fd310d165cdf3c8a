use Rattle.std.proofs.Common.{ℕ, ◌<◌, get_or, pos, ap, subst}
use Rattle.image.specs.Drafts.{plan_of}
use Rattle.line.specs.Plan.{Plan}
use Rattle.project.specs.Waits.{Awaits}
use Rattle.project.proofs.Sounds.{sound}
use Rattle.project.proofs.project.Project.of.Goals as goal

pub invariant_of-result : goal.invariant_of-result
invariant_of-result c =
    let w = c.in_ok-distances.ensures in
    let t = c.in_ok-distances.distances.table in
    let awaited = subst (λ (q : Plan). (a : ℕ) → a < 32 → Awaits q t a (get_or c.waits.result a (pos 0))) (ap (λ d. plan_of d.now) w.0) c.waits.ensures in
    record { sound = ∣ sound c.args.draft.now t c.waits.result w.1 w.2 awaited ∣₁ }
