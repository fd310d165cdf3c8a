use Rattle.std.proofs.Common.{◌≡◌, length, unwrap_or, ap, ◌∙◌, arith}
use Rattle.std.specs.Bool.{then_some}
use Rattle.std.proofs.lemmas.Bool.{lt-ltb}
use Rattle.project.specs.Lookups.{deadline_at}
use Rattle.project.specs.Project.{line, plan}
use Rattle.runtime.proofs.Bounds.{deadline-short}
use Rattle.runtime.proofs.state.Core.deadline_at.Goals as goal

pub overflow_add-result : goal.overflow_add-result
overflow_add-result c =
    let p = c.args.self.now.project in
    let short = deadline-short (line p) p.sound c.args.actor c.requires.inside in
    let there = lt-ltb c.args.actor (length (plan p).actors) c.requires.inside in
    let value : c.unwrap_or.result ≡ (line c.args.self.now.project).deadline c.args.actor =
    c.unwrap_or.ensures ∙ ap (λ v. unwrap_or v 0) (c.deadline.ensures.value ∙ ap (deadline_at (line p)) c.from.ensures ∙ ap (λ b. then_some b ((line p).deadline c.args.actor)) there) in
    let early = c.requires.in_time in
    omega arith
