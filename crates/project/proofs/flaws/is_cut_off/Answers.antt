use Rattle.std.proofs.Common.{◌∙◌, rules, arith}
use borrow.Author.Tests.{tests}
use Rattle.std.proofs.lemmas.Iterator.{YieldsList-from_slice, cases_from_any}
use Rattle.image.specs.Drafts.{plan_of}
use Rattle.project.specs.Tables.{Serves}
use Rattle.project.proofs.Found.{severed-by}
use Rattle.project.proofs.flaws.is_cut_off.Goals as goal

pub returns-else-not-leads : goal.returns-else-not-leads
returns-else-not-leads c =
    let r = c.args.reach.now in
    let a = c.args.actor in
    let p = plan_of c.args.draft.now in
    severed-by p r a c.any.result (omega arith) (search rules)
    (cases_from_any _ _ c.any.result (λ k. Serves r a k.source k.sink) (λ k. Serves r a k.source k.sink → ⊥) c.any.ensures.ran
    (YieldsList-from_slice p.channels (c.iter.ensures.rest ∙ c.as_slice-channels.ensures)) (λ x q k. search (rules, tests)) (λ x q k. search (rules, tests)))
