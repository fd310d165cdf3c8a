use Rattle.std.proofs.Common.{arith, rules}
use borrow.Author.Tests.{tests}
use Rattle.image.specs.Drafts.{plan_of}
use Rattle.project.specs.Tables.{InstantBy}
use Rattle.project.proofs.Firstly.{cleared}
use Rattle.project.proofs.records.Distances.check_loops.Goals as goal

pub returns : goal.returns
returns c =
    cleared (InstantBy (plan_of c.args.self.now.draft.now) c.args.self.now.table) _ _ _ _ _ _ c.refuse.ensures
    (λ k m. omega (arith, m.0, c.len.ensures.count)) (λ k y. search (rules, tests)) (λ k y. search (rules, tests)) (λ k e m. search (rules, tests))
