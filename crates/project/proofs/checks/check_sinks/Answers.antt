use Rattle.std.proofs.Common.{arith, rules}
use borrow.Author.Tests.{tests}
use Rattle.image.specs.Drafts.{plan_of}
use Rattle.line.specs.Rules.{Doubled}
use Rattle.project.proofs.Firstly.{cleared}
use Rattle.project.proofs.checks.check_sinks.Goals as goal

pub returns : goal.returns
returns c =
    cleared (Doubled (plan_of c.args.draft.now)) _ _ _ _ _ _ c.refuse.ensures
    (λ k m. omega (arith, m.2, c.len.ensures.count)) (λ k y. search (rules, tests)) (λ k y. search (rules, tests)) (λ k e m. search (rules, tests))
