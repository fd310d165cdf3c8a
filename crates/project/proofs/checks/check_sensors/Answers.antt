use Rattle.std.proofs.Common.{arith, rules}
use borrow.Author.Tests.{tests}
use Rattle.image.specs.Drafts.{plan_of}
use Rattle.line.specs.Rules.{Idle}
use Rattle.project.proofs.Firstly.{cleared, told}
use Rattle.project.proofs.checks.check_sensors.Goals as goal

pub returns : goal.returns
returns c =
    cleared (Idle (plan_of c.args.draft.now)) _ _ _ _ _ _ c.refuse.ensures
    (λ k m. omega (arith, m.0, c.len.ensures.count)) (λ k y. search (rules, tests, told)) (λ k y. search (rules, tests, told)) (λ k e m. search (rules, tests))
