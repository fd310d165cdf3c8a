use Rattle.std.proofs.Common.{rules}
use borrow.Author.Tests.{tests}
use Rattle.image.specs.Drafts.{plan_of}
use Rattle.line.specs.Rules.{Unfed}
use Rattle.project.proofs.Firstly.{cleared, told}
use Rattle.project.proofs.checks.check_actuators.Goals as goal

pub returns : goal.returns
returns c =
    cleared (Unfed (plan_of c.args.draft.now)) _ _ _ _ _ _ (rw c.from.ensures at c.refuse.ensures)
    (λ k m. m.0) (λ k y. search (rules, tests, told)) (λ k y. search (rules, tests, told)) (λ k e m. search (rules, tests))
