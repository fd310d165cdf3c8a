use Rattle.std.proofs.Common.{arith, rules}
use borrow.Author.Tests.{tests}
use Rattle.image.specs.Drafts.{plan_of}
use Rattle.project.proofs.Few.{few}
use Rattle.project.specs.Tables.{SeveredBy}
use Rattle.project.proofs.Delays.{severed-is}
use Rattle.project.proofs.Firstly.{cleared, cleared-same}
use Rattle.project.proofs.records.Records.check_reach.Goals as goal

pub returns : goal.returns
returns c =
    let p = plan_of c.args.self.now.draft.now in
    cleared-same _ _ _ c.refuse.result (severed-is p (few c.args.self.now.draft.now) c.args.self.now.ranged _ c.reach-reach.ensures)
    (cleared (SeveredBy p c.reach-reach.result) _ _ _ _ _ _ c.refuse.ensures
    (λ k m. omega (arith, m.0, c.len.ensures.count)) (λ k y. search (rules, tests)) (λ k y. search (rules, tests)) (λ k e m. search (rules, tests)))
