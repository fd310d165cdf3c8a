use Rattle.std.proofs.Common.{pos, arith, rules}
use borrow.Author.Tests.{tests}
use Rattle.image.specs.Drafts.{plan_of}
use Rattle.project.specs.Waits.{Awaits}
use Rattle.project.proofs.Nths.{at-each}
use Rattle.project.proofs.records.Distances.waits.Goals as goal

pub returns : goal.returns
returns c = λ a h. at-each _ _ c.from_fn.result (Awaits (plan_of c.args.self.now.draft.now) c.args.self.now.table) 32 0 a (pos 0) (λ j y q l k. search (rules, tests)) c.from_fn.ensures.items.each (omega arith) (omega (arith, h))
