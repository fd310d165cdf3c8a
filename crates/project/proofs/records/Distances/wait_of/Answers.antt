use Rattle.std.proofs.Common.{ℤ, Option, sym, ◌∙◌, subst, rules}
use borrow.Author.Tests.{tests}
use Rattle.std.proofs.lemmas.Iterator.{YieldsList-from_slice}
use Rattle.std.proofs.lemmas.Iterator.Consumers.{YieldsList-at, YieldsList-from_filter_map, reduce_from_yields_List}
use Rattle.image.specs.Drafts.{plan_of}
use Rattle.line.specs.declared.parts.Channel.{Channel}
use Rattle.project.specs.Waits.{slack_of, Asks, Greatest}
use Rattle.project.proofs.Slacks.{larger, greatest_kept}
use Rattle.project.proofs.records.Distances.wait_of.Goals as goal

pub returns : goal.returns
returns c =
    let p = plan_of c.args.self.now.draft.now in
    let asks : Channel → Option ℤ = λ k. slack_of p c.args.self.now.table c.args.actor k.source k.sink in
    let e = reduce_from_yields_List larger _ c.max.result c.max.ensures.ran
    (YieldsList-from_filter_map _ asks (YieldsList-at c.filter_map.ensures.source (YieldsList-from_slice p.channels (c.iter.ensures.rest ∙ c.as_slice-channels.ensures))) c.filter_map.ensures.closure
    (λ x r q k. search (rules, tests))) in
    subst (Greatest (Asks p c.args.self.now.table c.args.actor p.channels)) (sym e) (greatest_kept asks p.channels)
