use Rattle.std.proofs.Common.{rules, ◌≡◌, ◌∙◌, ap, Bool}
use borrow.Author.Tests.{tests}
use Rattle.std.proofs.lemmas.Iterator.{YieldsList-from_slice}
use Rattle.std.proofs.lemmas.Iterator.Search.{find_from_yields_List}
use Rattle.std.specs.Option.{option_map}
use Rattle.line.specs.Plan.{same_sink}
use Rattle.line.specs.declared.parts.Channel.{Channel}
use Rattle.project.proofs.Firsts.{first-found}
use Rattle.project.proofs.Wired.{told-sink}
use Rattle.project.proofs.wiring.origin_of.Goals as goal

pub returns : goal.returns
returns c =
    let test : Channel → Bool = λ k. same_sink k.sink c.args.y in
    let a = find_from_yields_List test _ _ c.find.result c.find.ensures.ran (YieldsList-from_slice c.args.channels.now cc) (λ x b q k. told-sink b x.now.sink c.args.y (search (rules, tests))) in
    let b : c.map.result ≡ option_map (λ k. k.source) (option_map (λ k. k.now) c.find.result) = search rules in
    b ∙ ap (option_map (λ k. k.source)) a ∙ first-found test (λ k. k.source) c.args.channels.now
