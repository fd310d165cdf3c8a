use Rattle.std.proofs.Common.{rules, ◌≡◌, ◌∙◌, ap, Bool}
use borrow.Author.Tests.{tests}
use Rattle.std.proofs.lemmas.Iterator.{YieldsList-from_slice}
use Rattle.std.proofs.lemmas.Iterator.Search.{find_from_yields_List}
use Rattle.std.specs.Option.{option_map}
use Rattle.line.specs.Plan.{same_source}
use Rattle.line.specs.declared.parts.Channel.{Channel}
use Rattle.project.proofs.Firsts.{first-found}
use Rattle.project.proofs.Wired.{told-source}
use Rattle.project.proofs.wiring.end_of.Goals as goal

pub returns : goal.returns
returns c =
    let test : Channel → Bool = λ k. same_source k.source c.args.x in
    let a = find_from_yields_List test _ _ c.find.result c.find.ensures.ran (YieldsList-from_slice c.args.channels.now cc) (λ x b q k. told-source b x.now.source c.args.x (search (rules, tests))) in
    let b : c.map.result ≡ option_map (λ k. k.sink) (option_map (λ k. k.now) c.find.result) = search rules in
    b ∙ ap (option_map (λ k. k.sink)) a ∙ first-found test (λ k. k.sink) c.args.channels.now
