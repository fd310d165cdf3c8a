use Rattle.std.proofs.Common.{rules, ◌≡◌, ◌∙◌, ◌&&◌, eqb, ap, Bool}
use Rattle.std.proofs.lemmas.Iterator.{YieldsList-from_slice}
use Rattle.std.proofs.lemmas.Iterator.Search.{find_from_yields_List}
use Rattle.std.specs.Option.{option_map}
use Rattle.runs.specs.State.{taken}
use Rattle.runs.specs.declared.records.Event.{Event}
use Rattle.runtime.proofs.Leasts.{value_first}
use Rattle.runtime.proofs.taken.Taken.value_for.Goals as goal

pub returns : goal.returns
returns c =
    let p : Event → Bool = taken c.args.self.now.actor c.args.self.now.timestamp in
    let test : Event → Bool = λ e. p e && eqb e.inlet c.args.inlet in
    let a = find_from_yields_List test _ _ c.find.result c.find.ensures.ran (YieldsList-from_slice c.args.events.now cc) (λ x b q k. search rules) in
    let b : c.map.result ≡ option_map (λ e. e.value) (option_map (λ e. e.now) c.find.result) = search rules in
    b ∙ ap (option_map (λ e. e.value)) a ∙ value_first p c.args.inlet c.args.events.now
