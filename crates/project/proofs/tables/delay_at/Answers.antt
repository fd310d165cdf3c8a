use Rattle.std.proofs.Common.{◌≡◌, unwrap_or, ap, ◌∙◌, rules}
use Rattle.std.specs.Option.{option_map}
use Rattle.line.specs.Plan.{nobody}
use Rattle.project.proofs.Nths.{field-got}
use Rattle.project.proofs.tables.delay_at.Goals as goal

pub returns : goal.returns
returns c =
    let told : c.map_or.result ≡ unwrap_or (option_map (λ x. x.delay) c.get.result) 0 = search rules in
    told ∙ ap (λ v. unwrap_or (option_map (λ x. x.delay) v) 0) c.get.ensures ∙ field-got (λ x. x.delay) _ c.args.actor nobody
