use Rattle.std.proofs.Common.{not, rules}
use Rattle.std.proofs.lemmas.Fn.{filter_same}
use Rattle.bounded.proofs.Bounded.drop_where.Goals as goal

pub returns : goal.returns
returns g c =
    filter_same _ (λ x. not (g.S.Select.wanted c.args.s.now x)) _ (λ x b f' k. search rules) _ _ c.retain.ensures.filtered
