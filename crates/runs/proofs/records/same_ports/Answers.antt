use Rattle.std.proofs.Common.{◌≡◌, Decides, sym, subst}
use Rattle.runs.proofs.Equal.{ports_decide}
use Rattle.runs.proofs.records.same_ports.Goals as goal

pub returns : goal.returns
returns c = subst (λ r. Decides r (c.args.a ≡ c.args.b)) (sym c.eq.ensures) (ports_decide c.args.a c.args.b)
