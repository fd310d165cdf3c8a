use Rattle.std.proofs.Common.{◌≡◌, Decides, rules}
use Rattle.runs.proofs.Equal.{firing_from_exact}
use Rattle.runs.proofs.records.FiringPartialEq.eq.Goals as goal

pub returns-then-same_ports-clause-same : goal.returns-then-same_ports-clause-same
returns-then-same_ports-clause-same c =
    let exact : Decides c.same_ports-then-same_ports.result (c.args.self.now ≡ c.args.other.now) = search rules in
    firing_from_exact _ _ _ exact

pub returns-else-same_ports-clause-same : goal.returns-else-same_ports-clause-same
returns-else-same_ports-clause-same c =
    let exact : Decides c.if-self-other-2.value (c.args.self.now ≡ c.args.other.now) = search rules in
    firing_from_exact _ _ _ exact
