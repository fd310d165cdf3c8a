use Rattle.std.proofs.Common.{◌≡◌, Decides, rules}
use Rattle.runs.proofs.Equal.{running_from_exact}
use Rattle.runs.proofs.records.RunningPartialEq.eq.Goals as goal

pub returns-then-self-other-2-clause-same : goal.returns-then-self-other-2-clause-same
returns-then-self-other-2-clause-same c =
    let exact : Decides c.same_ports.result (c.args.self.now ≡ c.args.other.now) = search rules in
    running_from_exact _ _ _ exact
