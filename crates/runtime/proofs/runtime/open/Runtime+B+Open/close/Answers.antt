use Rattle.std.proofs.Common.{refl, ap}
use Rattle.runs.specs.State.{State}
use Rattle.runtime.proofs.States.{no_bank}
use Rattle.runtime.proofs.runtime.open.Runtime+B+Open.close.Goals as goal

pub invariant_of-result : goal.invariant_of-result
invariant_of-result g c = record { taking = ap (λ (s : State). s.taking) (c.close.ensures.state no_bank) }

pub returns : goal.returns
returns g c = record {
  outcome = (c.args.self.taking, refl, c.close.ensures.state (g.B.Bank.means c.args.self.inner.bank));
  project = c.close.ensures.project;
  bank = refl;
}
