use Rattle.std.proofs.Common.{not, rules}
use Rattle.std.proofs.lemmas.Fn.{filter_same}
use Rattle.runs.specs.State.{taken}
use Rattle.runtime.proofs.taken.Taken.take.Goals as goal

pub returns-clause-waiting : goal.returns-clause-waiting
returns-clause-waiting c =
    filter_same _ (λ e. not (taken c.args.self.now.actor c.args.self.now.timestamp e)) _ (λ x b f' k. search rules) _ _ c.retain.ensures.waiting
