use Rattle.std.proofs.Common.{rules}
use Rattle.supplied.specs.declared.state.State.TheVariants.{Other}
use Rattle.supplied.proofs.Starts.{all_start}
use Rattle.supplied.proofs.bank.Supplied.new.Goals as goal

pub returns : goal.returns
returns c =
    let made = c.from_fn.ensures.items in
    all_start c.from_fn.result c.args.actors.now made.long
    (λ k lt. let call = made.at k Other lt in search rules)
    (λ k lt. let call = made.at k Other lt in search rules)
