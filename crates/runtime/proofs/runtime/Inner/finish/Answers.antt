use Rattle.std.proofs.Common.{ap, ◌∙◌}
use Rattle.std.proofs.lemmas.Bool.{true≢false}
use Rattle.banks.specs.Meaning.{Meaning}
use Rattle.project.specs.Project.{line}
use Rattle.runs.specs.State.{reacted}
use Rattle.runtime.specs.Model.{stacked, state, state_over}
use Rattle.runtime.proofs.Finishes.{finish-outcome}
use Rattle.runtime.proofs.runtime.Inner.finish.Goals as goal

pub returns : goal.returns
returns g c =
    let was = c.args.self.now in
    let m : Meaning = g.B.Bank.means c.args.self.now.bank in
    let f = c.in-Some.top in
    let s = state g.B.Bank.means was in
    let now = c.unstack.new.self in
    let rows = ap (λ (m : Meaning). state_over now m.rows) c.fire-outlets.ensures.meaning in
    record {
      does = record {
        outcome = finish-outcome (line was.core.project) m s _ f (stacked now) c.fire-outlets.result c.unstack.result
            c.unstack.ensures.top c.fire-outlets.ensures.outlets c.unstack.ensures.firing
            (rows ∙ c.unstack.ensures.state m.rows (reacted m s f).row);
        project = c.unstack.ensures.project;
        reaction = ap (λ (m : Meaning). m.reaction) c.fire-outlets.ensures.meaning;
        bank = λ no. absurd no;
      };
      taking = c.unstack.ensures.taking;
      refused = λ e. absurd (true≢false e);
    }
