use Rattle.std.proofs.Common.{rules, ◌≡◌, length, sym, refl, ap, ◌∙◌, subst, arith}
use Rattle.std.specs.Option.{ok_or, option_map}
use Rattle.project.specs.Project.{line, plan}
use Rattle.runs.specs.Calls.{PickAnswers, nothing}
use Rattle.runtime.specs.Answers.{named}
use Rattle.runtime.specs.Keys.{Key, key_of}
use Rattle.runtime.specs.Meant.{no_rows}
use Rattle.runtime.specs.Model.{state_over}
use Rattle.runtime.proofs.Picks.{least_key, LeastKey, least-is, picks}
use Rattle.runtime.proofs.state.Core.pick.Goals as goal

pub returns : goal.returns
returns c =
    let was = c.args.self.now in
    let f = key_of (line was.project) (state_over was no_rows) in
    let n = length (plan was.project).actors in
    let all : c.loop-actor.actor ≡ length (plan c.args.self.now.project).actors = omega (arith, ap length c.actors.ensures) in
    let is = ap (least_key f) (sym all) ∙ sym c.loop-actor.invariant in
    let least = subst (LeastKey f n) is (least-is f n) in
    let number : c.map.result ≡ option_map (λ (x : Key). x.2) c.loop-actor.least = search rules in
    let answer = c.ok_or.ensures.value ∙ ap (λ o. ok_or o nothing) number in
    record {
      outcome = λ m. (
        subst (λ r. PickAnswers (line was.project) (state_over was m.rows) (named r)) (sym answer)
            (picks (line was.project) (state_over was m.rows) c.loop-actor.least least),
        refl,
      );
      project = refl;
      taking = refl;
    }
