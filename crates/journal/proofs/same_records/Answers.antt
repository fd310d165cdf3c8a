use Rattle.std.proofs.Common.{sym, refl, ◌∙◌}
use Rattle.std.proofs.lemmas.Bool.{true≢false}
use Rattle.journal.specs.Told.{firings, outputs}
use Rattle.journal.proofs.Numbers.{decides-all}
use Rattle.journal.proofs.same_records.Goals as goal

pub returns-then-same_for_all : goal.returns-then-same_for_all
returns-then-same_for_all c =
    let actors = c.same_for_all in
    let actuators = c.same_for_all-then-same_for_all in
    let fired = decides-all firings actors.result c.args.first.now c.args.second.now refl
    actors.ensures.below actors.ensures.low in
    let handed = decides-all outputs actuators.result c.args.first.now c.args.second.now refl
    actuators.ensures.below actuators.ensures.low in (
      λ e. record { actors = fired.0 c.if-same_for_all.true; actuators = handed.0 e },
      λ same. handed.1 same.actuators,
    )

pub returns-else-same_for_all : goal.returns-else-same_for_all
returns-else-same_for_all c = (
  λ e. absurd (true≢false (sym e ∙ c.if-same_for_all.false)),
  λ same. c.same_for_all.ensures.below.1 (λ n _. same.actors n),
)
