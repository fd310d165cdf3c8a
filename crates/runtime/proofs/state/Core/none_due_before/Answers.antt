use Rattle.std.proofs.Common.{None, sym, ap, ◌∙◌}
use Rattle.fault.specs.declared.RunCause.TheVariants.{Due}
use Rattle.runs.specs.Calls.{first_met}
use Rattle.runtime.proofs.Waiting.{outputs-first, due-first, due-later}
use Rattle.runtime.proofs.state.Core.none_due_before.Goals as goal

pub returns-in-Some : goal.returns-in-Some
returns-in-Some c =
    ap (λ v. first_met Due v None) (sym (due-first c.args.clock c.in-Some.first _ (outputs-first _ _ c.args.self.now.secure)
    (sym c.first.ensures ∙ c.in-Some.is) c.if-first-clock.true))

pub returns-in_default : goal.returns-in_default
returns-in_default c =
    ap (λ v. first_met Due v None) (sym (due-later c.args.clock c.in-Some.first _ (outputs-first _ _ c.args.self.now.secure)
    (sym c.first.ensures ∙ c.in-Some.is) c.if-first-clock.false))
