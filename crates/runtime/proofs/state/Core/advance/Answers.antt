use Rattle.std.proofs.Common.{sym, ap, ◌∙◌, arith}
use Rattle.std.specs.Result.{result_err}
use Rattle.runtime.proofs.Checks.{no_place}
use Rattle.runtime.proofs.States.{secure-advanced}
use Rattle.runtime.proofs.state.Core.advance.Goals as goal

pub invariant_of-self : goal.invariant_of-self
invariant_of-self c =
    let was = c.args.self.now in
    let none = no_place _ _ (ap result_err (sym c.in_ok-none_due_before.was) ∙ c.none_due_before.ensures) in record { secure = secure-advanced _ _ c.args.clock (omega arith) (omega arith) none was.secure; known = was.known; inlets = was.inlets; actuators = was.actuators }
