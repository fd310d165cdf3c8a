use Rattle.std.proofs.Common.{◌≡◌, Some, sym, ap, ◌∙◌}
use Rattle.std.specs.Result.{result_err}
use Rattle.runs.specs.Calls.{verdict}
use Rattle.runtime.specs.Answers.{fired}
use Rattle.runtime.specs.Candidates.{bound_checks, order_checks}
use Rattle.runtime.proofs.Checks.{first_refuses, handed_on, refuses}
use Rattle.runtime.proofs.candidate.Candidate.startable.Goals as goal

pub returns-in_err-comes_in_order : goal.returns-in_err-comes_in_order
returns-in_err-comes_in_order c =
    let f = c.in_err-comes_in_order.field-0.0 in
    let e : Some c.in_err-comes_in_order.field-0.0 ≡ verdict (order_checks c.args.self.now) =
    ap result_err (sym c.in_err-comes_in_order.was) ∙ c.comes_in_order.ensures in
    let r = first_refuses (order_checks c.args.self.now) (bound_checks c.args.self.now) f e in
    ap fired (handed_on c.from_residual.result f c.from_residual.ensures.1) ∙ refuses _ f _ r
