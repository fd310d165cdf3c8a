use Rattle.std.proofs.Common.{◌≡◌, ◌++◌, Some, None, sym, ap, ◌∙◌}
use Rattle.std.specs.Result.{result_err}
use Rattle.runs.specs.Calls.{verdict}
use Rattle.runtime.specs.Candidates.{behind_check, early_check, sooner_check}
use Rattle.runtime.proofs.Checks.{first_refuses, handed_on, rest_decides}
use Rattle.runtime.proofs.candidate.Candidate.comes_in_order.Goals as goal

pub returns-in_err-not_behind : goal.returns-in_err-not_behind
returns-in_err-not_behind c =
    let f = c.in_err-not_behind.field-0.0 in
    let early : None ≡ verdict (early_check c.args.self.now) = ap result_err (sym c.in_ok-not_early.was) ∙ c.not_early.ensures in
    let behind : Some c.in_err-not_behind.field-0.0 ≡ verdict (behind_check c.args.self.now) = ap result_err (sym c.in_err-not_behind.was) ∙ c.not_behind.ensures in
    ap result_err (handed_on c.from_residual-in_err-not_behind.result f c.from_residual-in_err-not_behind.ensures.1)
    ∙ first_refuses (behind_check c.args.self.now) (sooner_check c.args.self.now) f behind
    ∙ sym (rest_decides (early_check c.args.self.now) (behind_check c.args.self.now ++ sooner_check c.args.self.now) early)
