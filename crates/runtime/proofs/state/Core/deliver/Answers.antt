use Rattle.std.proofs.Common.{sym, refl, ap, ◌∙◌}
use Rattle.std.specs.Result.{result_ok}
use Rattle.runs.proofs.Secure.{secure-deliver}
use Rattle.runtime.specs.Model.{state_over}
use Rattle.runtime.specs.Answers.{handing}
use Rattle.runtime.specs.Meant.{no_rows}
use Rattle.runtime.proofs.Waiting.{outputs-first, none_due, delivers}
use Rattle.runtime.proofs.state.Core.deliver.Goals as goal

pub returns-then-self-first : goal.returns-then-self-first
returns-then-self-first c =
    let rise = outputs-first _ _ c.args.self.now.secure in
    let first = sym c.first.ensures ∙ c.ok_or.ensures.ok_part ∙ ap result_ok c.in_ok-first.was in
    record {
      outcome = λ m. (refl, none_due _ c.in_ok-first.first _ rise first c.if-self-first.true, refl);
      project = refl;
      taking = refl;
    }

pub invariant_of-self : goal.invariant_of-self
invariant_of-self c =
    let was = c.args.self.now in
    let rise = outputs-first _ _ was.secure in
    let first = sym c.first.ensures ∙ c.ok_or.ensures.ok_part ∙ ap result_ok c.in_ok-first.was in
    let out = delivers (state_over c.args.self.now no_rows) c.in_ok-first.first (handing was.clock c.in_ok-first.first) refl rise first
    c.if-self-first.false in
    record { secure = rw c.take_first.ensures.after (secure-deliver _ _ _ _ out was.secure); known = was.known; inlets = was.inlets; actuators = c.take_first.ensures.aside ∙ was.actuators }

pub returns : goal.returns
returns c =
    let was = c.args.self.now in
    let rise = outputs-first _ _ was.secure in
    let first = sym c.first.ensures ∙ c.ok_or.ensures.ok_part ∙ ap result_ok c.in_ok-first.was in
    record {
      outcome = λ m. (_, delivers (state_over c.args.self.now m.rows) c.in_ok-first.first c.hand_out.result c.hand_out.ensures rise first c.if-self-first.false, rw c.take_first.ensures.after refl);
      project = refl;
      taking = refl;
    }
