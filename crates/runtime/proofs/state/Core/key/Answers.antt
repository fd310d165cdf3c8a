use Rattle.std.proofs.Common.{◌≡◌, None, sym, ap, ◌∙◌}
use Rattle.project.specs.Project.{line}
use Rattle.runtime.specs.Keys.{key_of}
use Rattle.runtime.specs.Meant.{no_rows}
use Rattle.runtime.specs.Model.{state_over}
use Rattle.runtime.proofs.Picks.{keyless}
use Rattle.runtime.proofs.state.Core.key.Goals as goal

pub returns-in_err-start : goal.returns-in_err-start
returns-in_err-start c =
    let key = key_of (line c.args.self.now.project) (state_over c.args.self.now no_rows) in
    let none : key_of (line c.args.self.now.project) (state_over c.args.self.now no_rows) c.from.result ≡ None =
    keyless c.startable.result _ _ _ c.startable.ensures (sym c.ok.ensures.value ∙ c.in_err-start.was) in
    c.from_residual.ensures ∙ sym none ∙ ap key c.from.ensures
