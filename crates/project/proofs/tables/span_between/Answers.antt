use Rattle.std.proofs.Common.{◌+◌, ◌*◌, ap, ◌∙◌}
use Rattle.paths.specs.Spans.{length_of, no_span}
use Rattle.project.proofs.Nths.{slice_get-some, slice_get-none}
use Rattle.project.proofs.tables.span_between.Goals as goal

pub returns-in_err-cell : goal.returns-in_err-cell
returns-in_err-cell c = c.from_residual.ensures ∙ ap length_of (slice_get-none _ (c.args.b * 33 + c.args.a) no_span c.in_err-cell.ensures).1

pub returns : goal.returns
returns c = c.length.ensures ∙ ap length_of (slice_get-some _ (c.args.b * 33 + c.args.a) _ no_span c.in_ok-cell.ensures).1
