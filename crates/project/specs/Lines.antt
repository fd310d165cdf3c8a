-- The line that a draft with its tables means.
use Rattle.std.specs.Prelude.{List, ℤ, pos, slice_index_or}
use Rattle.std.specs.Option.{unwrap_or}
use Rattle.image.specs.Drafts.{plan_of}
use Rattle.image.specs.declared.draft.Draft.{Draft}
use Rattle.line.specs.Times.{Line}
use Rattle.paths.specs.Least.{length_at}
use Rattle.paths.specs.declared.span.Span.{Span}
use Rattle.project.specs.Tables.{places, exit}

abbrev pub line_of : Draft → List Span → List ℤ → Line
line_of d f w = record {
  plan = plan_of d;
  distance = λ b a. length_at places f b a;
  deadline = λ b. unwrap_or (length_at places f b exit) 0;
  wait = λ a. slice_index_or w a (pos 0);
}
