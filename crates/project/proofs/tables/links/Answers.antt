use Rattle.std.proofs.Common.{false, rules}
use borrow.Author.Tests.{tests}
use Rattle.paths.specs.Spans.{no_span}
use Rattle.project.proofs.tables.links.Goals as goal

pub returns : goal.returns
returns c = λ k h. let told = (c.map.ensures.items.at k no_span false h).2 in search (rules, tests)
