use Rattle.std.proofs.Common.{List, take, replicate, sym, ◌∙◌, subst}
use Rattle.image.specs.Drafts.{plan_of}
use Rattle.std.proofs.lemmas.List.{take_more, take_all}
use Rattle.line.specs.Lists.{In}
use Rattle.line.specs.Rules.{no_channel}
use Rattle.line.specs.declared.parts.Channel.{Channel}
use Rattle.project.specs.Tables.{Laid}
use Rattle.project.proofs.Wired.{in-at}
use Rattle.project.proofs.Edges.{laid_none, laid_more, blank}
use Rattle.project.proofs.records.Records.edges.Goals as goal

pub loop-c-init : goal.loop-c-init
loop-c-init c = laid_none (plan_of c.args.self.now.draft.now) (replicate 1089 c.none-table.result) (blank c.none-table.result 1089 c.none-table.ensures)

pub lay-requires : goal.lay-requires
lay-requires c =
    let p = plan_of c.args.self.now.draft.now in
    let there = in-at c.as_slice-channels.result.now c.loop-c.c-index no_channel c.loop-c-test.true in
    record { proper = c.args.self.now.ranged.channels _ (subst (In _) c.as_slice-channels.ensures there) }

pub loop-c-preserved : goal.loop-c-preserved
loop-c-preserved c =
    let p = plan_of c.args.self.now.draft.now in
    let cs = c.as_slice-channels.result.now in
    subst (λ (xs : List Channel). Laid p xs c.lay.new.table) (sym (take_more cs c.loop-c.c-index no_channel c.loop-c-test.true))
    (laid_more p (take c.loop-c.c-index cs) _ _ _ c.loop-c.invariant c.lay.ensures)

pub returns : goal.returns
returns c =
    let p = plan_of c.args.self.now.draft.now in
    let cs = c.as_slice-channels.result.now in
    subst (λ (xs : List Channel). Laid p xs c.loop-c.table) (take_all c.loop-c.c-index cs c.loop-c-test.false ∙ c.as_slice-channels.ensures)
    c.loop-c.invariant
