use Rattle.std.proofs.Common.{◌≡◌, map, vec_items, refl, ap, ◌∙◌, arith}
use Rattle.std.proofs.lemmas.Slice.{pushed}
use Rattle.simulate.specs.Lines.{lines_of}
use Rattle.simulate.proofs.Standing.{line-passed, line-stands, all_lines, all-performed}
use Rattle.simulate.proofs.entries.entries.Goals as goal
use Rattle.simulate.proofs.entries.entries.Goals.{in-Some+in_ok-push, in_default}

pub loop-i-preserved : goal.loop-i-preserved
loop-i-preserved c =
    let ts = c.deref-text-items.result.now in
    let same : map (λ x. x.now) ts ≡ lines_of c.args.script.now =
    ap (map (λ x. x.now)) c.deref-text-items.ensures.value ∙ c.in_ok-lines.ensures in
    elim c.match-read_entry.branch [
      | in-Some+in_ok-push w ↦
          rw (
            w.closed-is,
            w.closes-closed.ensures,
            w.entries-is,
            pushed {was = vec_items c.loop-i.entries} _ refl w.in_ok-push.was w.push.ensures.items,
          )
          (line-stands _ _ _ c.loop-i.i c.loop-i.invariant ts same (omega arith) _ w.in-Some.entry w.in-Some.ensures)
      | in_default w ↦
          rw (w.closed-is, w.entries-is)
          (line-passed _ _ _ c.loop-i.i c.loop-i.invariant ts same (omega arith) _ w.in_default.ensures)
    ]

pub returns : goal.returns
returns c =
    let ts = c.deref-text-items.result.now in
    let same : map (λ x. x.now) ts ≡ lines_of c.args.script.now =
    ap (map (λ x. x.now)) c.deref-text-items.ensures.value ∙ c.in_ok-lines.ensures in
    let stand = all_lines _ _ _ c.loop-i.i c.loop-i.invariant ts same (omega arith) in
    record { stand = stand; exist = all-performed _ _ stand }
