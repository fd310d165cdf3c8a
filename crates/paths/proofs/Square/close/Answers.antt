use Rattle.std.proofs.Common.{◌+◌, ◌*◌, refl, ◌∙◌, mul-le-mul_right, add-one, arith}
use Rattle.paths.proofs.Turns as turns
use Rattle.paths.proofs.Square.close.Goals as goal

pub loop-k-init : goal.loop-k-init
loop-k-init g c = (refl, refl, turns.none-closed g.met.W.Weight.laws _ _ c.args.self.now.square)

pub loop-j-preserved : goal.loop-j-preserved
loop-j-preserved g c = (
  c.relax.ensures.same_cells ∙ c.loop-j.invariant.0,
  c.relax.ensures.same_places ∙ c.loop-j.invariant.1,
  λ e t o. rw (c.relax.ensures.offered, c.loop-j.invariant.1)
      (turns.one-offered g.met.W.Weight.laws _ e _ _ _
      c.loop-k-test.true c.loop-i-test.true c.loop-j-test.true t _ (c.loop-j.invariant.2 e t o)),
)

pub loop-i-preserved : goal.loop-i-preserved
loop-i-preserved g c =
    let laws = g.met.W.Weight.laws in
    let n = c.args.self.now.places in (
      c.loop-j.invariant.0 ∙ c.loop-i.invariant.0,
      c.loop-j.invariant.1,
      λ e b.
          let done = c.loop-j.invariant.2 e c.loop-k.self.cells.now (c.loop-i.invariant.2 e b) in
          turns.fewer-offered laws n e c.loop-k.k (c.loop-i.i * n + c.loop-j.j) _ _ _ (omega arith) done,
    )

pub loop-k-preserved : goal.loop-k-preserved
loop-k-preserved g c =
    let laws = g.met.W.Weight.laws in
    let n = c.args.self.now.places in
    let closed = c.loop-k.invariant.2 in
    let rows = mul-le-mul_right {m = n} {n = c.loop-i.i} n c.loop-i-test.false in
    let all = turns.fewer-offered laws n _ c.loop-k.k (c.loop-i.i * n) (n * n) _ _ rows (c.loop-i.invariant.2 _ closed.built) in (
      c.loop-i.invariant.0 ∙ c.loop-k.invariant.0,
      c.loop-i.invariant.1,
      rw add-one (turns.one-closed laws _ _ _ c.loop-k-test.true _ _ closed all),
    )
