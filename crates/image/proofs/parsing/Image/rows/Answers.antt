use Rattle.std.proofs.Common.{◌≡◌, ℕ, ◌+◌, ◌*◌, ◌<◌, ◌≤◌, length, drop, sym, refl, ap, ◌∙◌, subst, arith, rules}
use Rattle.std.proofs.lemmas.Bool.{cond-true, lt-ltb}
use Rattle.std.proofs.lemmas.List.{length_push}
use Rattle.std.proofs.lemmas.Result.{err_from_is_err_and}
use Rattle.std.proofs.iter.Serving.{serving}
use Rattle.bounded.specs.Held.{held}
use Rattle.image.specs.Bytes.{between}
use Rattle.image.specs.Reading.{Got, GotAll, Lowest, Placed}
use Rattle.image.proofs.Rows.{before, next-part, all_read, got-more, low-more}
use Rattle.image.proofs.parsing.Image.rows.Goals as goal

pub row-requires-clause-part : goal.row-requires-clause-part
row-requires-clause-part g c =
    let w = g.R.Row.WIDTH in
    let bs = c.args.self.now.bytes.now in
    let i = length c.loop-i.yielded in
    let here : c.in-Some.i ≡ i = grind serving in
    let split = c.in-Some.ensures.steps.0.0.1 in
    let part = next-part c.args.at w i bs _ c.in-Some.part.now _ c.loop-i.invariant.2 split.0 (split.1 ∙ c.loop-i.invariant.1) in
    let place : c.args.at + c.in-Some.i * c.WIDTH-in-loop-i.result ≡ c.args.at + w * i
    = ap (λ m. c.args.at + c.in-Some.i * m) c.WIDTH-in-loop-i.ensures ∙ ap (λ m. c.args.at + m * w) here ∙ omega arith in
    part.0 ∙ ap (λ m. between m w bs) (sym place)

pub overflow_mul-i : goal.overflow_mul-i
overflow_mul-i g c =
    let few : c.in-Some.i < c.args.many = grind serving in
    let room = before g.R.Row.WIDTH c.in-Some.i c.args.many few in
    let w = ap (λ m. c.in-Some.i * m) c.WIDTH-in-loop-i.ensures in
    let h : c.in-Some.i * c.WIDTH-in-loop-i.result ≤ length c.args.self.now.bytes.now = omega (arith, c.requires.room, w) in
    search rules

pub overflow_add-at : goal.overflow_add-at
overflow_add-at g c =
    let few : c.in-Some.i < c.args.many = grind serving in
    let room = before g.R.Row.WIDTH c.in-Some.i c.args.many few in
    let w = ap (λ m. c.in-Some.i * m) c.WIDTH-in-loop-i.ensures in
    let h : c.args.at + c.in-Some.i * c.WIDTH-in-loop-i.result ≤ length c.args.self.now.bytes.now
    = omega (arith, c.requires.room, w) in
    search rules

pub row-requires-clause-room : goal.row-requires-clause-room
row-requires-clause-room g c =
    let few : c.in-Some.i < c.args.many = grind serving in
    let room = before g.R.Row.WIDTH c.in-Some.i c.args.many few in
    omega (arith, c.requires.room, ap (λ m. c.in-Some.i * m) c.WIDTH-in-loop-i.ensures)

pub returns-in_err-row : goal.returns-in_err-row
returns-in_err-row g c =
    let r = g.R.Row in
    let w = r.WIDTH in
    let bs = c.args.self.now.bytes.now in
    let counts = c.args.self.now.counts in
    let at = c.args.at in
    let i = length c.loop-i.yielded in
    let n = c.args.many in
    let p = err_from_is_err_and c.from_residual.result c.from_residual.ensures.1 in
    let bad = c.in_err-row.ensures in
    let j = bad.0 in
    let few : c.in-Some.i < n = grind serving in
    let here : c.in-Some.i ≡ i = grind serving in
    let place : at + c.in-Some.i * c.WIDTH-in-loop-i.result ≡ at + w * i
    = ap (λ m. at + c.in-Some.i * m) c.WIDTH-in-loop-i.ensures ∙ ap (λ m. at + m * w) here ∙ omega arith in
    let low = subst (λ (b : ℕ). Lowest (Placed (r.bad counts) w bs b) j) place bad.3 in
    let more = low-more r.spelt w (r.fine counts) (Placed (r.bad counts) w) bs at i n j _ c.loop-i.invariant.3
    (omega (arith, few, here)) bad.2 low in
    rw (p.1, p.2, bad.1, place) (at + w * i + j, refl, more.0, more.1)

pub loop-i-preserved : goal.loop-i-preserved
loop-i-preserved g c =
    let r = g.R.Row in
    let w = r.WIDTH in
    let bs = c.args.self.now.bytes.now in
    let counts = c.args.self.now.counts in
    let at = c.args.at in
    let i = length c.loop-i.yielded in
    let got = c.loop-i.invariant.3 in
    let step = c.in-Some.ensures.steps.0 in
    let few : c.in-Some.i < c.args.many = grind serving in
    let here : c.in-Some.i ≡ i = grind serving in
    let fits : length (held c.loop-i.rows) < g.row.N = omega (arith, got.many, c.requires.few, few, here) in
    let grown = c.push.ensures.after ∙ cond-true _ _ _ (c.push.ensures.answer ∙ lt-ltb _ _ fits) in
    let place : at + c.in-Some.i * c.WIDTH-in-loop-i.result ≡ at + w * i
    = ap (λ m. at + c.in-Some.i * m) c.WIDTH-in-loop-i.ensures ∙ ap (λ m. at + m * w) here ∙ omega arith in
    let one = subst (λ (b : ℕ). Got r.spelt (r.fine counts) (Placed (r.bad counts) w bs b) (between b w bs) c.in_ok-row.row)
    place c.in_ok-row.ensures in
    let more = got-more r.spelt w (r.fine counts) (Placed (r.bad counts) w) bs at i _ c.in_ok-row.row got one in
    let rest = next-part at w i bs _ c.in-Some.part.now _ c.loop-i.invariant.2 step.0.1.0
    (step.0.1.1 ∙ c.loop-i.invariant.1) in
    let long = length_push c.loop-i.yielded (c.in-Some.i, c.in-Some.part) in (
      omega (arith, c.loop-i.invariant.0, step.1, long),
      step.0.0 ∙ c.loop-i.invariant.1,
      rest.1 ∙ ap (λ n. drop (at + w * n) bs) (sym long),
      subst (λ (n : ℕ). GotAll r.spelt w (r.fine counts) (Placed (r.bad counts) w) bs at n (held c.push.new.self))
          (sym long)
          (subst (GotAll r.spelt w (r.fine counts) (Placed (r.bad counts) w) bs at (i + 1)) (sym grown) more),
    )

pub returns : goal.returns
returns g c =
    let r = g.R.Row in
    let w = r.WIDTH in
    let counts = c.args.self.now.counts in
    let bs = c.args.self.now.bytes.now in
    let i = length c.loop-i.yielded in
    let all = all_read c.args.at w i _ c.args.many bs _ c.loop-i.invariant.0 c.loop-i.invariant.2 c.requires.room
    (λ some. omega (arith, (c.in-None.ensures.steps.0 some).1.0, c.loop-i.invariant.1)) in
    subst (λ (n : ℕ). GotAll r.spelt w (r.fine counts) (Placed (r.bad counts) w) bs c.args.at n (held c.loop-i.rows))
    all c.loop-i.invariant.3
