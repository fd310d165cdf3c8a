use Rattle.std.proofs.Common.{◌+◌, [], ◌∷◌, set, refl, ap, ◌∙◌, arith, w32, SFits, of_z, rules}
use Rattle.std.proofs.lemmas.Int.{to_z-of_z}
use Rattle.image.specs.Bytes.{put, le}
use Rattle.line.specs.Numbers.{kind_number}
use Rattle.image.proofs.Puts.{put_one, put_next}
use Rattle.image.proofs.actors.ActorRow.write.Goals as goal

pub returns : goal.returns
returns c =
    let x = c.args.self in
    let d = c.args.bytes.now in
    let at = c.args.at in
    let fits : SFits w32 x.parameter = search rules in
    let p = le 4 (of_z w32 x.parameter) in
    let k = kind_number x.kind in
    let one = ap (set d at) c.from.ensures ∙ put_one d at k (omega arith) in
    let two = c.put_i32.ensures ∙ ap (λ z. put (set d at c.from.result) (at + 1) (le 4 (of_z w32 z)))
    (to_z-of_z w32 x.parameter fits) in
    put_next d (k ∷ p) (le 4 x.delay) at (at + 5) (omega arith) refl
    (put_next d (k ∷ []) p at (at + 1) (omega arith) refl one two) c.put_u32.ensures
