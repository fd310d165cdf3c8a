use Rattle.std.proofs.Common.{ℤ, ◌∙◌, subst, arith, w32, SFits, rules}
use Rattle.std.proofs.lemmas.Int.{to_z-of_z}
use Rattle.std.proofs.lemmas.List.{take_all}
use Rattle.line.specs.Rules.{Possible}
use Rattle.image.specs.Encoding.{actor_bytes}
use Rattle.image.specs.Fields.{BadActorOf, fields_bytes}
use Rattle.image.specs.Reading.{Judged}
use Rattle.image.specs.Refusals.{byte}
use Rattle.image.proofs.Fields.{actor-fields, nine-at}
use Rattle.image.proofs.Judging.{judged-same}
use Rattle.image.proofs.actors.ActorRow.read.Goals as goal

pub returns : goal.returns
returns c =
    let bs = c.args.bytes.now in
    let z = c.get_i32.result in
    let d = c.get_u32.result in
    let fits : SFits w32 z = search rules in
    let judged = subst (λ (y : ℤ). Judged actor_bytes Possible (BadActorOf (byte bs 0) y d)
    (fields_bytes (byte bs 0) y d) 9 c.actor_of.result)
    (to_z-of_z w32 z fits) c.actor_of.ensures in
    judged-same actor_bytes Possible _ _ _ _ 9 c.actor_of.result
    (actor-fields bs 0 z d fits c.get_i32.ensures.value c.get_u32.ensures.value)
    (nine-at bs 0 _ _ (omega arith) c.get_i32.ensures.back c.get_u32.ensures.back ∙ take_all 9 bs (omega arith)) judged
