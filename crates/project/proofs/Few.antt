-- A draft has few actors by its type.
use Rattle.std.proofs.Common.{◌≤◌, length, arith}
use Rattle.std.proofs.lemmas.List.{length-take-le}
use Rattle.image.specs.Drafts.{plan_of}
use Rattle.image.specs.declared.draft.Draft.{Draft}

pub few : (d : Draft) → length (plan_of d).actors ≤ 32
few d =
    let actors = d.actors in
    omega (arith, length-take-le actors.len actors.items (omega (arith, actors.fits, actors.whole)), actors.fits)
