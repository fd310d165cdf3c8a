-- What holds of images as such.
use Rattle.std.specs.Prelude.{◌≡◌, ◌≤◌, length}
use Rattle.fault.specs.Table.{entry}
use Rattle.fault.specs.declared.Fault.{Fault}
use Rattle.line.specs.Plan.{Plan}
use Rattle.line.specs.Rules.{Sized, Ranged}
use Rattle.image.specs.Encoding.{image, size}
use Rattle.image.specs.Refusals.{Faulty}

pub record Faithful : Type 0 where
  -- the image of a plan in range has no fault of head, counts, length or fields
  pub sound : (p : Plan) → Sized p → Ranged p → (f : Fault) → (entry f).number ≤ 4 → Faulty (image p) f → ⊥
  -- two plans in range with one image are one plan
  pub single : (p q : Plan) → Sized p → Ranged p → Sized q → Ranged q → image p ≡ image q → p ≡ q
  -- an image is as long as its counts ask for
  pub lengths : (p : Plan) → length (image p) ≡ size (length p.sensors) (length p.actors) (length p.channels)
