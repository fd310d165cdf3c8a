-- How long images are.
use Rattle.std.proofs.Common.{◌≤◌, length, arith}
use mathlib.Core.Logic.{∥∥₁_elim}
use native.Mathlib.Bridge.{le_prop}
use Rattle.image.specs.Encoding.{image}
use Rattle.image.proofs.Spelling.{image-length}
use Rattle.line.specs.Plan.{Plan}
use Rattle.line.specs.Rules.{Sized}
use Rattle.project.specs.Project.{plan}
use Rattle.project.specs.declared.project.Project.{Project}

sized-length : (p : Plan) → Sized p → length (image p) ≤ 937
sized-length p s = omega (arith, image-length p, s)

pub longest : (p : Project) → length (image (plan p)) ≤ 937
longest p = ∥∥₁_elim p.sound le_prop (λ s. sized-length (plan p) s.lawful.sized)
