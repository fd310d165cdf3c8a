-- A line: a plan with its distances, relative deadlines and waits.
use Rattle.std.specs.Prelude.{ℕ, ◌<◌, length, ℤ, Option}
use Rattle.line.specs.Plan.{Plan}
use Rattle.line.specs.Paths.{Distance, Deadline, Wait}
use Rattle.line.specs.Rules.{Lawful}

pub record Line : Type 0 where
  pub plan : Plan
  pub distance : ℕ → ℕ → Option ℕ
  pub deadline : ℕ → ℕ
  pub wait : ℕ → ℤ

-- the plan keeps the rules, and the times are those that its paths give
pub record Sound (l : Line) : Type 0 where
  pub lawful : Lawful l.plan
  pub distances : (b a : ℕ) → b < length l.plan.actors → a < length l.plan.actors → Distance l.plan b a (l.distance b a)
  pub deadlines : (b : ℕ) → b < length l.plan.actors → Deadline l.plan b (l.deadline b)
  pub waits : (a : ℕ) → a < length l.plan.actors → Wait l.plan a (l.wait a)
