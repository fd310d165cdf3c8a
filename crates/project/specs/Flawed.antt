-- The first flaw of a plan, and what one check of it answers.
use Rattle.std.specs.Prelude.{◌≡◌, ℕ, ◌<◌, Result, MatchResult}
use Rattle.fault.specs.declared.Fault.{Fault}
use Rattle.line.specs.Plan.{Plan}
use Rattle.image.specs.Refusals.{Earlier, Flaw}

-- f is the first flaw of the plan
pub record FirstFlaw (p : Plan) (f : Fault) : Type 0 where
  pub holds : Flaw p f
  pub none_before : (g : Fault) → Earlier g f → Flaw p g → ⊥

-- r refuses with the lowest number of which P holds, as f has it, and passes where P holds of none
abbrev pub Cleared : (ℕ → Type 0) → (ℕ → Fault) → Result (Unit {0}) Fault → Type 0
Cleared P f r = MatchResult r (λ _. (k : ℕ) → P k → ⊥) (λ e. (k : ℕ) × (e ≡ f k) × P k × ((j : ℕ) → j < k → P j → ⊥))
