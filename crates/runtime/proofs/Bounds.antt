-- The relative deadlines of a sound line are short: from one actor to the next they fall by no more than a delay, so
-- a long one would have more actors below it than there are.
use Rattle.std.proofs.Common.{◌≡◌, ℕ, zero, suc, ◌+◌, ◌*◌, ◌<◌, ◌≤◌, List, [], ◌∷◌, length, refl, ap, inl, inr, arith}
use mathlib.Core.Logic.{∥∥₁_elim}
use native.Mathlib.Bridge.{le_prop}
use Rattle.std.proofs.lemmas.Bool.{cases_lt}
use Rattle.line.specs.Plan.{delay}
use Rattle.line.specs.Paths.{Exit, out, on}
use Rattle.line.specs.Times.{Line, Sound}
use Rattle.runs.specs.Lists.{Each, Pairs}
use Rattle.runs.proofs.Lists.{each-cons}
use Rattle.runs.proofs.Safety.{few}

module _ (l : Line) (sound : Sound l) where
  short : (b o : ℕ) → b < length l.plan.actors → delay l.plan b o ≤ 1_000_000_000
  short b o h = (sound.lawful.ranged.actors b h).delay

  -- an actor whose deadline lies at v or little above
  at_level : (v : ℕ) {b r : ℕ} → Exit l.plan b r → r ≡ l.deadline b → b < length l.plan.actors → v ≤ l.deadline b →
      (c : ℕ) × (c < length l.plan.actors) × (v ≤ l.deadline c) × (l.deadline c ≤ v + 1_000_000_000)
  at_level v (out {b} o q w) e h k = let s = short b o h in (b, h, k, omega arith)
  at_level v (on {b} {c} {n} o i w x) e h k =
      let inside : c < length l.plan.actors = (sound.lawful.ranged.channels _ w).sink.0 in
      let low = (sound.deadlines c inside).1 n x in
      let here = (sound.deadlines b h).1 _ (on o i w (sound.deadlines c inside).0) in
      let s = short b o h in
      let same : n ≡ l.deadline c = omega arith in
      elim (cases_lt (l.deadline c) v) [
        | inl less ↦ (b, h, k, omega arith)
        | inr more ↦ at_level v x same inside more
      ]

  -- k + 1 actors of different deadlines
  tower : (b : ℕ) → b < length l.plan.actors → (k : ℕ) → k * 1_000_000_001 ≤ l.deadline b →
      (xs : List ℕ) × (length xs ≡ suc k) × Each (λ (c : ℕ). c < length l.plan.actors) xs
      × Each (λ (c : ℕ). l.deadline c < suc k * 1_000_000_001) xs × Pairs (λ (c d : ℕ). c ≡ d → ⊥) xs
  tower b h zero q =
      let w = at_level 0 (sound.deadlines b h).0 refl h (omega arith) in (
        w.0 ∷ [],
        refl,
        each-cons (λ (c : ℕ). c < length l.plan.actors) w.0 [] w.1 (λ c m. absurd m),
        each-cons (λ (c : ℕ). l.deadline c < 1 * 1_000_000_001) w.0 [] (omega (arith, w.3)) (λ c m. absurd m),
        ((λ c m. absurd m), tt),
      )
  tower b h (suc k) q =
      let r = tower b h k (omega arith) in
      let w = at_level (suc k * 1_000_000_001) (sound.deadlines b h).0 refl h q in
      let low = w.2 in
      let high = w.3 in
      let size = r.1 in (
        w.0 ∷ r.0,
        omega arith,
        each-cons (λ (c : ℕ). c < length l.plan.actors) w.0 r.0 w.1 r.2,
        each-cons (λ (c : ℕ). l.deadline c < suc (suc k) * 1_000_000_001) w.0 r.0 (omega arith)
            (λ c m. let u = r.3 c m in omega arith),
        ((λ c m e. let u = r.3 c m in let z = ap l.deadline e in omega arith), r.4),
      )

  pub short-deadline : (b : ℕ) → b < length l.plan.actors → l.deadline b < 33_000_000_000
  short-deadline b h = elim (cases_lt (l.deadline b) (32 * 1_000_000_001)) [
    | inl less ↦ omega arith
    | inr more ↦
        let r = tower b h 32 more in
        let many = few (λ c. c) (length l.plan.actors) r.0 r.4 r.2 in
        let size = r.1 in
        let most = sound.lawful.sized.few_actors in absurd (omega arith)
  ]

pub deadline-short : (l : Line) → ∥ Sound l ∥₁ → (b : ℕ) → b < length l.plan.actors → l.deadline b < 33_000_000_000
deadline-short l sound b h = ∥∥₁_elim sound le_prop (λ k. short-deadline l k b h)
