-- The order of a run's starts, of its log and of its arrivals.
use Rattle.std.proofs.Common.{◌≡◌, ℕ, ◌<◌, ◌≤◌, List, length, Some, None, Option, sym, refl, subst, inl, inr, arith}
use Rattle.std.proofs.lemmas.Bool.{eq-eqb, ne_eqb, cases_eq}
use Rattle.line.specs.Lists.{In}
use Rattle.line.specs.Times.{Line, Sound}
use Rattle.runs.specs.Lists.{Each, Pairs, changed}
use Rattle.banks.specs.Meaning.{Meaning}
use Rattle.runs.specs.State.{State, running, firing}
use Rattle.runs.specs.Runs.{Arrival}
use Rattle.runs.specs.Safe.{Above, Causal}
use Rattle.runs.specs.declared.records.Running.{Running}
use Rattle.runs.specs.declared.records.Firing.{Firing}
use Rattle.runs.proofs.Lists.{each-cons, Falls}
use Rattle.runs.proofs.Accepted.{Starts}
use Rattle.runs.proofs.Safe.{stack-apart}
use Rattle.runs.proofs.Run.{Run, opened, arrive, advance, start, finish, deliver, close, came, begun, latest, log}
use Rattle.runs.proofs.Run.{causal}

-- t is at most the latest
abbrev pub Within : Option ℕ → ℕ → Type 0
Within None t = ⊥
Within (Some u) t = t ≤ u

pub later : (m : Option ℕ) (t u : ℕ) → Above m t → Within m u → u < t
later None t u h k = absurd k
later (Some x) t u h k = omega arith

within-changed : (f : ℕ → Option ℕ) (x y t u : ℕ) → Above (f x) t → Within (f y) u → Within (changed f x (Some t) y) u
within-changed f x y t u h k = elim (cases_eq y x) [
  | inl p ↦ rw (eq-eqb y x p) (let q = later (f x) t u h (rw p at k) in omega arith)
  | inr p ↦ rw (ne_eqb y x p) k
]

abbrev pub start_of : Firing → Running
start_of g = record { actor = g.actor; timestamp = g.timestamp; inlets = g.inlets }

module _ (l : Line) (sound : Sound l) where
  -- a start lies above all that was started at its actor
  start-above : (T : ℕ → Option ℕ) (s : State) (a t : ℕ) → Starts l s a t → Causal l T s → Above (T a) t
  start-above T s a t h i = let e = h.event in
      subst (Above (T a)) (omega (arith, e.3)) (i.ahead a e.0 e.1 0 (inl (e.2, refl)))

  pub within : {m : Meaning} {s : State} (r : Run l m s) →
      Each (λ (f : Running). Within (latest r f.actor) f.timestamp) (begun r)
  within opened = λ f n. absurd n
  within (arrive x t v live h r) = within r
  within (advance c h r) = within r
  within (start {s} a t h r) = each-cons
      (λ (f : Running). Within (changed (latest r) a (Some t) f.actor) f.timestamp) (running s a t) (begun r)
      (rw (eq-eqb a a refl) (omega arith))
      (λ f n. within-changed (latest r) a f.actor t f.timestamp
      (start-above (latest r) s a t h (causal l sound r)) (within r f n))
  within (finish f fs e r) = within r
  within (deliver d os h r) = within r
  within (close r) = within r

  -- an actor's starts rise
  pub begun-fall : {m : Meaning} {s : State} (r : Run l m s) → Falls (λ (f : Running). f.actor)
      (λ (f : Running). f.timestamp) (begun r)
  begun-fall opened = tt
  begun-fall (arrive x t v live h r) = begun-fall r
  begun-fall (advance c h r) = begun-fall r
  begun-fall (start {s} a t h r) = (
    (λ g n p. later (latest r a) t g.timestamp (start-above (latest r) s a t h (causal l sound r))
        (rw p (within r g n))),
    begun-fall r,
  )
  begun-fall (finish f fs e r) = begun-fall r
  begun-fall (deliver d os h r) = begun-fall r
  begun-fall (close r) = begun-fall r

  -- all that is stacked or logged was started by an actor of the plan, with four inlets
  pub valid : {m : Meaning} {s : State} (r : Run l m s) →
      Each (λ (f : Running). (f.actor < length l.plan.actors) × (length f.inlets ≡ 4)) (begun r)
  valid opened = λ f n. absurd n
  valid (arrive x t v live h r) = valid r
  valid (advance c h r) = valid r
  valid (start {s} a t h r) = each-cons
      (λ (f : Running). (f.actor < length l.plan.actors) × (length f.inlets ≡ 4)) (running s a t) (begun r)
      (h.inside, refl) (valid r)
  valid (finish f fs e r) = valid r
  valid (deliver d os h r) = valid r
  valid (close r) = valid r

pub record Order (st fs : List Running) (lg : List Firing) : Type 0 where
  pub stacked : Each (λ (f : Running). In f fs) st
  pub logged : Each (λ (g : Firing). In (start_of g) fs) lg
  pub behind : Each (λ (g : Firing). Each (λ (f : Running). g.actor ≡ f.actor → g.timestamp < f.timestamp) st) lg
  pub falls : Falls (λ (g : Firing). g.actor) (λ (g : Firing). g.timestamp) lg

module _ (l : Line) (sound : Sound l) where
  -- no actor is stacked twice
  pub stack-once : {m : Meaning} {s : State} (r : Run l m s) → Pairs (λ (f g : Running). f.actor ≡ g.actor → ⊥)
      s.stack
  stack-once {m} {s} r = stack-apart l (latest r) s.stack (causal l sound r).falling (causal l sound r).latest

  pub order : {m : Meaning} {s : State} (r : Run l m s) → Order s.stack (begun r) (log r)
  order opened = record { stacked = λ f n. absurd n; logged = λ g n. absurd n; behind = λ g n. absurd n; falls = tt }
  order (arrive x t v live h r) = order r
  order (advance c h r) = order r
  order (start {s} a t h r) = let i = order r in let newer = (begun-fall l sound (start a t h r)).0 in record {
    stacked = each-cons _ (running s a t) s.stack (inl refl) (λ f n. inr (i.stacked f n));
    logged = λ g n. inr (i.logged g n);
    behind = λ g n. each-cons (λ (f : Running). g.actor ≡ f.actor → g.timestamp < f.timestamp) (running s a t)
        s.stack
        (λ p. newer (start_of g) (i.logged g n) (sym p)) (i.behind g n);
    falls = i.falls;
  }
  order {m} (finish {s} f fs e r) = let i = order r in let there : In f s.stack = rw e (inl refl) in record {
    stacked = λ g n. i.stacked g (rw e (inr n));
    logged = each-cons (λ (g : Firing). In (start_of g) (begun r)) (firing l.plan m s f) (log r)
        (i.stacked f there) i.logged;
    behind = each-cons _ (firing l.plan m s f) (log r) (λ g n p. absurd ((rw e at (stack-once r)).0 g n p))
        (λ g n h w. i.behind g n h (rw e (inr w)));
    falls = (λ g n p. i.behind g n f there (sym p), i.falls);
  }
  order (deliver d os h r) = order r
  order (close r) = order r

-- the arrivals of a sensor rise
pub record Came (l : Line) (last : ℕ → Option ℕ) (ys : List Arrival) : Type 0 where
  pub valid : Each (λ (y : Arrival). y.sensor < length l.plan.sensors) ys
  pub within : Each (λ (y : Arrival). Within (last y.sensor) y.timestamp) ys
  pub falls : Falls (λ (y : Arrival). y.sensor) (λ (y : Arrival). y.timestamp) ys

module _ (l : Line) where
  pub arrivals : {m : Meaning} {s : State} (r : Run l m s) → Came l s.last (came r)
  arrivals opened = record { valid = λ y n. absurd n; within = λ y n. absurd n; falls = tt }
  arrivals (arrive {s} x t v live h r) = let i = arrivals r in record {
    valid = each-cons _ (record { sensor = x; timestamp = t; value = v }) (came r) h.exists i.valid;
    within = each-cons (λ (y : Arrival). Within (changed s.last x (Some t) y.sensor) y.timestamp)
        (record { sensor = x; timestamp = t; value = v }) (came r)
        (rw (eq-eqb x x refl) (omega arith))
        (λ y n. within-changed s.last x y.sensor t y.timestamp h.not_stale (i.within y n));
    falls = (λ y n p. later (s.last x) t y.timestamp h.not_stale (rw p (i.within y n)), i.falls);
  }
  arrivals (advance c h r) = arrivals r
  arrivals (start a t h r) = arrivals r
  arrivals (finish f fs e r) = arrivals r
  arrivals (deliver d os h r) = arrivals r
  arrivals (close r) = arrivals r
