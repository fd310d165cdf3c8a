-- What it means that a call is accepted: each condition of its refusals fails.
use Rattle.std.proofs.Common.{◌≡◌, ℕ, ◌+◌, ◌<◌, ◌≤◌, min, Bool, true, false, ◌&&◌, ltb, leb, List, [], ◌∷◌, length, ℤ, pos, ◌+ℤ◌, ◌<ℤ◌, is_some, Some, None, Option, unwrap_or, sym, refl, inl, inr, arith}
use lib.Signed.{le_z}
use Rattle.std.proofs.lemmas.Bool.{eq-eqb, eqb-true, cases_lt, cases_Bool, both_ways, not-false, ltb-true, ltb-false, leb-true, leb-false, and_parts, and_cases, true≢false}
use Rattle.std.proofs.lemmas.Int.{ints}
use Rattle.fault.specs.declared.Fault.{Fault}
use Rattle.fault.specs.declared.RunCause.{RunCause}
use Rattle.line.specs.Lists.{In}
use Rattle.line.specs.Plan.{lateness}
use Rattle.line.specs.Paths.{Path}
use Rattle.line.specs.Times.{Line, Sound}
use Rattle.runs.specs.Lists.{Each, keep, least, lower}
use Rattle.runs.specs.State.{State, started, at_actor, event_time, output_time, aside, to_inlet, to_actuator}
use Rattle.runs.specs.State.{deadline_at, deadline_of, longest_delay}
use Rattle.runs.specs.Calls.{Check, when, first_met, verdict, horizon, event_room, output_room, not_above}
use Rattle.runs.specs.Calls.{arrive_checks, arrive_verdict, advance_checks, advance_verdict, first_at, time_at}
use Rattle.runs.specs.Calls.{within, could_reach, event_actor, not_sooner, start_checks, start_verdict}
use Rattle.runs.specs.Safe.{Above}
use Rattle.runs.specs.declared.records.Event.{Event}
use Rattle.runs.specs.declared.records.Running.{Running}
use Rattle.runs.specs.declared.records.Output.{Output}
use Rattle.runs.proofs.Lists.{each-cons, in-keep, keep-in}
use Rattle.runs.proofs.Ways.{measured}

pub none-some : {A : Type 0} (v : A) → ◌≡◌ {A = Option A} None (Some v) → ⊥
none-some {A} v p = let z : ◌≡◌ {A = ℕ} 0 1 = cc in omega arith

-- no condition is met
abbrev pub Passes : List Check → Type 0
Passes [] = Unit {0}
Passes (c ∷ cs) = (c.place ≡ None) × Passes cs

pass_step : (k : RunCause) (o : Option ℕ) (v : Option Fault) → first_met k o v ≡ None → (o ≡ None) × (v ≡ None)
pass_step k None v e = (refl, e)
pass_step k (Some n) v e = absurd (none-some _ (sym e))

pub passes : (cs : List Check) → verdict cs ≡ None → Passes cs
passes [] e = tt
passes (c ∷ cs) e = let h = pass_step c.cause c.place (verdict cs) e in (h.0, passes cs h.1)

pub unmet : (b : Bool) (n : ℕ) → when b n ≡ None → b ≡ false
unmet true n e = absurd (none-some n (sym e))
unmet false n e = refl

-- the least of a list -------------------------------------------------------------

pub least-none : {A : Type 0} (f : A → ℕ) (xs : List A) → least f xs ≡ None → (x : A) → In x xs → ⊥
least-none f [] e x m = m
least-none f (y ∷ ys) e x m = none-some _ (sym e)

pub least-low : {A : Type 0} (f : A → ℕ) (xs : List A) (t : ℕ) → least f xs ≡ Some t → Each (λ (x : A). t ≤ f x) xs
least-low f [] t e = absurd (none-some t e)
least-low {A} f (y ∷ ys) t e = go (least f ys) refl e (least-low f ys)
  where
    go : (v : Option ℕ) → least f ys ≡ v → Some (lower (f y) v) ≡ Some t →
        ((u : ℕ) → least f ys ≡ Some u → Each (λ (x : A). u ≤ f x) ys) → Each (λ (x : A). t ≤ f x) (y ∷ ys)
    go None p e ih = let z : f y ≡ t = cc in
        each-cons (λ (x : A). t ≤ f x) y ys (omega arith) (λ x m. absurd (least-none f ys p x m))
    go (Some u) p e ih = let z : min (f y) u ≡ t = cc in
        each-cons (λ (x : A). t ≤ f x) y ys (omega arith) (λ x m. let w = ih u p x m in omega arith)

pub least-is : {A : Type 0} (f : A → ℕ) (xs : List A) (t : ℕ) → least f xs ≡ Some t → (x : A) × In x xs × (f x ≡ t)
least-is f [] t e = absurd (none-some t e)
least-is {A} f (y ∷ ys) t e = go (least f ys) refl e (least-is f ys)
  where
    go : (v : Option ℕ) → least f ys ≡ v → Some (lower (f y) v) ≡ Some t →
        ((u : ℕ) → least f ys ≡ Some u → (x : A) × In x ys × (f x ≡ u)) → (x : A) × In x (y ∷ ys) × (f x ≡ t)
    go None p e ih = (y, inl refl, cc)
    go (Some u) p e ih = let z : min (f y) u ≡ t = cc in elim (cases_lt (f y) u) [
      | inl l ↦ (y, inl refl, omega arith)
      | inr l ↦ let h = ih u p in (h.0, inr h.1, omega (arith, h.2))
    ]

-- nothing passes a test of which the least is none
pub none_kept : {A : Type 0} (f : A → ℕ) (test : A → Bool) (xs : List A) → least f (keep test xs) ≡ None →
    Each (λ (x : A). test x ≡ false) xs
none_kept f test xs e x m = elim (cases_Bool (test x)) [
  | inl t ↦ absurd (least-none f (keep test xs) e x (keep-in test xs x t m))
  | inr t ↦ t
]

-- arrive ------------------------------------------------------------------------

pub record Arrives (l : Line) (s : State) (x t : ℕ) : Type 0 where
  pub exists : x < length l.plan.sensors
  pub not_future : t ≤ s.clock
  pub in_window : s.clock ≤ t + lateness l.plan x
  pub not_stale : Above (s.last x) t
  pub room : length s.events + aside to_inlet l.plan s.stack + 1 ≤ event_room

above-last : (v : Option ℕ) (t : ℕ) → not_above v t ≡ None → Above v t
above-last None t e = tt
above-last (Some u) t e = leb-false t u (unmet _ u e)

pub arrives : (l : Line) (s : State) (x t : ℕ) → arrive_verdict l s x t ≡ None → Arrives l s x t
arrives l s x t e =
    let h = passes (arrive_checks l s x t) e in
    let w = and_parts (leb t s.clock) (leb s.clock (t + lateness l.plan x))
    (not-false _ (unmet _ _ h.1.0)) in
    record {
      exists = ltb-true x (length l.plan.sensors) (not-false _ (unmet _ _ h.0));
      not_future = leb-true t s.clock w.0;
      in_window = leb-true s.clock (t + lateness l.plan x) w.1;
      not_stale = above-last (s.last x) t h.1.1.0;
      room = ltb-false event_room _ (unmet _ _ h.1.1.1.0);
    }

-- advance -----------------------------------------------------------------------

pub record Advances (s : State) (c : ℕ) : Type 0 where
  pub not_back : s.clock ≤ c
  pub in_time : c ≤ horizon
  pub none_due : Each (λ (o : Output). c ≤ o.timestamp) s.outputs

pub advances : (s : State) (c : ℕ) → advance_verdict s c ≡ None → Advances s c
advances s c e =
    let h = passes (advance_checks s c) e in
    record {
      not_back = ltb-false c s.clock (unmet _ _ h.0);
      in_time = ltb-false horizon c (unmet _ _ h.1.0);
      none_due = λ o m. ltb-false o.timestamp c (none_kept output_time (λ o. ltb o.timestamp c) s.outputs
          h.1.1.0 o m);
    }

-- start -------------------------------------------------------------------------

abbrev pub Sooner : Line → List Running → ℕ → Type 0
Sooner l [] d = Unit {0}
Sooner l (f ∷ fs) d = d < deadline_of l f

pub record Starts (l : Line) (s : State) (a t : ℕ) : Type 0 where
  pub inside : a < length l.plan.actors
  pub event : (e : Event) × In e s.events × (e.actor ≡ a) × (e.timestamp ≡ t)
  pub least : Each (λ (e : Event). e.actor ≡ a → t ≤ e.timestamp) s.events
  pub not_early : s.taking ≡ true → (pos t +ℤ l.wait a) <ℤ pos s.clock
  pub not_behind : Each (λ (e : Event). (k : ℕ) → Path l.plan e.actor a k → t < e.timestamp + k) s.events
  pub sooner : Sooner l s.stack (deadline_at l a t)
  pub in_time : t + longest_delay l.plan a ≤ horizon
  pub events_fit : length (started s a t).events + aside to_inlet l.plan (started s a t).stack ≤ event_room
  pub outputs_fit : length s.outputs + aside to_actuator l.plan (started s a t).stack ≤ output_room

pub first_some : (s : State) (a : ℕ) → is_some (first_at s a) ≡ true → first_at s a ≡ Some (time_at s a)
first_some s a e = go (first_at s a) e
  where
    go : (v : Option ℕ) → is_some v ≡ true → v ≡ Some (unwrap_or v 0)
    go None e = absurd (true≢false (sym e))
    go (Some t) e = refl

-- an event waits at the actor at its first time, and none before
pub first-event : (s : State) (a t : ℕ) → first_at s a ≡ Some t →
    (e : Event) × In e s.events × (e.actor ≡ a) × (e.timestamp ≡ t)
first-event s a t e =
    let h = least-is event_time (keep (at_actor a) s.events) t e in
    let k = in-keep (at_actor a) s.events h.0 h.1 in
    (h.0, k.0, eqb-true h.0.actor a k.1, h.2)

pub first-least : (s : State) (a t : ℕ) → first_at s a ≡ Some t →
    Each (λ (e : Event). e.actor ≡ a → t ≤ e.timestamp) s.events
first-least s a t e x m q =
    least-low event_time (keep (at_actor a) s.events) t e x
    (keep-in (at_actor a) s.events x (eq-eqb x.actor a q) m)

outside : (v : Option ℕ) (u t m : ℕ) → within v u t ≡ false → v ≡ Some m → t < u + m
outside v u t m e q = leb-false (u + m) t (rw q at e)

sooner-of : (l : Line) (fs : List Running) (d : ℕ) → not_sooner l fs d ≡ None → Sooner l fs d
sooner-of l [] d e = tt
sooner-of l (f ∷ fs) d e = leb-false (deadline_of l f) d (unmet _ _ e)

late-enough : (live : Bool) (c : ℕ) (z : ℤ) → (live && le_z (pos c) z) ≡ false → live ≡ true → z <ℤ pos c
late-enough live c z e q =
    let h : le_z (pos c) z ≡ false = elim (and_cases live (le_z (pos c) z) e) [
      | inl w ↦ absurd (both_ways live w q)
      | inr w ↦ w
    ] in
    grind (arith, ints)

pub accepted : (l : Line) → Sound l → (s : State) (a : ℕ) → start_verdict l s a ≡ None → Starts l s a (time_at s a)
accepted l sound s a e =
    let t : ℕ = time_at s a in
    let h = passes (start_checks l s a t) e in
    let w : first_at s a ≡ Some t = first_some s a (not-false _ (unmet _ _ h.1.0)) in
    record {
      inside = ltb-true a (length l.plan.actors) (not-false _ (unmet _ _ h.0));
      event = first-event s a t w;
      least = first-least s a t w;
      not_early = late-enough s.taking s.clock (pos t +ℤ l.wait a) (unmet _ _ h.1.1.0);
      not_behind = λ x m k r.
          let q = measured l sound r in
          omega (
            arith,
            q.2,
            outside (l.distance x.actor a) x.timestamp t q.0
                (none_kept event_actor (could_reach l a t) s.events h.1.1.1.0 x m) q.1,
          );
      sooner = sooner-of l s.stack (deadline_at l a t) h.1.1.1.1.0;
      in_time = ltb-false horizon _ (unmet _ _ h.1.1.1.1.1.0);
      events_fit = ltb-false event_room _ (unmet _ _ h.1.1.1.1.1.1.0);
      outputs_fit = ltb-false output_room _ (unmet _ _ h.1.1.1.1.1.1.1.0);
    }
