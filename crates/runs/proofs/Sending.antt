-- What a firing sends along its channels, and where an arrival lands.
use Rattle.std.proofs.Common.{◌≡◌, ℕ, zero, suc, ◌+◌, ◌<◌, ◌≤◌, Bool, true, false, cond, List, [], ◌∷◌, ◌++◌, length, ℤ, Some, None, Option, sym, refl, ap, inl, inr, arith}
use Rattle.std.specs.List.{flat_map}
use Rattle.std.proofs.lemmas.List.{length-append}
use Rattle.line.specs.Lists.{In}
use Rattle.line.specs.Plan.{Plan, wire, feed, delay}
use Rattle.line.specs.Rules.{Lawful}
use Rattle.line.specs.declared.parts.Sink.{Sink}
use Rattle.line.specs.declared.parts.Sink.TheVariants.{Inlet, Actuator}
use Rattle.runs.specs.Lists.{keep, Each}
use Rattle.runs.specs.State.{ports, port, event_at, output_at, event_from, output_from, events_sent, outputs_sent}
use Rattle.runs.specs.State.{to_inlet, to_actuator, leading, longest_delay, wired_delay}
use Rattle.runs.specs.Runs.{Arrival}
use Rattle.runs.specs.declared.records.Event.{Event}
use Rattle.runs.specs.declared.records.Firing.{Firing}
use Rattle.runs.specs.declared.records.Output.{Output}
use Rattle.runs.proofs.Lists.{in-flat_map, flat_map_in}
use Rattle.runs.proofs.Wiring.{leads, proper}

pub event-path : (e f : Event) → e.actor ≡ f.actor → e.inlet ≡ f.inlet → e.timestamp ≡ f.timestamp →
    e.value ≡ f.value → e ≡ f
event-path e f p q r t j = record { actor = p j; inlet = q j; timestamp = r j; value = t j }

pub output-path : (o u : Output) → o.actuator ≡ u.actuator → o.timestamp ≡ u.timestamp → o.value ≡ u.value →
    o ≡ u
output-path o u p q r j = record { actuator = p j; timestamp = q j; value = r j }

-- along one of its outlets the firing g sends v to k at time t
pub record SendsTo (p : Plan) (g : Firing) (k : Sink) (v : ℤ) (t : ℕ) : Type 0 where
  pub outlet : ℕ
  pub sink : wire p g.actor outlet ≡ Some k
  pub value : port g.outlets outlet ≡ Some v
  pub time : t ≡ g.timestamp + delay p g.actor outlet

-- the event e, and the output o, is what the firing g sends
abbrev pub Sends : Plan → Firing → Event → Type 0
Sends p g e = SendsTo p g (Inlet e.actor e.inlet) e.value e.timestamp

abbrev pub SendsOut : Plan → Firing → Output → Type 0
SendsOut p g o = SendsTo p g (Actuator o.actuator) o.value o.timestamp

-- e is where an arrival lands
pub record Lands (p : Plan) (y : Arrival) (e : Event) : Type 0 where
  pub sink : feed p y.sensor ≡ Some (Inlet e.actor e.inlet)
  pub value : e.value ≡ y.value
  pub time : e.timestamp ≡ y.timestamp

-- at the end of one channel ---------------------------------------------------------

pub in-event_at : (k : Option Sink) (t : ℕ) (v : Option ℤ) (e : Event) → In e (event_at k t v) →
    (k ≡ Some (Inlet e.actor e.inlet)) × (v ≡ Some e.value) × (e.timestamp ≡ t)
in-event_at None t v e m = absurd m
in-event_at (Some (Inlet a i)) t None e m = absurd m
in-event_at (Some (Inlet a i)) t (Some v) e (inl q) = (
  ap (λ (e : Event). Some (Inlet e.actor e.inlet)) (sym q),
  ap (λ (e : Event). Some e.value) (sym q),
  ap (λ (e : Event). e.timestamp) q,
)
in-event_at (Some (Inlet a i)) t (Some v) e (inr m) = absurd m
in-event_at (Some (Actuator q)) t v e m = absurd m

pub event_at-in : (k : Option Sink) (t : ℕ) (v : Option ℤ) (e : Event) → k ≡ Some (Inlet e.actor e.inlet) →
    v ≡ Some e.value → e.timestamp ≡ t →
    In e (event_at k t v)
event_at-in k t v e p q r = rw (p, q) (inl (event-path e _ refl refl r refl))

pub in-output_at : (k : Option Sink) (t : ℕ) (v : Option ℤ) (o : Output) → In o (output_at k t v) →
    (k ≡ Some (Actuator o.actuator)) × (v ≡ Some o.value) × (o.timestamp ≡ t)
in-output_at None t v o m = absurd m
in-output_at (Some (Inlet a i)) t v o m = absurd m
in-output_at (Some (Actuator q)) t None o m = absurd m
in-output_at (Some (Actuator q)) t (Some v) o (inl z) = (
  ap (λ (o : Output). Some (Actuator o.actuator)) (sym z),
  ap (λ (o : Output). Some o.value) (sym z),
  ap (λ (o : Output). o.timestamp) z,
)
in-output_at (Some (Actuator q)) t (Some v) o (inr m) = absurd m

output_at-in : (k : Option Sink) (t : ℕ) (v : Option ℤ) (o : Output) → k ≡ Some (Actuator o.actuator) →
    v ≡ Some o.value → o.timestamp ≡ t →
    In o (output_at k t v)
output_at-in k t v o p q r = rw (p, q) (inl (output-path o _ refl r refl))

-- at all four -------------------------------------------------------------------------

in-ports : (o : ℕ) → o < 4 → In o ports
in-ports zero l = inl refl
in-ports (suc zero) l = inr (inl refl)
in-ports (suc (suc zero)) l = inr (inr (inl refl))
in-ports (suc (suc (suc zero))) l = inr (inr (inr (inl refl)))
in-ports (suc (suc (suc (suc o)))) l = absurd (omega arith)

pub sent : (p : Plan) (g : Firing) → Each (Sends p g) (events_sent p g)
sent p g e m =
    let h = in-flat_map (event_from p g) ports e m in
    let w = in-event_at _ _ _ e h.2 in
    record { outlet = h.0; sink = w.0; value = w.1; time = w.2 }

pub sent-out : (p : Plan) (g : Firing) → Each (SendsOut p g) (outputs_sent p g)
sent-out p g e m =
    let h = in-flat_map (output_from p g) ports e m in
    let w = in-output_at _ _ _ e h.2 in
    record { outlet = h.0; sink = w.0; value = w.1; time = w.2 }

module _ (p : Plan) (law : Lawful p) where
  outlet-in : {g : Firing} {k : Sink} {v : ℤ} {t : ℕ} (h : SendsTo p g k v t) → In h.outlet ports
  outlet-in h = in-ports h.outlet (proper p law (leads p law _ _ _ h.sink)).source.1

  pub sends-in : (g : Firing) (e : Event) → Sends p g e → In e (events_sent p g)
  sends-in g e h =
      flat_map_in (event_from p g) ports e h.outlet (outlet-in h) (event_at-in _ _ _ e h.sink h.value h.time)

  pub sends-out-in : (g : Firing) (o : Output) → SendsOut p g o → In o (outputs_sent p g)
  sends-out-in g o h =
      flat_map_in (output_from p g) ports o h.outlet (outlet-in h) (output_at-in _ _ _ o h.sink h.value h.time)

-- room and time -----------------------------------------------------------------------

flat_map-few : {A : Type 0} (f : ℕ → List A) (test : ℕ → Bool) → ((o : ℕ) → length (f o) ≤ cond (test o) 1 0) →
    (os : List ℕ) →
    length (flat_map f os) ≤ length (keep test os)
flat_map-few f test h [] = omega arith
flat_map-few {A} f test h (o ∷ os) =
    let ih = flat_map-few f test h os in
    let n = length-append (f o) (flat_map f os) in
    elim (test o) as (λ b. length (f o) ≤ cond b 1 0 → length (f o ++ flat_map f os) ≤ length
    (cond b (o ∷ keep test os) (keep test os))) [
      | true ↦ λ w. omega arith
      | false ↦ λ w. omega arith
    ] (h o)

pub event-few : (k : Option Sink) (t : ℕ) (v : Option ℤ) → length (event_at k t v) ≤ cond (to_inlet k) 1 0
event-few None t v = omega arith
event-few (Some (Inlet a i)) t None = omega arith
event-few (Some (Inlet a i)) t (Some v) = omega arith
event-few (Some (Actuator q)) t v = omega arith

pub output-few : (k : Option Sink) (t : ℕ) (v : Option ℤ) → length (output_at k t v) ≤ cond (to_actuator k) 1 0
output-few None t v = omega arith
output-few (Some (Inlet a i)) t v = omega arith
output-few (Some (Actuator q)) t None = omega arith
output-few (Some (Actuator q)) t (Some v) = omega arith

pub few-events : (p : Plan) (g : Firing) → length (events_sent p g) ≤ leading to_inlet p g.actor
few-events p g = flat_map-few (event_from p g) (λ o. to_inlet (wire p g.actor o))
    (λ o. event-few (wire p g.actor o) (g.timestamp + delay p g.actor o) (port g.outlets o)) ports

pub few-outputs : (p : Plan) (g : Firing) → length (outputs_sent p g) ≤ leading to_actuator p g.actor
few-outputs p g = flat_map-few (output_from p g) (λ o. to_actuator (wire p g.actor o))
    (λ o. output-few (wire p g.actor o) (g.timestamp + delay p g.actor o) (port g.outlets o)) ports

-- no wired outlet adds more than the longest delay
pub no_longer : (p : Plan) → Lawful p → (a o : ℕ) (k : Sink) → wire p a o ≡ Some k → delay p a o ≤ longest_delay p a
no_longer p law a o k e = go o k e (proper p law (leads p law a o k e)).source.1
  where
    same : (v : Option Sink) (k : Sink) (d : ℕ) → v ≡ Some k → wired_delay v d ≡ d
    same v k d e = rw e refl

    go : (o : ℕ) (k : Sink) → wire p a o ≡ Some k → o < 4 → delay p a o ≤ longest_delay p a
    go zero k e l = let h = same (wire p a 0) k (delay p a 0) e in omega arith
    go (suc zero) k e l = let h = same (wire p a 1) k (delay p a 1) e in omega arith
    go (suc (suc zero)) k e l = let h = same (wire p a 2) k (delay p a 2) e in omega arith
    go (suc (suc (suc zero))) k e l = let h = same (wire p a 3) k (delay p a 3) e in omega arith
    go (suc (suc (suc (suc o)))) k e l = absurd (omega arith)
