-- Where events come from and where they go.
use Rattle.std.proofs.Common.{◌≡◌, ℕ, zero, suc, ◌<◌, Bool, true, false, cond, not, eqb, ◌⊎◌, List, [], ◌∷◌, ℤ, Some, Option, sym, refl, ap, ◌∙◌, subst, inl, inr, arith}
use Rattle.std.proofs.lemmas.Bool.{eq-eqb, eqb-true, cases_Bool, and_parts, and_from, both_ways, not_from_false}
use Rattle.line.specs.Lists.{In}
use Rattle.line.specs.Plan.{Plan, feed, delay, Leads}
use Rattle.line.specs.Times.{Line, Sound}
use Rattle.line.specs.declared.parts.Source.{Source}
use Rattle.line.specs.declared.parts.Source.TheVariants.{Sensor, Outlet}
use Rattle.line.specs.declared.parts.Sink.{Sink}
use Rattle.line.specs.declared.parts.Sink.TheVariants.{Inlet}
use Rattle.runs.specs.Lists.{Each, keep, put_all}
use Rattle.banks.specs.Meaning.{Meaning}
use Rattle.runs.specs.State.{State, running, firing, taken, value_for, four, port, event_at, events_sent, event_time}
use Rattle.runs.specs.Runs.{Arrival}
use Rattle.runs.specs.declared.records.Event.{Event}
use Rattle.runs.specs.declared.records.Running.{Running}
use Rattle.runs.specs.declared.records.Firing.{Firing}
use Rattle.runs.proofs.Lists.{in-keep, keep-in, in-put-all, put-all-in, falls-one}
use Rattle.runs.proofs.Wiring.{proper, one-source, leads, feeds}
use Rattle.runs.proofs.Sending.{event-path, Sends, sent, sends-in, Lands, in-event_at, event_at-in}
use Rattle.runs.proofs.Accepted.{none-some}
use Rattle.runs.proofs.Run.{Run, opened, arrive, advance, start, finish, deliver, close, came, log}
use Rattle.runs.proofs.Order.{order, arrivals}

-- an event was posted by a sensor's arrival or by a firing's outlet
pub record BySensor (p : Plan) (ys : List Arrival) (e : Event) : Type 0 where
  pub arrival : Arrival
  pub there : In arrival ys
  pub lands : Lands p arrival e

pub record ByOutlet (p : Plan) (lg : List Firing) (e : Event) : Type 0 where
  pub firing : Firing
  pub there : In firing lg
  pub sends : Sends p firing e

abbrev pub Posted : Plan → List Arrival → List Firing → Event → Type 0
Posted p ys lg e = BySensor p ys e ⊎ ByOutlet p lg e

-- it waits, or is in a stacked firing, or in a logged one
pub record Stacked (fs : List Running) (e : Event) : Type 0 where
  pub firing : Running
  pub there : In firing fs
  pub actor : firing.actor ≡ e.actor
  pub time : firing.timestamp ≡ e.timestamp
  pub has : port firing.inlets e.inlet ≡ Some e.value

pub record Logged (lg : List Firing) (e : Event) : Type 0 where
  pub firing : Firing
  pub there : In firing lg
  pub actor : firing.actor ≡ e.actor
  pub time : firing.timestamp ≡ e.timestamp
  pub has : port firing.inlets e.inlet ≡ Some e.value

abbrev pub Held : State → List Firing → Event → Type 0
Held s lg e = In e s.events ⊎ (Stacked s.stack e ⊎ Logged lg e)

-- four ports ----------------------------------------------------------------------

pub four-at : (f : ℕ → Option ℤ) (i : ℕ) → i < 4 → port (four f) i ≡ f i
four-at f zero l = refl
four-at f (suc zero) l = refl
four-at f (suc (suc zero)) l = refl
four-at f (suc (suc (suc zero))) l = refl
four-at f (suc (suc (suc (suc i)))) l = absurd (omega arith)

four-some : (f : ℕ → Option ℤ) (i : ℕ) (v : ℤ) → port (four f) i ≡ Some v → f i ≡ Some v
four-some f zero v e = e
four-some f (suc zero) v e = e
four-some f (suc (suc zero)) v e = e
four-some f (suc (suc (suc zero))) v e = e
four-some f (suc (suc (suc (suc i)))) v e = absurd (none-some v e)

-- the values taken ------------------------------------------------------------------

value-is : (i : ℕ) (es : List Event) (v : ℤ) → value_for i es ≡ Some v →
    (e : Event) × In e es × (e.inlet ≡ i) × (e.value ≡ v)
value-is i [] v q = absurd (none-some v q)
value-is i (x ∷ es) v q = go (eqb x.inlet i) refl q (value-is i es v)
  where
    go : (b : Bool) → eqb x.inlet i ≡ b → cond b (Some x.value) (value_for i es) ≡ Some v →
        (value_for i es ≡ Some v → (e : Event) × In e es × (e.inlet ≡ i) × (e.value ≡ v)) →
        (e : Event) × In e (x ∷ es) × (e.inlet ≡ i) × (e.value ≡ v)
    go true p q ih = (x, inl refl, eqb-true x.inlet i p, cc)
    go false p q ih = let h = ih q in (h.0, inr h.1, h.2, h.3)

value-has : (es : List Event) (e : Event) → Each (λ (x : Event). x.inlet ≡ e.inlet → x.value ≡ e.value) es →
    In e es → value_for e.inlet es ≡ Some e.value
value-has [] e u n = absurd n
value-has (x ∷ es) e u n = go (eqb x.inlet e.inlet) refl n (value-has es e (λ y k. u y (inr k)))
  where
    go : (b : Bool) → eqb x.inlet e.inlet ≡ b → In e (x ∷ es) →
        (In e es → value_for e.inlet es ≡ Some e.value) →
        cond b (Some x.value) (value_for e.inlet es) ≡ Some e.value
    go true p n ih = ap Some (u x (inl refl) (eqb-true x.inlet e.inlet p))
    go false p (inl z) ih = absurd (both_ways _ p
        (eq-eqb x.inlet e.inlet (ap (λ (e : Event). e.inlet) (sym z))))
    go false p (inr n) ih = ih n

was-taken : (a t : ℕ) (e : Event) → taken a t e ≡ true → (e.actor ≡ a) × (e.timestamp ≡ t)
was-taken a t e h = let w = and_parts (eqb e.actor a) (eqb e.timestamp t) h in
    (eqb-true e.actor a w.0, eqb-true e.timestamp t w.1)

-- what a started firing holds waited
pub run-was : (s : State) (a t : ℕ) (e : Event) → e.actor ≡ a → e.timestamp ≡ t → port (running s a t).inlets
    e.inlet ≡ Some e.value → In e s.events
run-was s a t e p q h =
    let v = value-is e.inlet (keep (taken a t) s.events) e.value
    (four-some (λ i. value_for i (keep (taken a t) s.events)) e.inlet e.value h) in
    let k = in-keep (taken a t) s.events v.0 v.1 in
    let w = was-taken a t v.0 k.1 in
    let z : e ≡ v.0 = event-path e v.0 (p ∙ sym w.0) (sym v.2) (q ∙ sym w.1) (sym v.3) in
    subst (λ (x : Event). In x s.events) (sym z) k.0

-- and what waited for it is in it, where no two differ
pub run-has : (s : State) (a t : ℕ) (e : Event) → e.actor ≡ a → e.timestamp ≡ t → e.inlet < 4 → In e s.events →
    Each (λ (x : Event). x.actor ≡ e.actor → x.inlet ≡ e.inlet → x.timestamp ≡ e.timestamp →
    x.value ≡ e.value)
    s.events →
    port (running s a t).inlets e.inlet ≡ Some e.value
run-has s a t e p q b n u =
    four-at (λ i. value_for i (keep (taken a t) s.events)) e.inlet b ∙ value-has (keep (taken a t) s.events)
    e
    (λ x k z. let c = in-keep (taken a t) s.events x k in let w = was-taken a t x c.1 in
    u x c.0 (w.0 ∙ sym p) z (w.1 ∙ sym q))
    (keep-in (taken a t) s.events e (and_from _ _ (eq-eqb e.actor a p) (eq-eqb e.timestamp t q)) n)

sensor-outlet : (x b o : ℕ) → Sensor x ≡ Outlet b o → ⊥
sensor-outlet x b o p = let z : ◌≡◌ {A = ℕ} 0 1 = cc in omega arith

more-logged : (p : Plan) (ys : List Arrival) (g : Firing) (lg : List Firing) (e : Event) → Posted p ys lg e →
    Posted p ys (g ∷ lg) e
more-logged p ys g lg e (inl h) = inl h
more-logged p ys g lg e (inr h) = inr (record { firing = h.firing; there = inr h.there; sends = h.sends })

more-came : (p : Plan) (y : Arrival) (ys : List Arrival) (lg : List Firing) (e : Event) → Posted p ys lg e →
    Posted p (y ∷ ys) lg e
more-came p y ys lg e (inl h) = inl (record { arrival = h.arrival; there = inr h.there; lands = h.lands })
more-came p y ys lg e (inr h) = inr h

module _ (l : Line) (sound : Sound l) where
  -- an inlet is one of four
  pub below : (ys : List Arrival) (lg : List Firing) (e : Event) → Posted l.plan ys lg e → e.inlet < 4
  below ys lg e (inl h) = (proper l.plan sound.lawful
      (feeds l.plan sound.lawful _ (Inlet e.actor e.inlet) h.lands.sink)).sink.1
  below ys lg e (inr h) = (proper l.plan sound.lawful
      (leads l.plan sound.lawful _ _ (Inlet e.actor e.inlet) h.sends.sink)).sink.1

  -- one source for each inlet
  one-feed : (x y : Source) (e f : Event) → e.actor ≡ f.actor → e.inlet ≡ f.inlet →
      Leads l.plan x (Inlet e.actor e.inlet) →
      Leads l.plan y (Inlet f.actor f.inlet) → x ≡ y
  one-feed x y e f p q m n =
      let z : Inlet e.actor e.inlet ≡ Inlet f.actor f.inlet = cc in
      one-source l.plan sound.lawful x y (Inlet f.actor f.inlet)
      (subst (λ (k : Sink). Leads l.plan x k) z m) n

  fed_by : (ys : List Arrival) (e : Event) (h : BySensor l.plan ys e) →
      Leads l.plan (Sensor h.arrival.sensor) (Inlet e.actor e.inlet)
  fed_by ys e h = feeds l.plan sound.lawful _ _ h.lands.sink

  sent-by : (lg : List Firing) (e : Event) (h : ByOutlet l.plan lg e) →
      Leads l.plan (Outlet h.firing.actor h.sends.outlet) (Inlet e.actor e.inlet)
  sent-by lg e h = leads l.plan sound.lawful _ _ _ h.sends.sink

  -- one value for each inlet and time
  pub unique : {m : Meaning} {s : State} (r : Run l m s) (e f : Event) → Posted l.plan (came r) (log r) e →
      Posted l.plan (came r) (log r) f →
      e.actor ≡ f.actor → e.inlet ≡ f.inlet → e.timestamp ≡ f.timestamp → e.value ≡ f.value
  unique r e f (inl p) (inl q) a i t =
      let c : Sensor p.arrival.sensor ≡ Sensor q.arrival.sensor = one-feed _ _ e f a i (fed_by (came r) e p)
      (fed_by (came r) f q) in
      let x : p.arrival.sensor ≡ q.arrival.sensor = cc in
      let z = falls-one (λ (y : Arrival). y.sensor) (λ (y : Arrival). y.timestamp) (came r) (arrivals l r).falls
      p.arrival q.arrival p.there q.there x
      (sym p.lands.time ∙ t ∙ q.lands.time) in
      p.lands.value ∙ ap (λ (y : Arrival). y.value) z ∙ sym q.lands.value
  unique r e f (inl p) (inr q) a i t =
      absurd (sensor-outlet _ _ _ (one-feed _ _ e f a i (fed_by (came r) e p) (sent-by (log r) f q)))
  unique r e f (inr p) (inl q) a i t =
      absurd (sensor-outlet _ _ _ (sym (one-feed _ _ e f a i (sent-by (log r) e p) (fed_by (came r) f q))))
  unique r e f (inr p) (inr q) a i t =
      let c : Outlet p.firing.actor p.sends.outlet ≡ Outlet q.firing.actor q.sends.outlet =
      one-feed _ _ e f a i (sent-by (log r) e p) (sent-by (log r) f q) in
      let b : p.firing.actor ≡ q.firing.actor = cc in
      let o : p.sends.outlet ≡ q.sends.outlet = cc in
      let d : delay l.plan p.firing.actor p.sends.outlet ≡ delay l.plan q.firing.actor
      q.sends.outlet = cc in
      let u : p.firing.timestamp ≡ q.firing.timestamp = omega (arith, p.sends.time, q.sends.time) in
      let z = falls-one (λ (g : Firing). g.actor) (λ (g : Firing). g.timestamp) (log r) (order l sound r).falls
      p.firing q.firing p.there q.there b u in
      let v : Some e.value ≡ Some f.value = sym p.sends.value
      ∙ ap (λ (g : Firing). port g.outlets p.sends.outlet) z
      ∙ ap (port q.firing.outlets) o ∙ q.sends.value in cc

  -- held was posted -----------------------------------------------------------------

  stack-new : (s : State) (a t : ℕ) (e : Event) → Stacked (running s a t ∷ s.stack) e → In e s.events ⊎ Stacked
      s.stack e
  stack-new s a t e h = elim h.there [
    | inl p ↦ inl (run-was s a t e (sym h.actor ∙ ap (λ (f : Running). f.actor) p)
        (sym h.time ∙ ap (λ (f : Running). f.timestamp) p)
        (ap (λ (f : Running). port f.inlets e.inlet) (sym p) ∙ h.has))
    | inr k ↦ inr (record { firing = h.firing; there = k; actor = h.actor; time = h.time; has = h.has })
  ]

  log-new : (m : Meaning) (s : State) (f : Running) (fs : List Running) (lg : List Firing) (e : Event) →
      Logged (firing l.plan m s f ∷ lg) e → Stacked (f ∷ fs) e ⊎ Logged lg e
  log-new m s f fs lg e h = elim h.there [
    | inl p ↦ inl (record {
      firing = f;
      there = inl refl;
      actor = ap (λ (g : Firing). g.actor) (sym p)
          ∙ h.actor;
      time = ap (λ (g : Firing). g.timestamp) (sym p) ∙ h.time;
      has = ap (λ (g : Firing). port g.inlets e.inlet) (sym p) ∙ h.has;
    })
    | inr k ↦ inr (record { firing = h.firing; there = k; actor = h.actor; time = h.time; has = h.has })
  ]

  pub from : {m : Meaning} {s : State} (r : Run l m s) (e : Event) → Held s (log r) e → Posted l.plan (came r)
      (log r) e
  from opened e (inl n) = absurd n
  from opened e (inr (inl h)) = absurd h.there
  from opened e (inr (inr h)) = absurd h.there
  from (arrive {s} x t v live h r) e (inl n) = elim (in-put-all event_time (event_at (feed l.plan x) t (Some v))
      s.events e n) [
        | inl k ↦ let w = in-event_at (feed l.plan x) t (Some v) e k in
            let z : Some v ≡ Some e.value = w.1 in
            inl (record {
              arrival = record { sensor = x; timestamp = t; value = v };
              there = inl refl;
              lands = record { sink = w.0; value = cc; time = w.2 };
            })
        | inr k ↦ more-came l.plan _ (came r) (log r) e (from r e (inl k))
      ]
  from (arrive x t v live h r) e (inr n) = more-came l.plan _ (came r) (log r) e (from r e (inr n))
  from (advance c h r) e n = from r e n
  from (start {s} a t h r) e (inl n) = from r e (inl (in-keep _ s.events e n).0)
  from (start {s} a t h r) e (inr (inl n)) = elim (stack-new s a t e n)
      [ inl k ↦ from r e (inl k) | inr k ↦ from r e (inr (inl k)) ]
  from (start {s} a t h r) e (inr (inr n)) = from r e (inr (inr n))
  from {m} (finish {s} f fs q r) e (inl n) =
      elim (in-put-all event_time (events_sent l.plan (firing l.plan m s f)) s.events e n) [
        | inl k ↦ inr (record {
          firing = firing l.plan m s f;
          there = inl refl;
          sends = sent l.plan
              (firing l.plan m s f) e k;
        })
        | inr k ↦ more-logged l.plan (came r) _ (log r) e (from r e (inl k))
      ]
  from {m} (finish {s} f fs q r) e (inr (inl n)) =
      more-logged l.plan (came r) _ (log r) e
      (from r e (inr (inl (record {
        firing = n.firing;
        there = rw q (inr n.there);
        actor = n.actor;
        time = n.time;
        has = n.has;
      }))))
  from {m} (finish {s} f fs q r) e (inr (inr n)) = elim (log-new m s f fs (log r) e n) [
    | inl k ↦ more-logged l.plan (came r) _ (log r) e (from r e (inr (inl (rw q k))))
    | inr k ↦ more-logged l.plan (came r) _ (log r) e (from r e (inr (inr k)))
  ]
  from (deliver d os h r) e n = from r e n
  from (close r) e n = from r e n

  -- and posted is held ----------------------------------------------------------------

  held_start : (s : State) (lg : List Firing) (a t : ℕ) (e : Event) →
      Each (λ (x : Event). x.actor ≡ e.actor → x.inlet ≡ e.inlet → x.timestamp ≡ e.timestamp →
      x.value ≡ e.value) s.events →
      e.inlet < 4 → Held s lg e →
      In e (keep (λ e. not (taken a t e)) s.events) ⊎ (Stacked (running s a t ∷ s.stack) e ⊎ Logged lg e)
  held_start s lg a t e u b (inl n) = elim (cases_Bool (taken a t e)) [
    | inl h ↦ let w = was-taken a t e h in
        inr (inl (record {
          firing = running s a t;
          there = inl refl;
          actor = sym w.0;
          time = sym w.1;
          has = run-has s a t e w.0 w.1 b n u;
        }))
    | inr h ↦ inl (keep-in (λ e. not (taken a t e)) s.events e (not_from_false (taken a t e) h) n)
  ]
  held_start s lg a t e u b (inr (inl n)) =
      inr (inl (record {
        firing = n.firing;
        there = inr n.there;
        actor = n.actor;
        time = n.time;
        has = n.has;
      }))
  held_start s lg a t e u b (inr (inr n)) = inr (inr n)

  held-finish : (m : Meaning) (s : State) (f : Running) (fs : List Running) (lg : List Firing) (e : Event) →
      s.stack ≡ f ∷ fs → Held s lg e →
      In e (put_all event_time (events_sent l.plan (firing l.plan m s f)) s.events) ⊎
      (Stacked fs e ⊎ Logged (firing l.plan m s f ∷ lg) e)
  held-finish m s f fs lg e q (inl n) = inl (put-all-in event_time (events_sent l.plan (firing l.plan m s f))
      s.events e (inr n))
  held-finish m s f fs lg e q (inr (inl n)) = let k : In n.firing (f ∷ fs) = rw q at n.there in elim k [
    | inl p ↦ inr (inr (record {
      firing = firing l.plan m s f;
      there = inl refl;
      actor = ap (λ (g : Running). g.actor) (sym p) ∙ n.actor;
      time = ap (λ (g : Running). g.timestamp) (sym p)
          ∙ n.time;
      has = ap (λ (g : Running). port g.inlets e.inlet) (sym p)
          ∙ n.has;
    }))
    | inr p ↦ inr (inl (record { firing = n.firing; there = p; actor = n.actor; time = n.time; has = n.has }))
  ]
  held-finish m s f fs lg e q (inr (inr n)) =
      inr (inr (record {
        firing = n.firing;
        there = inr n.there;
        actor = n.actor;
        time = n.time;
        has = n.has;
      }))

  pub to : {m : Meaning} {s : State} (r : Run l m s) (e : Event) → Posted l.plan (came r) (log r) e →
      Held s (log r) e
  to opened e (inl p) = absurd p.there
  to opened e (inr p) = absurd p.there
  to (arrive {s} x t v live h r) e p = elim (new p) [
    | inl q ↦ inl (put-all-in event_time (event_at (feed l.plan x) t (Some v)) s.events e (inl q))
    | inr q ↦ elim (to r e q) [
      | inl n ↦ inl (put-all-in event_time (event_at (feed l.plan x) t (Some v)) s.events e (inr n))
      | inr n ↦ inr n
    ]
  ]
    where
      new : Posted l.plan (record { sensor = x; timestamp = t; value = v } ∷ came r) (log r) e →
          In e (event_at (feed l.plan x) t (Some v)) ⊎ Posted l.plan (came r) (log r) e
      new (inl p) = elim p.there [
        | inl q ↦ inl (event_at-in _ t (Some v) e (ap (λ (y : Arrival). feed l.plan y.sensor) (sym q)
            ∙ p.lands.sink)
            (ap (λ (y : Arrival). Some y.value) (sym q) ∙ ap Some (sym p.lands.value))
            (p.lands.time ∙ ap (λ (y : Arrival). y.timestamp) q))
        | inr n ↦ inr (inl (record { arrival = p.arrival; there = n; lands = p.lands }))
      ]
      new (inr p) = inr (inr p)
  to (advance c h r) e p = to r e p
  to (start {s} a t h r) e p =
      held_start s (log r) a t e (λ x n v z w. unique r x e (from r x (inl n)) p v z w) (below (came r) (log r) e p)
      (to r e p)
  to {m} (finish {s} f fs q r) e (inl p) = held-finish m s f fs (log r) e q (to r e (inl p))
  to {m} (finish {s} f fs q r) e (inr p) = elim p.there [
    | inl z ↦ inl (put-all-in event_time (events_sent l.plan (firing l.plan m s f)) s.events e
        (inl (sends-in l.plan sound.lawful _ e (subst (λ (g : Firing). Sends l.plan g e) z p.sends))))
    | inr n ↦ held-finish m s f fs (log r) e q
        (to r e (inr (record { firing = p.firing; there = n; sends = p.sends })))
  ]
  to (deliver d os h r) e p = to r e p
  to (close r) e p = to r e p
