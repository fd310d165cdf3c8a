-- Each accepted call leaves a safe state safe.
use Rattle.std.proofs.Common.{◌≡◌, ℕ, ◌+◌, ◌<◌, ◌≤◌, true, not, List, [], ◌∷◌, length, ℤ, pos, ◌+ℤ◌, ◌<ℤ◌, Some, None, Option, sym, refl, ap, ◌∙◌, subst, inl, inr, arith}
use Rattle.std.proofs.lemmas.Bool.{eq-eqb, ne_eqb, not-true, cases_eq, both_ways, false≢true, and_from}
use Rattle.std.proofs.lemmas.Int.{ints}
use Rattle.line.specs.Lists.{In}
use Rattle.line.specs.Plan.{Plan, feed, delay}
use Rattle.line.specs.Paths.{Path}
use Rattle.line.specs.Times.{Line, Sound}
use Rattle.line.specs.declared.parts.Sink.{Sink}
use Rattle.line.specs.declared.parts.Sink.TheVariants.{Inlet, Actuator}
use Rattle.runs.specs.Lists.{Each, Pairs, keep, changed}
use Rattle.banks.specs.Meaning.{Meaning, Reacted}
use Rattle.runs.specs.State.{State, fresh, arrived, advanced, started, unstacked, delivered, closed, running}
use Rattle.runs.specs.State.{firing_of, taken, event_at, events_sent, outputs_sent, event_time, output_time, aside}
use Rattle.runs.specs.State.{to_inlet, to_actuator, leading, deadline_at, deadline_of}
use Rattle.runs.specs.Calls.{event_room, output_room, Delivers}
use Rattle.runs.specs.Safe.{Reach, Above, Causal, Fitting, FittingEvent, FittingFiring, FittingOutput, Safe}
use Rattle.runs.specs.declared.records.Event.{Event}
use Rattle.runs.specs.declared.records.Running.{Running}
use Rattle.runs.specs.declared.records.Firing.{Firing}
use Rattle.runs.specs.declared.records.Output.{Output}
use Rattle.runs.specs.declared.records.Delivered.{Delivered}
use Rattle.runs.proofs.Lists.{each-cons, in-keep, each-put-all, length-put-all, ordered-put-all, pairs-keep, in-out}
use Rattle.runs.proofs.Lists.{out-pairs, out-length}
use Rattle.runs.proofs.Wiring.{proper, leads, feeds}
use Rattle.runs.proofs.Ways.{front, nearer, no-zero-loop, to_inside, waits}
use Rattle.runs.proofs.Sending.{sent, sent-out, in-event_at, few-events, few-outputs, no_longer}
use Rattle.runs.proofs.Accepted.{Arrives, Advances, Starts, Sooner, none-some}

-- above the latest ----------------------------------------------------------------

above_from : (v : Option ℕ) (x : ℕ) → ((u : ℕ) → v ≡ Some u → u < x) → Above v x
above_from None x h = tt
above_from (Some u) x h = h u refl

pub above-to : (v : Option ℕ) (x u : ℕ) → Above v x → v ≡ Some u → u < x
above-to v x u h e = rw e at h

above-eq : (v : Option ℕ) (x y : ℕ) → x ≡ y → Above v x → Above v y
above-eq v x y e h = subst (Above v) e h

above-changed : (T : ℕ → Option ℕ) (a t b x : ℕ) → Above (T b) x → (b ≡ a → t < x) → Above (changed T a (Some t) b) x
above-changed T a t b x h k = elim (cases_eq b a) [
  | inl e ↦ rw (eq-eqb b a e) (k e)
  | inr e ↦ rw (ne_eqb b a e) h
]

-- deadlines -------------------------------------------------------------------------

pub all-sooner : (l : Line) (fs : List Running) (d : ℕ) → Sooner l fs d →
    Pairs (λ (f g : Running). deadline_of l f < deadline_of l g) fs →
    Each (λ (f : Running). d < deadline_of l f) fs
all-sooner l [] d h p x m = absurd m
all-sooner l (f ∷ fs) d h p x m = each-cons (λ (f : Running). d < deadline_of l f) f fs h (λ g m. let q = p.0 g m in
    omega arith) x m

-- no firing is overtaken --------------------------------------------------------------

pub causal-open : (l : Line) (m : Meaning) → Causal l (λ _. None) (fresh m)
causal-open l m = record {
  ahead = λ a e m. absurd m;
  above = λ a f m. absurd m;
  settled = λ _ a t e. absurd (none-some t e);
  falling = tt;
  latest = λ f m. absurd m;
}

pub causal-advance : (l : Line) (T : ℕ → Option ℕ) (s : State) (c : ℕ) → Advances s c → Causal l T s →
    Causal l T (advanced s c)
causal-advance l T s c h i = record {
  ahead = i.ahead;
  above = i.above;
  settled = λ q a t e. let w = i.settled q a t e in let b = h.not_back in omega (arith, ints);
  falling = i.falling;
  latest = i.latest;
}

pub causal-close : (l : Line) (T : ℕ → Option ℕ) (s : State) → Causal l T s → Causal l T (closed s)
causal-close l T s i = record {
  ahead = i.ahead;
  above = i.above;
  settled = λ q. absurd (false≢true q);
  falling = i.falling;
  latest = i.latest;
}

pub causal-deliver : (l : Line) (T : ℕ → Option ℕ) (s : State) (os : List Output) → Causal l T s →
    Causal l T (delivered s os)
causal-deliver l T s os i = record
    { ahead = i.ahead; above = i.above; settled = i.settled; falling = i.falling; latest = i.latest }

module _ (l : Line) (sound : Sound l) where
  reach-inside : (b a k : ℕ) → b < length l.plan.actors → Reach l.plan b a k → a < length l.plan.actors
  reach-inside b a k h (inl e) = omega (arith, e.0)
  reach-inside b a k h (inr r) = to_inside l sound r

  pub causal-arrive : (T : ℕ → Option ℕ) (s : State) (x t : ℕ) (v : ℤ) → s.taking ≡ true → Arrives l s x t →
      Causal l T s → Causal l T (arrived l s x t v)
  causal-arrive T s x t v live h i = record {
    ahead = λ a. each-put-all
        (λ (e : Event). (k : ℕ) → Reach l.plan e.actor a k → Above (T a) (e.timestamp + k)) event_time
        (event_at (feed l.plan x) t (Some v)) s.events
        (λ e m k r. above_from (T a) (e.timestamp + k) (λ u q. landed a u e k r q m)) (i.ahead a);
    above = i.above;
    settled = i.settled;
    falling = i.falling;
    latest = i.latest;
  }
    where
      landed : (a u : ℕ) (e : Event) (k : ℕ) → Reach l.plan e.actor a k → T a ≡ Some u →
          In e (event_at (feed l.plan x) t (Some v)) → u < e.timestamp + k
      landed a u e k r q m =
          let w = in-event_at (feed l.plan x) t (Some v) e m in
          let b = (proper l.plan sound.lawful (feeds l.plan sound.lawful x (Inlet e.actor e.inlet)
          w.0)).sink.0 in
          let z = waits l sound x e.actor e.inlet a k h.exists (reach-inside e.actor a k b r) w.0 r in
          let c = i.settled live a u q in
          let d = h.in_window in
          let f = w.2 in omega (arith, ints)

  -- what still waits lies behind an accepted start
  rest-later : (s : State) (a t : ℕ) → Starts l s a t →
      Each (λ (e : Event). (k : ℕ) → Reach l.plan e.actor a k → t < e.timestamp + k)
      (keep (λ e. not (taken a t e)) s.events)
  rest-later s a t h e m k r = go r
    where
      was : In e s.events × (not (taken a t e) ≡ true)
      was = in-keep (λ e. not (taken a t e)) s.events e m

      other : (e.actor ≡ a) → e.timestamp ≡ t → ⊥
      other p q = both_ways (taken a t e) (not-true (taken a t e) was.1)
          (and_from _ _ (eq-eqb e.actor a p) (eq-eqb e.timestamp t q))

      go : Reach l.plan e.actor a k → t < e.timestamp + k
      go (inl p) = let u = h.least e was.0 p.0 in let w : e.timestamp ≡ t → ⊥ = other p.0 in
          omega (arith, p.1)
      go (inr w) = h.not_behind e was.0 k w

  pub causal-start : (T : ℕ → Option ℕ) (s : State) (a t : ℕ) → Starts l s a t → Causal l T s →
      Causal l (changed T a (Some t)) (started s a t)
  causal-start T s a t h i = record {
    ahead = λ b e m k r. above-changed T a t b _ (i.ahead b e (in-keep _ s.events e m).0 k r)
        (λ q. rest-later s a t h e m k (subst (λ z. Reach l.plan e.actor z k) q r));
    above = λ b. each-cons (λ (f : Running). (k : ℕ) → Path l.plan f.actor b k →
        Above (changed T a (Some t) b) (f.timestamp + k))
        (running s a t) s.stack
        (λ k r. above-changed T a t b _ (new-above b k r)
        (λ q. let z = no-zero-loop l sound (subst (λ c. Path l.plan a c k) q r) in omega arith))
        (λ g m k r. above-changed T a t b _ (i.above b g m k r) (λ q.
        let z = nearer l sound (subst (λ c. Path l.plan g.actor c k) q r) in
        let w = all-sooner l s.stack (deadline_at l a t) h.sooner i.falling g m in omega arith));
    settled = λ q b u e. elim (cases_eq b a) [
      | inl z ↦ let w : t ≡ u = some_same t u (rw (eq-eqb b a z) at e) in let v = ap l.wait z in
          let d = h.not_early q in
          subst (λ c. (pos u +ℤ l.wait c) <ℤ pos s.clock) (sym z)
          (subst (λ c. (pos c +ℤ l.wait a) <ℤ pos s.clock) w d)
      | inr z ↦ i.settled q b u (rw (ne_eqb b a z) at e)
    ];
    falling = (all-sooner l s.stack (deadline_at l a t) h.sooner i.falling, i.falling);
    latest = each-cons (λ (f : Running). changed T a (Some t) f.actor ≡ Some f.timestamp) (running s a t)
        s.stack
        (rw (eq-eqb a a refl) refl) (λ g m. rw (ne_eqb g.actor a (not-again g m)) (i.latest g m));
  }
    where
      some_same : (t u : ℕ) → Some t ≡ Some u → t ≡ u
      some_same t u e = cc

      new-above : (b k : ℕ) → Path l.plan a b k → Above (T b) (t + k)
      new-above b k r =
          let e = h.event in
          above-eq (T b) _ _ (ap (λ z. z + k) e.3)
          (i.ahead b e.0 e.1 k (inr (subst (λ c. Path l.plan c b k) (sym e.2) r)))

      not-again : (g : Running) → In g s.stack → g.actor ≡ a → ⊥
      not-again g m q =
          let e = h.event in
          let n = above-to (T g.actor) (e.0.timestamp + 0) g.timestamp
          (i.ahead g.actor e.0 e.1 0 (inl (e.2 ∙ sym q, refl))) (i.latest g m) in
          let w = all-sooner l s.stack (deadline_at l a t) h.sooner i.falling g m in
          let r = ap l.deadline q in
          let u = e.3 in omega arith

  pub causal-finish : (T : ℕ → Option ℕ) (s : State) (f : Running) (fs : List Running) (v : Reacted) →
      s.stack ≡ f ∷ fs → Causal l T s → Causal l T (unstacked l s f fs v)
  causal-finish T s f fs v e i = record {
    ahead = λ a. each-put-all
        (λ (x : Event). (k : ℕ) → Reach l.plan x.actor a k → Above (T a) (x.timestamp + k)) event_time
        (events_sent l.plan (firing_of l.plan f v.outlets)) s.events
        (λ x n k r.
        let w = sent l.plan (firing_of l.plan f v.outlets) x n in
        let way = front l.plan w.outlet x.inlet
        (leads l.plan sound.lawful f.actor w.outlet _ w.sink) r in
        above-eq (T a) _ _ (omega (arith, w.time))
        (i.above a f (rw e (inl refl)) (delay l.plan f.actor w.outlet + k) way))
        (i.ahead a);
    above = λ a g n. i.above a g (rw e (inr n));
    settled = i.settled;
    falling = (rw e at i.falling).1;
    latest = λ g n. i.latest g (rw e (inr n));
  }

-- all fits ------------------------------------------------------------------------------

pub fitting-open : (p : Plan) (m : Meaning) → Fitting p (fresh m)
fitting-open p m = record {
  events_fit = omega arith;
  outputs_fit = omega arith;
  events_rise = tt;
  outputs_rise = tt;
  events = λ e m. absurd m;
  stack = λ f m. absurd m;
  outputs = λ o m. absurd m;
  clock = omega arith;
  last = λ x t e. absurd (none-some t e);
}

pub fitting-advance : (p : Plan) (s : State) (c : ℕ) → Advances s c → Fitting p s → Fitting p (advanced s c)
fitting-advance p s c h i = record {
  events_fit = i.events_fit;
  outputs_fit = i.outputs_fit;
  events_rise = i.events_rise;
  outputs_rise =
      i.outputs_rise;
  events = i.events;
  stack = i.stack;
  outputs = i.outputs;
  clock = h.in_time;
  last = λ x t e. let w = i.last x t e in
      let b = h.not_back in omega arith;
}

pub fitting-close : (p : Plan) (s : State) → Fitting p s → Fitting p (closed s)
fitting-close p s i = record {
  events_fit = i.events_fit;
  outputs_fit = i.outputs_fit;
  events_rise = i.events_rise;
  outputs_rise =
      i.outputs_rise;
  events = i.events;
  stack = i.stack;
  outputs = i.outputs;
  clock = i.clock;
  last = i.last;
}

pub fitting-deliver : (p : Plan) (s : State) (d : Delivered) (os : List Output) → Delivers s d os → Fitting p s →
    Fitting p (delivered s os)
fitting-deliver p s d os h i = record {
  events_fit = i.events_fit;
  outputs_fit = let n = out-length h.without in let w = i.outputs_fit in omega arith;
  events_rise = i.events_rise;
  outputs_rise = out-pairs (λ (x y : Output). output_time x ≤ output_time y)
      h.without i.outputs_rise;
  events = i.events;
  stack = i.stack;
  outputs = λ o m. i.outputs o (in-out h.without o m);
  clock = i.clock;
  last = i.last;
}

event-one : (k : Option Sink) (t : ℕ) (v : Option ℤ) → length (event_at k t v) ≤ 1
event-one None t v = omega arith
event-one (Some (Inlet a i)) t None = omega arith
event-one (Some (Inlet a i)) t (Some v) = omega arith
event-one (Some (Actuator q)) t v = omega arith

module _ (l : Line) (sound : Sound l) where
  pub fitting-arrive : (s : State) (x t : ℕ) (v : ℤ) → Arrives l s x t → Fitting l.plan s →
      Fitting l.plan (arrived l s x t v)
  fitting-arrive s x t v h i = record {
    events_fit =
        let n = length-put-all event_time (event_at (feed l.plan x) t (Some v)) s.events in
        let w = event-one (feed l.plan x) t (Some v) in
        let r = h.room in omega arith;
    outputs_fit = i.outputs_fit;
    events_rise = ordered-put-all event_time (event_at (feed l.plan x) t (Some v)) s.events i.events_rise;
    outputs_rise = i.outputs_rise;
    events = each-put-all (FittingEvent l.plan) event_time (event_at (feed l.plan x) t (Some v)) s.events
        (λ e m.
        let w = in-event_at (feed l.plan x) t (Some v) e m in
        let b = (proper l.plan sound.lawful (feeds l.plan sound.lawful x (Inlet e.actor e.inlet)
        w.0)).sink in
        record {
          actor = b.0;
          inlet = b.1;
          timestamp = let c = i.clock in let d = h.not_future in
              omega (arith, w.2);
        })
        i.events;
    stack = i.stack;
    outputs = i.outputs;
    clock = i.clock;
    last = λ y u e. elim (cases_eq y x) [
      | inl z ↦ let w : Some t ≡ Some u = rw (eq-eqb y x z) at e in let q : t ≡ u = cc in let d = h.not_future in
          omega arith
      | inr z ↦ i.last y u (rw (ne_eqb y x z) at e)
    ];
  }

  pub fitting-start : (s : State) (a t : ℕ) → Starts l s a t → Fitting l.plan s → Fitting l.plan (started s a t)
  fitting-start s a t h i = record {
    events_fit = h.events_fit;
    outputs_fit = h.outputs_fit;
    events_rise = pairs-keep (λ (x y : Event). event_time x ≤ event_time y) (λ e. not (taken a t e)) s.events
        i.events_rise;
    outputs_rise = i.outputs_rise;
    events = λ e m. i.events e (in-keep (λ e. not (taken a t e)) s.events e m).0;
    stack = each-cons (FittingFiring l.plan) (running s a t) s.stack
        (record { actor = h.inside; inlets = refl; timestamp = h.in_time }) i.stack;
    outputs = i.outputs;
    clock = i.clock;
    last = i.last;
  }

  pub fitting-finish : (s : State) (f : Running) (fs : List Running) (v : Reacted) → s.stack ≡ f ∷ fs →
      Fitting l.plan s → Fitting l.plan (unstacked l s f fs v)
  fitting-finish s f fs v e i =
      let p : Plan = l.plan in
      let g : Firing = firing_of p f v.outlets in
      let top = i.stack f (rw e (inl refl)) in
      let law = sound.lawful in
      record {
        events_fit =
            let n = length-put-all event_time (events_sent p g) s.events in
            let w = few-events p g in
            let b : length s.events + (leading to_inlet p f.actor + aside to_inlet p fs) ≤ event_room = rw e at
            i.events_fit in omega arith;
        outputs_fit =
            let n = length-put-all output_time (outputs_sent p g) s.outputs in
            let w = few-outputs p g in
            let b : length s.outputs + (leading to_actuator p f.actor + aside to_actuator p fs) ≤ output_room =
            rw e at i.outputs_fit in omega arith;
        events_rise = ordered-put-all event_time (events_sent p g) s.events i.events_rise;
        outputs_rise = ordered-put-all output_time (outputs_sent p g) s.outputs i.outputs_rise;
        events = each-put-all (FittingEvent p) event_time (events_sent p g) s.events
            (λ x n.
            let w = sent p g x n in
            let b = (proper p law (leads p law f.actor w.outlet _ w.sink)).sink in
            let d = no_longer p law f.actor w.outlet _ w.sink in
            record { actor = b.0; inlet = b.1; timestamp = omega (arith, w.time, top.timestamp) })
            i.events;
        stack = λ x n. i.stack x (rw e (inr n));
        outputs = each-put-all (FittingOutput p) output_time (outputs_sent p g) s.outputs
            (λ x n.
            let w = sent-out p g x n in
            let b = (proper p law (leads p law f.actor w.outlet _ w.sink)).sink in
            let d = no_longer p law f.actor w.outlet _ w.sink in
            record { actuator = b; timestamp = omega (arith, w.time, top.timestamp) })
            i.outputs;
        clock = i.clock;
        last = i.last;
      }

-- safe ------------------------------------------------------------------------------------

pub safe-open : (l : Line) (m : Meaning) → Safe l (fresh m)
safe-open l m = record { starts = λ _. None; causal = causal-open l m; fitting = fitting-open l.plan m }

pub safe-advance : (l : Line) (s : State) (c : ℕ) → Advances s c → Safe l s → Safe l (advanced s c)
safe-advance l s c h i = record {
  starts = i.starts;
  causal = causal-advance l i.starts s c h i.causal;
  fitting = fitting-advance l.plan
      s c h i.fitting;
}

pub safe-close : (l : Line) (s : State) → Safe l s → Safe l (closed s)
safe-close l s i = record {
  starts = i.starts;
  causal = causal-close l i.starts s i.causal;
  fitting = fitting-close l.plan s i.fitting;
}

pub safe-deliver : (l : Line) (s : State) (d : Delivered) (os : List Output) → Delivers s d os → Safe l s →
    Safe l (delivered s os)
safe-deliver l s d os h i = record {
  starts = i.starts;
  causal = causal-deliver l i.starts s os i.causal;
  fitting = fitting-deliver l.plan s
      d os h i.fitting;
}

module _ (l : Line) (sound : Sound l) where
  pub safe-arrive : (s : State) (x t : ℕ) (v : ℤ) → s.taking ≡ true → Arrives l s x t → Safe l s →
      Safe l (arrived l s x t v)
  safe-arrive s x t v live h i = record {
    starts = i.starts;
    causal = causal-arrive l sound i.starts s x t v live h i.causal;
    fitting = fitting-arrive l sound s x t v h i.fitting;
  }

  pub safe-start : (s : State) (a t : ℕ) → Starts l s a t → Safe l s → Safe l (started s a t)
  safe-start s a t h i = record {
    starts = changed i.starts a (Some t);
    causal = causal-start l sound i.starts s a t h i.causal;
    fitting = fitting-start l sound s a t h i.fitting;
  }

  -- whatever the reaction gave
  pub safe-finish : (s : State) (f : Running) (fs : List Running) (v : Reacted) → s.stack ≡ f ∷ fs → Safe l s →
      Safe l (unstacked l s f fs v)
  safe-finish s f fs v e i = record {
    starts = i.starts;
    causal = causal-finish l sound i.starts s f fs v e i.causal;
    fitting = fitting-finish
        l sound s f fs v e i.fitting;
  }

-- no actor is stacked twice
pub stack-apart : (l : Line) (T : ℕ → Option ℕ) (fs : List Running) →
    Pairs (λ (f g : Running). deadline_of l f < deadline_of l g) fs →
    Each (λ (f : Running). T f.actor ≡ Some f.timestamp) fs → Pairs (λ (f g : Running). f.actor ≡ g.actor → ⊥)
    fs
stack-apart l T [] h k = tt
stack-apart l T (f ∷ fs) h k = (
  (λ g m q.
      let u : Some f.timestamp ≡ Some g.timestamp = sym (k f (inl refl)) ∙ ap T q ∙ k g (inr m) in
      let w : f.timestamp ≡ g.timestamp = cc in
      let d = h.0 g m in
      let r = ap l.deadline q in omega arith),
  stack-apart l T fs h.1 (λ g m. k g (inr m)),
)
