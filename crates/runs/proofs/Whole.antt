-- Two runs with the same arrivals: what one logged the other logs too, as far as it is settled.
use Rattle.std.proofs.Common.{◌≡◌, ℕ, ◌+◌, ◌<◌, ◌≤◌, List, length, Some, sym, refl, subst, inl, inr, arith}
use Rattle.line.specs.Lists.{In}
use Rattle.line.specs.Plan.{feed, delay, Leads}
use Rattle.line.specs.Times.{Line, Sound}
use Rattle.line.specs.declared.parts.Source.{Source}
use Rattle.line.specs.declared.parts.Source.TheVariants.{Sensor, Outlet}
use Rattle.line.specs.declared.parts.Sink.TheVariants.{Inlet}
use Rattle.runs.specs.Lists.{Each}
use Rattle.banks.specs.Meaning.{Meaning, Alike}
use Rattle.runs.specs.State.{State}
use Rattle.runs.specs.Runs.{Arrival, Complete}
use Rattle.runs.specs.Safe.{Reach}
use Rattle.runs.specs.declared.records.Event.{Event}
use Rattle.runs.specs.declared.records.Running.{Running}
use Rattle.runs.specs.declared.records.Firing.{Firing}
use Rattle.runs.specs.declared.records.Output.{Output}
use Rattle.runs.proofs.Wiring.{leads, feeds, feeds-inlet, one-source}
use Rattle.runs.proofs.Ways.{back}
use Rattle.runs.proofs.Run.{Run, came, latest, log, gone, causal}
use Rattle.runs.proofs.Order.{order, arrivals, within, later, start_of}
use Rattle.runs.proofs.Flow.{Posted, Held, from, to}
use Rattle.runs.proofs.Rows.{traced, alive, log-valid, move-traced}
use Rattle.runs.proofs.Outs.{outs, Sent, one-feeder}
use Rattle.runs.proofs.Agree.{Sol, agree_at}

-- all that waits or runs leads to later times at the actor
abbrev pub Settled : Line → State → ℕ → ℕ → Type 0
Settled l s a t =
    Each (λ (e : Event). (k : ℕ) → Reach l.plan e.actor a k → t < e.timestamp + k) s.events
    × Each (λ (f : Running). (k : ℕ) → Reach l.plan f.actor a k → t < f.timestamp + k) s.stack

pub complete-settled : (l : Line) (s : State) → Complete s → (a t : ℕ) → Settled l s a t
complete-settled l s c a t = ((λ e n. absurd (rw c.no_event at n)), (λ f n. absurd (rw c.no_firing at n)))

arrival-path : (y z : Arrival) → y.sensor ≡ z.sensor → y.timestamp ≡ z.timestamp → y.value ≡ z.value → y ≡ z
arrival-path y z p q r j = record { sensor = p j; timestamp = q j; value = r j }

module _ (l : Line) (sound : Sound l) where
  log-settled : {m : Meaning} {s : State} (r : Run l m s) →
      Each (λ (g : Firing). Settled l s g.actor g.timestamp) (log r)
  log-settled r g n =
      let w = within l sound r (start_of g) ((order l sound r).logged g n) in
      let c = causal l sound r in (
        (λ e k j q. later (latest r g.actor) (e.timestamp + j) g.timestamp (c.ahead g.actor e k j q) w),
        (λ f k j q. elim q [
          | inl z ↦ let d = (order l sound r).behind g n f k (sym z.0) in omega arith
          | inr z ↦ later (latest r g.actor) (f.timestamp + j) g.timestamp (c.above g.actor f k j z) w
        ]),
      )

  sol : {m : Meaning} {s : State} (r : Run l m s) → Sol l m (came r) (log r)
  sol {m} {s} r = record {
    Settled = Settled l s;
    enters = λ e q p. elim (to l sound r e p) [
      | inl n ↦ absurd (let w = q.0 e n 0 (inl (refl, refl)) in omega arith)
      | inr (inl h) ↦ absurd (let w = q.1 h.firing h.there 0 (inl (h.actor, refl)) in let t = h.time in
          omega arith)
      | inr (inr h) ↦ h
    ];
    came_from = λ e h. from l sound r e (inr (inr h));
    falls = (order l sound r).falls;
    traced = traced l r;
    alive = alive l sound r;
    four = λ g n. (log-valid l sound r g n).1;
    logged = log-settled r;
    earlier = λ a t u w q.
        ((λ e n k v. let z = q.0 e n k v in omega arith), (λ f n k v. let z = q.1 f n k v in omega arith));
    before = λ b o a i u w q.
        let way : Leads l.plan (Outlet b o) (Inlet a i) = leads l.plan sound.lawful b o (Inlet a i) w in (
          (λ e n k v. let z = q.0 e n (k + delay l.plan b o) (inr (back l.plan o i way v)) in omega arith),
          (λ f n k v. let z = q.1 f n (k + delay l.plan b o) (inr (back l.plan o i way v)) in omega arith),
        );
  }

  move-sol : (m j : Meaning) → Alike (length l.plan.actors) m j → {s : State} (r : Run l j s) →
      Sol l m (came r) (log r)
  move-sol m j q r = let S = sol r in record {
    Settled = S.Settled;
    enters = S.enters;
    came_from = S.came_from;
    falls = S.falls;
    traced = move-traced l.plan (length l.plan.actors) m j q (log r) (log-valid l sound r) S.traced;
    alive = S.alive;
    four = S.four;
    logged = S.logged;
    earlier = S.earlier;
    before = S.before;
  }

  -- the same arrivals
  abbrev pub Gave : List Arrival → List Arrival → Type 0
  Gave ys zs = ((y : Arrival) → In y ys → In y zs) × ((y : Arrival) → In y zs → In y ys)

  -- a firing of either run is one of the other, where that is settled
  pub pass_on : (m j : Meaning) → Alike (length l.plan.actors) m j → {s z : State} (r : Run l m s)
      (r' : Run l j z) → Gave (came r) (came r') →
      ((g : Firing) → In g (log r) → Settled l z g.actor g.timestamp → In g (log r'))
      × ((g : Firing) → In g (log r') → Settled l s g.actor g.timestamp → In g (log r))
  unfolding sol move-sol
  pass_on m j q r r' e =
      let X = sol r in
      let Y = move-sol m j q r' in (
        (λ g n w. (agree_at l sound m X Y e.0 e.1 g.timestamp g.actor (log-settled r g n) w g refl refl).0
            n),
        (λ g n w. (agree_at l sound m X Y e.0 e.1 g.timestamp g.actor w (log-settled r' g n) g refl refl).1
            n),
      )

  -- what is settled once another firing of the actor is logged
  pub settled-by : {m : Meaning} {s : State} (r : Run l m s) (h : Firing) (a t : ℕ) → In h (log r) → a ≡ h.actor →
      t ≤ h.timestamp → Settled l s a t
  unfolding sol
  settled-by {m} {s} r h a t n e q = subst (λ b. Settled l s b t) (sym e)
      ((sol r).earlier h.actor h.timestamp t q (log-settled r h n))

  move-sent : (xs ys : List Firing) (o : Output) (h : Sent l.plan xs o) → In h.firing ys → Sent l.plan ys o
  move-sent xs ys o h n = record { firing = h.firing; there = n; sends = h.sends }

  -- outputs of complete runs
  pub hand-over : {m j : Meaning} {s z : State} (r : Run l m s) (r' : Run l j z) → Complete z →
      ((g : Firing) → In g (log r) → In g (log r')) →
      (o : Output) → In o (gone r) → In o (gone r')
  hand-over r r' c f o n = let h = (outs l sound r).from o (inr n) in
      elim ((outs l sound r').to o (move-sent (log r) (log r') o h (f h.firing h.there))) [
        | inl k ↦ absurd (rw c.no_output at k)
        | inr k ↦ k
      ]

  -- and of runs that stop anywhere: up to the last one handed out
  pub hand-over-to : {m j : Meaning} {s z : State} (r : Run l m s) (r' : Run l j z) →
      ((g : Firing) → In g (log r) → Settled l z g.actor g.timestamp → In g (log r')) →
      (o u : Output) → In o (gone r) → In u (gone r') → o.actuator ≡ u.actuator → o.timestamp ≤ u.timestamp →
      In o (gone r')
  hand-over-to r r' f o u n k e t =
      let h = (outs l sound r).from o (inr n) in
      let i = (outs l sound r').from u (inr k) in
      let c = one-feeder l.plan sound.lawful h.firing i.firing o u h.sends i.sends e in
      let b : h.firing.actor ≡ i.firing.actor = cc in
      let p : h.sends.outlet ≡ i.sends.outlet = cc in
      let d : delay l.plan h.firing.actor h.sends.outlet ≡ delay l.plan i.firing.actor
      i.sends.outlet = cc in
      let g = f h.firing h.there
      (settled-by r' i.firing _ _ i.there b (omega (arith, h.sends.time, i.sends.time))) in
      elim ((outs l sound r').to o (move-sent (log r) (log r') o h g)) [
        | inl w ↦ absurd (let v = (outs l sound r').over u k o w (sym e) in omega arith)
        | inr w ↦ w
      ]

  -- an arrival stands in the record of the actor that its sensor feeds
  pub read_off : {m j : Meaning} {s z : State} (r : Run l m s) (r' : Run l j z) → Complete s →
      ((g : Firing) → In g (log r) → In g (log r')) →
      (y : Arrival) → In y (came r) → In y (came r')
  read_off {s = s} r r' c f y n = go
      (to l sound r e (inl (record {
        arrival = y;
        there = n;
        lands = record { sink = w.2; value = refl; time = refl };
      })))
    where
      w : (a : ℕ) × (i : ℕ) × (feed l.plan y.sensor ≡ Some (Inlet a i))
      w = feeds-inlet l.plan sound.lawful y.sensor ((arrivals l r).valid y n)

      e : Event
      e = record { actor = w.0; inlet = w.1; timestamp = y.timestamp; value = y.value }

      src : (x : Source) → Leads l.plan x (Inlet w.0 w.1) → Sensor y.sensor ≡ x
      src x h = one-source l.plan sound.lawful (Sensor y.sensor) x (Inlet w.0 w.1)
          (feeds l.plan sound.lawful y.sensor _ w.2) h

      back_to : Posted l.plan (came r') (log r') e → In y (came r')
      back_to (inl p) =
          let q = src _ (feeds l.plan sound.lawful p.arrival.sensor _ p.lands.sink) in
          let x : y.sensor ≡ p.arrival.sensor = cc in
          subst (λ (z : Arrival). In z (came r'))
          (sym (arrival-path y p.arrival x p.lands.time p.lands.value)) p.there
      back_to (inr p) =
          let q = src _ (leads l.plan sound.lawful p.firing.actor p.sends.outlet _ p.sends.sink) in
          let z : ◌≡◌ {A = ℕ} 0 1 = cc in absurd (omega arith)

      go : Held s (log r) e → In y (came r')
      go (inl h) = absurd (subst (λ (xs : List Event). In e xs) c.no_event h)
      go (inr (inl h)) = absurd (subst (λ (xs : List Running). In h.firing xs) c.no_firing h.there)
      go (inr (inr h)) =
          back_to (from l sound r' e
          (inr (inr (record {
            firing = h.firing;
            there = f h.firing h.there;
            actor = h.actor;
            time = h.time;
            has = h.has;
          }))))
