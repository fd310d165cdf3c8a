-- Outputs: each is sent by one outlet, waits, and is handed out in order.
use Rattle.std.proofs.Common.{◌≡◌, ℕ, ◌+◌, ◌<◌, ◌⊎◌, List, [], ◌∷◌, ℤ, Some, None, Option, sym, refl, ap, ◌∙◌, subst, inl, inr, arith}
use Rattle.line.specs.Lists.{In}
use Rattle.line.specs.Plan.{Plan, wire, delay}
use Rattle.line.specs.Rules.{Lawful}
use Rattle.line.specs.Times.{Line, Sound}
use Rattle.line.specs.declared.parts.Source.TheVariants.{Outlet}
use Rattle.line.specs.declared.parts.Sink.{Sink}
use Rattle.line.specs.declared.parts.Sink.TheVariants.{Inlet, Actuator}
use Rattle.runs.specs.Lists.{Each, Pairs}
use Rattle.banks.specs.Meaning.{Meaning}
use Rattle.runs.specs.State.{State, firing, ports, port, output_at, output_from, outputs_sent, output_time}
use Rattle.runs.specs.Calls.{output_of}
use Rattle.runs.specs.declared.records.Running.{Running}
use Rattle.runs.specs.declared.records.Firing.{Firing}
use Rattle.runs.specs.declared.records.Output.{Output}
use Rattle.runs.proofs.Lists.{each-cons, in-put-all, put-all-in, each-put-all, pairs-put-all, pairs-if, pairs-flat_map}
use Rattle.runs.proofs.Lists.{in-out, out-in, out-there, out-pairs, out-each, Falls}
use Rattle.runs.proofs.Wiring.{leads, one-source}
use Rattle.runs.proofs.Sending.{SendsOut, sent-out, sends-out-in, in-output_at}
use Rattle.runs.proofs.Run.{Run, opened, arrive, advance, start, finish, deliver, close, log, gone}
use Rattle.runs.proofs.Order.{order}

-- an output that a logged firing sent
pub record Sent (p : Plan) (lg : List Firing) (o : Output) : Type 0 where
  pub firing : Firing
  pub there : In firing lg
  pub sends : SendsOut p firing o

-- of different actuators
abbrev pub Elsewhere : Output → Output → Type 0
Elsewhere o u = o.actuator ≡ u.actuator → ⊥

-- no two of one actuator have one time
abbrev pub Apart : Output → Output → Type 0
Apart o u = o.actuator ≡ u.actuator → o.timestamp ≡ u.timestamp → ⊥

apart-back : (o u : Output) → Apart o u → Apart u o
apart-back o u h e q = h (sym e) (sym q)

module _ (p : Plan) (law : Lawful p) where
  -- an actuator is fed by one outlet of one actor
  pub one-feeder : (g h : Firing) (o u : Output) (x : SendsOut p g o) (y : SendsOut p h u) →
      o.actuator ≡ u.actuator →
      Outlet g.actor x.outlet ≡ Outlet h.actor y.outlet
  one-feeder g h o u x y e =
      let z : Actuator o.actuator ≡ Actuator u.actuator = ap Actuator e in
      one-source p law _ _ (Actuator u.actuator) (leads p law g.actor x.outlet _ (x.sink ∙ ap Some z))
      (leads p law h.actor y.outlet _ y.sink)

  -- what one firing sends goes to different actuators
  pub sent-elsewhere : (g : Firing) → Pairs Elsewhere (outputs_sent p g)
  sent-elsewhere g = pairs-flat_map Elsewhere (λ (a b : ℕ). a ≡ b → ⊥) (output_from p g) ports (
    each-cons (λ b. 0 ≡ b → ⊥) 1 (2 ∷ (3 ∷ [])) (λ e. omega arith)
        (each-cons (λ b. 0 ≡ b → ⊥) 2 (3 ∷ []) (λ e. omega arith) (each-cons (λ b. 0 ≡ b → ⊥) 3 [] (λ e. omega arith)
        (λ b n. absurd n))),
    (
      each-cons (λ b. 1 ≡ b → ⊥) 2 (3 ∷ []) (λ e. omega arith)
          (each-cons (λ b. 1 ≡ b → ⊥) 3 [] (λ e. omega arith) (λ b n. absurd n)),
      (each-cons (λ b. 2 ≡ b → ⊥) 3 [] (λ e. omega arith) (λ b n. absurd n), ((λ b n. absurd n), tt)),
    ),
  )
      (λ o. lone (wire p g.actor o) (g.timestamp + delay p g.actor o) (port g.outlets o))
      (λ a b d x y m n e. d (differ a b x y m n e))
    where
      lone : (k : Option Sink) (t : ℕ) (v : Option ℤ) → Pairs Elsewhere (output_at k t v)
      lone None t v = tt
      lone (Some (Inlet a i)) t v = tt
      lone (Some (Actuator q)) t None = tt
      lone (Some (Actuator q)) t (Some v) = ((λ b n. absurd n), tt)

      differ : (a b : ℕ) (x y : Output) → In x (output_from p g a) → In y (output_from p g b) →
          x.actuator ≡ y.actuator → a ≡ b
      differ a b x y m n e =
          let u = in-output_at (wire p g.actor a) _ (port g.outlets a) x m in
          let w = in-output_at (wire p g.actor b) _ (port g.outlets b) y n in
          let z : Outlet g.actor a ≡ Outlet g.actor b =
          one-feeder g g x y (record { outlet = a; sink = u.0; value = u.1; time = u.2 })
          (record { outlet = b; sink = w.0; value = w.1; time = w.2 }) e in cc

  pub more-sent : (g : Firing) (lg : List Firing) (o : Output) → Sent p lg o → Sent p (g ∷ lg) o
  more-sent g lg o h = record { firing = h.firing; there = inr h.there; sends = h.sends }

pub record Outs (p : Plan) (os : List Output) (lg : List Firing) (hd : List Output) : Type 0 where
  pub from : (o : Output) → In o os ⊎ In o hd → Sent p lg o
  pub to : (o : Output) → Sent p lg o → In o os ⊎ In o hd
  pub apart : Pairs Apart os
  pub over : Each (λ (h : Output). Each (λ (o : Output). h.actuator ≡ o.actuator → h.timestamp < o.timestamp) os)
      hd
  pub falls : Falls (λ (o : Output). o.actuator) (λ (o : Output). o.timestamp) hd

module _ (l : Line) (sound : Sound l) where
  -- what was sent before lies before what a stacked firing will send
  pub old_below : {m : Meaning} {s : State} (r : Run l m s) (f : Running) (g : Firing) (o u : Output) →
      In f s.stack → g.actor ≡ f.actor → g.timestamp ≡ f.timestamp →
      Sent l.plan (log r) o → SendsOut l.plan g u → o.actuator ≡ u.actuator → o.timestamp < u.timestamp
  old_below r f g o u n a t h x e =
      let z = one-feeder l.plan sound.lawful h.firing g o u h.sends x e in
      let b : h.firing.actor ≡ g.actor = cc in
      let c : h.sends.outlet ≡ x.outlet = cc in
      let d : delay l.plan h.firing.actor h.sends.outlet ≡ delay l.plan g.actor x.outlet = cc in
      let w = (order l sound r).behind h.firing h.there f n (b ∙ a) in
      omega (arith, h.sends.time, x.time)

  pub outs : {m : Meaning} {s : State} (r : Run l m s) → Outs l.plan s.outputs (log r) (gone r)
  outs opened = record {
    from = λ o n. elim n [ inl z ↦ absurd z | inr z ↦ absurd z ];
    to = λ o n. absurd n.there;
    apart = tt;
    over = λ h n. absurd n;
    falls = tt;
  }
  outs (arrive x t v live h r) = outs r
  outs (advance c h r) = outs r
  outs (start a t h r) = outs r
  outs {m} (finish {s} f fs e r) =
      let i = outs r in
      let p : Plan = l.plan in
      let g : Firing = firing p m s f in
      let top : In f s.stack = rw e (inl refl) in
      record {
        from = λ o n. elim n [
          | inl k ↦ elim (in-put-all output_time (outputs_sent p g) s.outputs o k) [
            | inl w ↦ record { firing = g; there = inl refl; sends = sent-out p g o w }
            | inr w ↦ more-sent p sound.lawful g (log r) o (i.from o (inl w))
          ]
          | inr k ↦ more-sent p sound.lawful g (log r) o (i.from o (inr k))
        ];
        to = λ o n. elim n.there [
          | inl z ↦ inl (put-all-in output_time (outputs_sent p g) s.outputs o
              (inl (sends-out-in p sound.lawful g o (subst (λ (g : Firing). SendsOut p g o) z n.sends))))
          | inr k ↦ elim (i.to o (record { firing = n.firing; there = k; sends = n.sends })) [
            | inl w ↦ inl (put-all-in output_time (outputs_sent p g) s.outputs o (inr w))
            | inr w ↦ inr w
          ]
        ];
        apart = pairs-put-all Apart apart-back output_time (outputs_sent p g) s.outputs
            (pairs-if Elsewhere Apart (λ (_ : Output). Unit {0}) (outputs_sent p g) (λ x y _ _ w z _. w z)
            (λ _ _. tt) (sent-elsewhere p sound.lawful g))
            (λ u n o k z q. let w = old_below r f g o u top refl refl (i.from o (inl k)) (sent-out p g u n)
            (sym z) in
            omega arith) i.apart;
        over = λ h n. each-put-all (λ (o : Output). h.actuator ≡ o.actuator → h.timestamp < o.timestamp)
            output_time (outputs_sent p g) s.outputs
            (λ u k z. old_below r f g h u top refl refl (i.from h (inr n)) (sent-out p g u k) z) (i.over h n);
        falls = i.falls;
      }
  outs (deliver {s} d os h r) =
      let i = outs r in
      let o : Output = output_of d in
      record {
        from = λ u n. elim n [
          | inl k ↦ i.from u (inl (in-out h.without u k))
          | inr (inl e) ↦ i.from u (inl (rw e (out-there h.without)))
          | inr (inr k) ↦ i.from u (inr k)
        ];
        to = λ u n. elim (i.to u n) [
          | inl k ↦ elim (out-in h.without u k) [ inl e ↦ inr (inl e) | inr w ↦ inl w ]
          | inr k ↦ inr (inr k)
        ];
        apart = out-pairs Apart h.without i.apart;
        over = each-cons (λ (h : Output). Each (λ (u : Output). h.actuator ≡ u.actuator →
            h.timestamp < u.timestamp) os) o (gone r)
            (λ u n e. let w : o.timestamp ≡ u.timestamp → ⊥ = out-each Apart apart-back h.without i.apart u n
            e in omega (arith, h.least u (in-out h.without u n)))
            (λ g n u k. i.over g n u (in-out h.without u k));
        falls = ((λ g n e. i.over g n o (out-there h.without) (sym e)), i.falls);
      }
  outs (close r) = outs r
