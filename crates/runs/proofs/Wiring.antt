-- What the rules of a project give: each channel's ends, one channel from each source and to each sink.
use Rattle.std.proofs.Common.{◌≡◌, ℕ, zero, suc, ◌+◌, ◌-◌, ◌<◌, Bool, true, false, cond, eqb, List, [], ◌∷◌, length, Some, None, Option, sym, refl, ap, ◌∙◌, subst, inl, inr, arith}
use Rattle.std.proofs.lemmas.Bool.{cases_order, cases_lt, eqb-true, eq-eqb, and_parts, and_from, true≢false}
use Rattle.line.specs.Lists.{In}
use Rattle.line.specs.Plan.{Plan, Leads, wire, feed, end_of, same_source}
use Rattle.line.specs.Rules.{Lawful, Proper, weight, channel_of, no_channel}
use Rattle.line.specs.declared.parts.Source.{Source}
use Rattle.line.specs.declared.parts.Source.TheVariants.{Sensor, Outlet}
use Rattle.line.specs.declared.parts.Sink.{Sink}
use Rattle.line.specs.declared.parts.Sink.TheVariants.{Inlet, Actuator}
use Rattle.line.specs.declared.parts.Channel.{Channel}
use Rattle.runs.proofs.Lists.{place_of}

abbrev pub channel : Source → Sink → Channel
channel x y = record { source = x; sink = y }

channel-path : (c : Channel) (x : Source) (y : Sink) → c.source ≡ x → c.sink ≡ y → channel x y ≡ c
channel-path c x y p q i = record { source = sym p i; sink = sym q i }

same-is : (x y : Source) → same_source x y ≡ true → x ≡ y
same-is (Sensor m) (Sensor n) e = ap Sensor (eqb-true m n e)
same-is (Sensor m) (Outlet a o) e = absurd (true≢false (sym e))
same-is (Outlet a o) (Sensor n) e = absurd (true≢false (sym e))
same-is (Outlet a o) (Outlet b q) e =
    let h = and_parts (eqb a b) (eqb o q) e in
    let p = eqb-true a b h.0 in
    let r = eqb-true o q h.1 in cc

is_same : (x : Source) → same_source x x ≡ true
is_same (Sensor m) = eq-eqb m m refl
is_same (Outlet a o) = and_from _ _ (eq-eqb a a refl) (eq-eqb o o refl)

-- a channel that is found is there
found-step : (x : Source) (y : Sink) (c : Channel) (cs : List Channel) → (b : Bool) → same_source c.source x ≡ b →
    (end_of x cs ≡ Some y → In (channel x y) cs) → cond b (Some c.sink) (end_of x cs) ≡ Some y →
    In (channel x y) (c ∷ cs)
found-step x y c cs true e ih h = let q : c.sink ≡ y = cc in inl (channel-path c x y (same-is c.source x e) q)
found-step x y c cs false e ih h = inr (ih h)

pub found : (x : Source) (y : Sink) (cs : List Channel) → end_of x cs ≡ Some y → In (channel x y) cs
found x y [] h = let z : ◌≡◌ {A = ℕ} 0 1 = cc in absurd (omega arith)
found x y (c ∷ cs) h = found-step x y c cs (same_source c.source x) refl (found x y cs) h

-- and one that is there is found
lost-step : (x : Source) (y : Sink) (c : Channel) (cs : List Channel) → (b : Bool) → same_source c.source x ≡ b →
    (end_of x cs ≡ None → In (channel x y) cs → ⊥) → cond b (Some c.sink) (end_of x cs) ≡ None →
    In (channel x y) (c ∷ cs) → ⊥
lost-step x y c cs true e ih h m = let z : ◌≡◌ {A = ℕ} 0 1 = cc in omega arith
lost-step x y c cs false e ih h (inl p) =
    let q : same_source x x ≡ false = subst (λ (s : Source). same_source s x ≡ false)
    (sym (ap (λ (c : Channel). c.source) p)) e in
    true≢false (sym (is_same x) ∙ q)
lost-step x y c cs false e ih h (inr m) = ih h m

lost : (x : Source) (y : Sink) (cs : List Channel) → end_of x cs ≡ None → In (channel x y) cs → ⊥
lost x y [] h m = m
lost x y (c ∷ cs) h m = lost-step x y c cs (same_source c.source x) refl (lost x y cs) h m

module _ (p : Plan) (law : Lawful p) where
  pub proper : {x : Source} {y : Sink} → Leads p x y → Proper p (channel x y)
  proper {x} {y} m = law.ranged.channels (channel x y) m

  -- one source for each sink
  pub one-source : (x y : Source) (z : Sink) → Leads p x z → Leads p y z → x ≡ y
  one-source x y z m l =
      let i = place_of no_channel (channel x z) p.channels m in
      let j = place_of no_channel (channel y z) p.channels l in
      let e : (channel_of p i.0).sink ≡ (channel_of p j.0).sink =
      ap (λ (c : Channel). c.sink) i.2 ∙ ap (λ (c : Channel). c.sink) (sym j.2) in
      elim (cases_order i.0 j.0) [
        | inl q ↦ ap (λ (c : Channel). c.source) (sym i.2 ∙ ap (λ k. channel_of p k) q ∙ j.2)
        | inr (inl q) ↦ absurd (law.single j.0 (i.0, q, j.1, e))
        | inr (inr q) ↦ absurd (law.single i.0 (j.0, q, i.1, sym e))
      ]

  -- channels rise by the weight of their source
  rises : (j d : ℕ) → suc (j + d) < length p.channels → weight (channel_of p j).source < weight
      (channel_of p (suc (j + d))).source
  rises j d l = go d l
    where
      one : (k : ℕ) → suc k < length p.channels → weight (channel_of p k).source < weight
          (channel_of p (suc k)).source
      one k l = elim (cases_lt (weight (channel_of p k).source) (weight (channel_of p (suc k)).source)) [
        | inl q ↦ q
        | inr q ↦ absurd (law.rising (suc k) (k, omega arith, l, q))
      ]

      go : (d : ℕ) → suc (j + d) < length p.channels → weight (channel_of p j).source < weight
          (channel_of p (suc (j + d))).source
      go zero l = let e : j + 0 ≡ j = omega arith in rw e (one j (omega arith))
      go (suc d) l =
          let e : j + suc d ≡ suc (j + d) = omega arith in
          let h = go d (omega arith) in
          let k = one (suc (j + d)) (omega arith) in rw e (omega arith)

  rises-to : (j k : ℕ) → j < k → k < length p.channels → weight (channel_of p j).source < weight
      (channel_of p k).source
  rises-to j k l m = let e : suc (j + (k - suc j)) ≡ k = omega arith in rw e at (rises j (k - suc j) (omega arith))

  -- one sink for each source
  pub one-sink : (x : Source) (y z : Sink) → Leads p x y → Leads p x z → y ≡ z
  one-sink x y z m l =
      let i = place_of no_channel (channel x y) p.channels m in
      let j = place_of no_channel (channel x z) p.channels l in
      let u : weight (channel_of p i.0).source ≡ weight x = ap (λ (c : Channel). weight c.source) i.2 in
      let v : weight (channel_of p j.0).source ≡ weight x = ap (λ (c : Channel). weight c.source) j.2 in
      elim (cases_order i.0 j.0) [
        | inl q ↦ ap (λ (c : Channel). c.sink) (sym i.2 ∙ ap (λ k. channel_of p k) q ∙ j.2)
        | inr (inl q) ↦ absurd (let w = rises-to i.0 j.0 q j.1 in omega arith)
        | inr (inr q) ↦ absurd (let w = rises-to j.0 i.0 q i.1 in omega arith)
      ]

  pub leads : (a o : ℕ) (y : Sink) → wire p a o ≡ Some y → Leads p (Outlet a o) y
  leads a o y e = found (Outlet a o) y p.channels e

  pub feeds : (s : ℕ) (y : Sink) → feed p s ≡ Some y → Leads p (Sensor s) y
  feeds s y e = found (Sensor s) y p.channels e

  -- a sensor of the plan feeds an inlet
  pub feeds-inlet : (s : ℕ) → s < length p.sensors → (a : ℕ) × (i : ℕ) × (feed p s ≡ Some (Inlet a i))
  feeds-inlet s l = go (feed p s) refl
    where
      go : (k : Option Sink) → feed p s ≡ k → (a : ℕ) × (i : ℕ) × (feed p s ≡ Some (Inlet a i))
      go None e = absurd (law.feeding s (l, λ y m. lost (Sensor s) y p.channels e m))
      go (Some (Inlet a i)) e = (a, i, e)
      go (Some (Actuator q)) e = absurd ((proper (feeds s (Actuator q) e)).no_bypass tt)
