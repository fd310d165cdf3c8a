-- The sample line is sound: its plan keeps the rules, and its distances, deadlines and waits are those of its paths.
use Rattle.std.proofs.Common.{◌≡◌, ℕ, zero, suc, ◌+◌, ◌*◌, ◌<◌, ◌≤◌, ◌⊎◌, ℤ, pos, negsuc, ◌-ℤ◌, ◌≤ℤ◌, sym, refl, ap, ◌∙◌, subst, inl, inr, arith}
use Rattle.std.proofs.lemmas.Int.{ints}
use Rattle.line.specs.Plan.{Leads, delay, lateness, actor_of}
use Rattle.line.specs.Paths.{Path, hop, via, Exit, out, on, From, Distance, Deadline, Approach, Slack, Wait}
use Rattle.line.specs.Rules.{Lawful, Proper, Possible, longest, channel_of, weight, Misplaced, Doubled}
use Rattle.line.specs.Times.{Sound}
use Rattle.line.specs.declared.parts.Kind.{Kind}
use Rattle.line.specs.declared.parts.Source.TheVariants.{Sensor, Outlet}
use Rattle.line.specs.declared.parts.Sink.{Sink}
use Rattle.line.specs.declared.parts.Sink.TheVariants.{Inlet, Actuator}
use Rattle.line.specs.declared.parts.Channel.{Channel}
use Rattle.runs.specs.Lists.{Each}
use Rattle.runs.specs.Sample.{sample_plan, sample_line}

-- numbers below two, three and five ---------------------------------------------------------

two : (P : ℕ → Type 0) → P 0 → P 1 → (a : ℕ) → a < 2 → P a
two P x y zero l = x
two P x y (suc zero) l = y
two P x y (suc (suc a)) l = absurd (omega arith)

three : (P : ℕ → Type 0) → P 0 → P 1 → P 2 → (a : ℕ) → a < 3 → P a
three P x y z zero l = x
three P x y z (suc zero) l = y
three P x y z (suc (suc zero)) l = z
three P x y z (suc (suc (suc a))) l = absurd (omega arith)

five : (P : ℕ → Type 0) → P 0 → P 1 → P 2 → P 3 → P 4 → (a : ℕ) → a < 5 → P a
five P x y z w v zero l = x
five P x y z w v (suc zero) l = y
five P x y z w v (suc (suc zero)) l = z
five P x y z w v (suc (suc (suc zero))) l = w
five P x y z w v (suc (suc (suc (suc zero)))) l = v
five P x y z w v (suc (suc (suc (suc (suc a))))) l = absurd (omega arith)

-- channels ------------------------------------------------------------------------------------

-- a number for each sink
abbrev sink_number : Sink → ℕ
sink_number (Inlet a i) = 4 * a + i
sink_number (Actuator q) = 100 + q

sources-differ : (s a o : ℕ) → Sensor s ≡ Outlet a o → ⊥
sources-differ s a o e = let z : ◌≡◌ {A = ℕ} 0 1 = cc in omega arith

sinks-differ : (a i q : ℕ) → Inlet a i ≡ Actuator q → ⊥
sinks-differ a i q e = let z : ◌≡◌ {A = ℕ} 0 1 = cc in omega arith

-- where the outlets lead
inner : (b o c i : ℕ) → Leads sample_plan (Outlet b o) (Inlet c i) →
    ((b ≡ 0) × (c ≡ 1) × (delay sample_plan b o ≡ 0)) ⊎ ((b ≡ 1) × (c ≡ 2) × (delay sample_plan b o ≡ 500))
inner b o c i (inl e) = absurd (sources-differ _ _ _ (sym (ap (λ (c : Channel). c.source) e)))
inner b o c i (inr (inl e)) = absurd (sources-differ _ _ _ (sym (ap (λ (c : Channel). c.source) e)))
inner b o c i (inr (inr (inl e))) =
    let s = ap (λ (c : Channel). c.source) e in
    let k = ap (λ (c : Channel). c.sink) e in
    let x : b ≡ 0 = cc in
    inl (x, cc, ap (λ b. delay sample_plan b o) x)
inner b o c i (inr (inr (inr (inl e)))) =
    let s = ap (λ (c : Channel). c.source) e in
    let k = ap (λ (c : Channel). c.sink) e in
    let x : b ≡ 1 = cc in
    inr (x, cc, ap (λ b. delay sample_plan b o) x)
inner b o c i (inr (inr (inr (inr (inl e))))) = absurd (sinks-differ _ _ _ (ap (λ (c : Channel). c.sink) e))
inner b o c i (inr (inr (inr (inr (inr m))))) = absurd m

outer : (b o q : ℕ) → Leads sample_plan (Outlet b o) (Actuator q) → (b ≡ 2) × (delay sample_plan b o ≡ 0)
outer b o q (inl e) = absurd (sources-differ _ _ _ (sym (ap (λ (c : Channel). c.source) e)))
outer b o q (inr (inl e)) = absurd (sources-differ _ _ _ (sym (ap (λ (c : Channel). c.source) e)))
outer b o q (inr (inr (inl e))) = absurd (sinks-differ _ _ _ (sym (ap (λ (c : Channel). c.sink) e)))
outer b o q (inr (inr (inr (inl e)))) = absurd (sinks-differ _ _ _ (sym (ap (λ (c : Channel). c.sink) e)))
outer b o q (inr (inr (inr (inr (inl e))))) =
    let s = ap (λ (c : Channel). c.source) e in
    let x : b ≡ 2 = cc in (x, ap (λ b. delay sample_plan b o) x)
outer b o q (inr (inr (inr (inr (inr m))))) = absurd m

fed : (s b i : ℕ) → Leads sample_plan (Sensor s) (Inlet b i) → b ≡ 0
fed s b i (inl e) = let k = ap (λ (c : Channel). c.sink) e in cc
fed s b i (inr (inl e)) = let k = ap (λ (c : Channel). c.sink) e in cc
fed s b i (inr (inr (inl e))) = absurd (sources-differ _ _ _ (ap (λ (c : Channel). c.source) e))
fed s b i (inr (inr (inr (inl e)))) = absurd (sources-differ _ _ _ (ap (λ (c : Channel). c.source) e))
fed s b i (inr (inr (inr (inr (inl e))))) = absurd (sources-differ _ _ _ (ap (λ (c : Channel). c.source) e))
fed s b i (inr (inr (inr (inr (inr m))))) = absurd m

-- paths ----------------------------------------------------------------------------------------

ways : {b a n : ℕ} → Path sample_plan b a n →
    ((b ≡ 0) × (a ≡ 1) × (n ≡ 0)) ⊎ (((b ≡ 0) × (a ≡ 2) × (n ≡ 500)) ⊎ ((b ≡ 1) × (a ≡ 2) × (n ≡ 500)))
ways (hop {b} {a} o i e) = elim (inner b o a i e) [ inl h ↦ inl h | inr h ↦ inr (inr h) ]
ways (via {b} {c} {a} {n} o i e r) = elim (inner b o c i e) [
  | inl h ↦ elim (ways r) [
    | inl w ↦ absurd (omega (arith, h.1, w.0))
    | inr (inl w) ↦ absurd (omega (arith, h.1, w.0))
    | inr (inr w) ↦ inr (inl (h.0, w.1, omega (arith, h.2, w.2)))
  ]
  | inr h ↦ elim (ways r) [
    | inl w ↦ absurd (omega (arith, h.1, w.0))
    | inr (inl w) ↦ absurd (omega (arith, h.1, w.0))
    | inr (inr w) ↦ absurd (omega (arith, h.1, w.0))
  ]
]

exits : {b n : ℕ} → Exit sample_plan b n → ((b ≡ 0) × (n ≡ 500)) ⊎ (((b ≡ 1) × (n ≡ 500)) ⊎ ((b ≡ 2) × (n ≡ 0)))
exits (out {b} o q e) = inr (inr (outer b o q e))
exits (on {b} {c} {n} o i e x) = elim (inner b o c i e) [
  | inl h ↦ elim (exits x) [
    | inl w ↦ absurd (omega (arith, h.1, w.0))
    | inr (inl w) ↦ inl (h.0, omega (arith, h.2, w.1))
    | inr (inr w) ↦ absurd (omega (arith, h.1, w.0))
  ]
  | inr h ↦ elim (exits x) [
    | inl w ↦ absurd (omega (arith, h.1, w.0))
    | inr (inl w) ↦ absurd (omega (arith, h.1, w.0))
    | inr (inr w) ↦ inr (inl (h.0, omega (arith, h.2, w.1)))
  ]
]

froms : (s a n : ℕ) → From sample_plan s a n → ((a ≡ 0) × (n ≡ 0)) ⊎ (((a ≡ 1) × (n ≡ 0)) ⊎ ((a ≡ 2) × (n ≡ 500)))
froms s a n f =
    let b = fed s f.0 f.1 f.2 in
    elim f.3 [
      | inl h ↦ inl (h.0 ∙ b, h.1)
      | inr r ↦ elim (ways r) [
        | inl w ↦ inr (inl (w.1, w.2))
        | inr (inl w) ↦ inr (inr (w.1, w.2))
        | inr (inr w) ↦ absurd (omega (arith, w.0))
      ]
    ]

-- the channels by name
s0 : Leads sample_plan (Sensor 0) (Inlet 0 0)
s0 = inl refl

s1 : Leads sample_plan (Sensor 1) (Inlet 0 1)
s1 = inr (inl refl)

c01 : Leads sample_plan (Outlet 0 0) (Inlet 1 0)
c01 = inr (inr (inl refl))

c12 : Leads sample_plan (Outlet 1 0) (Inlet 2 0)
c12 = inr (inr (inr (inl refl)))

c2q : Leads sample_plan (Outlet 2 0) (Actuator 0)
c2q = inr (inr (inr (inr (inl refl))))

p01 : Path sample_plan 0 1 0
p01 = hop 0 0 c01

p12 : Path sample_plan 1 2 500
p12 = hop 0 0 c12

p02 : Path sample_plan 0 2 500
p02 = via 0 0 c01 p12

x2 : Exit sample_plan 2 0
x2 = out 0 0 c2q

x1 : Exit sample_plan 1 500
x1 = on 0 0 c12 x2

x0 : Exit sample_plan 0 500
x0 = on 0 0 c01 x1

-- the rules ------------------------------------------------------------------------------------

proper-all : Each (Proper sample_plan) sample_plan.channels
proper-all c (inl e) = subst (Proper sample_plan) (sym e)
    (record { source = omega arith; sink = (omega arith, omega arith); no_bypass = λ z. z })
proper-all c (inr (inl e)) = subst (Proper sample_plan) (sym e)
    (record { source = omega arith; sink = (omega arith, omega arith); no_bypass = λ z. z })
proper-all c (inr (inr (inl e))) = subst (Proper sample_plan) (sym e)
    (record { source = (omega arith, omega arith); sink = (omega arith, omega arith); no_bypass = λ z. z })
proper-all c (inr (inr (inr (inl e)))) = subst (Proper sample_plan) (sym e)
    (record { source = (omega arith, omega arith); sink = (omega arith, omega arith); no_bypass = λ z. z })
proper-all c (inr (inr (inr (inr (inl e))))) = subst (Proper sample_plan) (sym e)
    (record { source = (omega arith, omega arith); sink = omega arith; no_bypass = λ z. z })
proper-all c (inr (inr (inr (inr (inr m))))) = absurd m

abbrev weight_of : ℕ → ℕ
weight_of k = weight (channel_of sample_plan k).source

abbrev number_of : ℕ → ℕ
number_of k = sink_number (channel_of sample_plan k).sink

rising : (k : ℕ) → Misplaced sample_plan k → ⊥
rising k h = go h.0 (omega (arith, h.1, h.2)) (subst (λ k. weight_of k ≤ weight_of h.0) h.1 h.3)
  where
    go : (j : ℕ) → j < 4 → weight_of (j + 1) ≤ weight_of j → ⊥
    go zero l w = omega arith
    go (suc zero) l w = omega arith
    go (suc (suc zero)) l w = omega arith
    go (suc (suc (suc zero))) l w = omega arith
    go (suc (suc (suc (suc j)))) l w = omega arith

single : (k : ℕ) → Doubled sample_plan k → ⊥
single k h = five (λ k. (j : ℕ) → j < 5 → j < k → number_of j ≡ number_of k → ⊥)
    (five (λ j. j < 0 → number_of j ≡ number_of 0 → ⊥) (λ l e. omega arith) (λ l e. omega arith) (λ l e. omega arith)
    (λ l e. omega arith) (λ l e. omega arith))
    (five (λ j. j < 1 → number_of j ≡ number_of 1 → ⊥) (λ l e. omega arith) (λ l e. omega arith) (λ l e. omega arith)
    (λ l e. omega arith) (λ l e. omega arith))
    (five (λ j. j < 2 → number_of j ≡ number_of 2 → ⊥) (λ l e. omega arith) (λ l e. omega arith) (λ l e. omega arith)
    (λ l e. omega arith) (λ l e. omega arith))
    (five (λ j. j < 3 → number_of j ≡ number_of 3 → ⊥) (λ l e. omega arith) (λ l e. omega arith) (λ l e. omega arith)
    (λ l e. omega arith) (λ l e. omega arith))
    (five (λ j. j < 4 → number_of j ≡ number_of 4 → ⊥) (λ l e. omega arith) (λ l e. omega arith) (λ l e. omega arith)
    (λ l e. omega arith) (λ l e. omega arith))
    k h.2 h.0 (omega (arith, h.1, h.2)) h.1 (ap sink_number h.3)

lawful : Lawful sample_plan
lawful = record {
  sized = record {
    some_sensor = omega arith;
    few_sensors = omega arith;
    some_actor = omega arith;
    few_actors = omega arith;
    some_actuator = omega arith;
    few_actuators = omega arith;
    some_channel = omega arith;
    few_channels =
        omega arith;
  };
  ranged = record {
    latenesses = two (λ s. lateness sample_plan s ≤ longest) (omega arith) (omega arith);
    actors = three (λ a. Possible (actor_of sample_plan a)) (plain 0 (omega arith)) (plain 500 (omega arith))
        (plain 0 (omega arith));
    channels = proper-all;
  };
  rising = rising;
  single = single;
  feeding = λ s h. two (λ s. ((y : Sink) → Leads sample_plan (Sensor s) y → ⊥) → ⊥) (λ f. f _ s0)
      (λ f. f _ s1) s h.0 h.1;
  fed = λ q h. h.1 (Outlet 2 0) (subst (λ q. Leads sample_plan (Outlet 2 0) (Actuator q)) (omega (arith, h.0))
      c2q);
  live = λ a h. three (λ a. ((s n : ℕ) → From sample_plan s a n → ⊥) ⊎ ((n : ℕ) → Exit sample_plan a n → ⊥) → ⊥)
      (λ k. elim k [ inl f ↦ f 0 0 (0, 0, s0, inl (refl, refl)) | inr f ↦ f 500 x0 ])
      (λ k. elim k [ inl f ↦ f 0 0 (0, 0, s0, inr p01) | inr f ↦ f 500 x1 ])
      (λ k. elim k [ inl f ↦ f 0 500 (0, 0, s0, inr p02) | inr f ↦ f 0 x2 ]) a h.0 h.1;
  moving = λ a h. elim (ways h.1) [
    | inl w ↦ omega (arith, w.0, w.1)
    | inr (inl w) ↦ omega (arith, w.0, w.1)
    | inr (inr w) ↦ omega (arith, w.0, w.1)
  ];
}
  where
    plain : {k : Kind} (d : ℕ) → d ≤ longest → Possible (record { kind = k; parameter = pos 0; delay = d })
    plain d l = record { number = (omega (arith, ints), omega (arith, ints)); parameter = λ _. refl; delay = l }

-- the times ------------------------------------------------------------------------------------

far : {b a n : ℕ} → Path sample_plan b a n →
    (b < a) × (a < 3) × ((a ≡ 1 → n ≡ 0) × (a ≡ 2 → n ≡ 500))
far r = elim (ways r) [
  | inl w ↦ (omega (arith, w), omega (arith, w), ((λ e. w.2), (λ e. absurd (omega (arith, w.1)))))
  | inr (inl w) ↦ (omega (arith, w), omega (arith, w), ((λ e. absurd (omega (arith, w.1))), (λ e. w.2)))
  | inr (inr w) ↦ (omega (arith, w), omega (arith, w), ((λ e. absurd (omega (arith, w.1))), (λ e. w.2)))
]

no_way : (b a : ℕ) → a ≤ b → (n : ℕ) → Path sample_plan b a n → ⊥
no_way b a l n r = let w = far r in omega (arith, w.0)

distances : (b a : ℕ) → b < 3 → a < 3 → Distance sample_plan b a (sample_line.distance b a)
distances b a i j = three (λ b. (a : ℕ) → a < 3 → Distance sample_plan b a (sample_line.distance b a))
    (three (λ a. Distance sample_plan 0 a (sample_line.distance 0 a)) (no_way 0 0 (omega arith))
    (p01, λ n r. omega arith) (p02, λ n r. let w = (far r).2.1 refl in omega arith))
    (three (λ a. Distance sample_plan 1 a (sample_line.distance 1 a)) (no_way 1 0 (omega arith))
    (no_way 1 1 (omega arith))
    (p12, λ n r. let w = (far r).2.1 refl in omega arith))
    (three (λ a. Distance sample_plan 2 a (sample_line.distance 2 a)) (no_way 2 0 (omega arith))
    (no_way 2 1 (omega arith)) (no_way 2 2 (omega arith)))
    b i a j

deadlines : (b : ℕ) → b < 3 → Deadline sample_plan b (sample_line.deadline b)
deadlines b i = three (λ b. Deadline sample_plan b (sample_line.deadline b))
    (x0, λ n x. let w = exits x in omega arith) (x1, λ n x. let w = exits x in omega arith) (x2, λ n x. omega arith)
    b i

late : (s : ℕ) → s < 2 → lateness sample_plan s ≤ 60
late = two (λ s. lateness sample_plan s ≤ 60) (omega arith) (omega arith)

nearest : (a d : ℕ) → From sample_plan 0 a d → Approach sample_plan 0 a d
nearest a d f = (f, λ n g. let u = froms 0 a d f in let w = froms 0 a n g in omega arith)

most : (a : ℕ) (w : ℤ) →
    ((s d : ℕ) → s < 2 → From sample_plan s a d → (pos (lateness sample_plan s) -ℤ pos d) ≤ℤ w) → (v : ℤ) →
    Slack sample_plan a v → v ≤ℤ w
most a w h v k = subst (λ v. v ≤ℤ w) (sym k.4) (h k.0 k.1 k.2 k.3.0)

waits : (a : ℕ) → a < 3 → Wait sample_plan a (sample_line.wait a)
waits a i = three (λ a. Wait sample_plan a (sample_line.wait a)) (
  (0, 0, omega arith, nearest 0 0 (0, 0, s0, inl (refl, refl)), refl),
  most 0 (pos 60) (λ s d l f. let u = late s l in omega (arith, ints)),
) (
  (0, 0, omega arith, nearest 1 0 (0, 0, s0, inr p01), refl),
  most 1 (pos 60) (λ s d l f. let u = late s l in omega (arith, ints)),
) (
  (0, 500, omega arith, nearest 2 500 (0, 0, s0, inr p02), refl),
  most 2 (negsuc 439) (λ s d l f. let u = late s l in let w = froms s 2 d f in omega (arith, ints)),
)
    a i

pub sample-sound : Sound sample_line
sample-sound = record { lawful = lawful; distances = distances; deadlines = deadlines; waits = waits }
