-- What the times of a sound line say of its paths.
use Rattle.std.proofs.Common.{◌≡◌, ℕ, zero, suc, ◌+◌, ◌<◌, ◌≤◌, Bool, true, false, cond, eqb, ◌⊎◌, length, pos, ◌+ℤ◌, ◌-ℤ◌, ◌≤ℤ◌, Some, None, Option, sym, refl, ap, ◌∙◌, subst, inl, inr, add_assoc, arith}
use Rattle.std.proofs.lemmas.Bool.{cases_eq, cases_Bool, eq-eqb, eqb-true, true≢false}
use Rattle.std.proofs.lemmas.Int.{ints}
use Rattle.line.specs.Plan.{Plan, Leads, delay, lateness, feed}
use Rattle.line.specs.Paths.{Path, hop, via, Exit, on, From, Least, Approach}
use Rattle.line.specs.Times.{Line, Sound}
use Rattle.line.specs.declared.parts.Source.TheVariants.{Sensor, Outlet}
use Rattle.line.specs.declared.parts.Sink.TheVariants.{Inlet}
use Rattle.runs.specs.Safe.{Reach}
use Rattle.runs.proofs.Wiring.{proper, one-sink, feeds}

-- joining paths -----------------------------------------------------------------

pub join : (p : Plan) {b c a m k : ℕ} → Path p b c m → Path p c a k → Path p b a (m + k)
join p (hop o i e) q = via o i e q
join p {a = a} {k = k} (via {b = b} {n = n} o i e r) q =
    subst (λ j. Path p b a j) (sym (add_assoc (delay p b o) n k)) (via o i e (join p r q))

pub front : (p : Plan) {b c a k : ℕ} (o i : ℕ) → Leads p (Outlet b o) (Inlet c i) → Reach p c a k →
    Path p b a (delay p b o + k)
front p {b} {c} {a} {k} o i e (inl h) =
    let z : delay p b o + k ≡ delay p b o = omega (arith, h.1) in
    subst (λ j. Path p b a j) (sym z) (subst (λ x. Path p b x (delay p b o)) h.0 (hop o i e))
front p o i e (inr q) = via o i e q

pub back : (p : Plan) {c b a k : ℕ} (o i : ℕ) → Leads p (Outlet b o) (Inlet a i) → Reach p c b k →
    Path p c a (k + delay p b o)
back p {c} {b} {a} {k} o i e (inl h) =
    let z : delay p b o ≡ k + delay p b o = omega (arith, h.1) in
    subst (λ j. Path p c a j) z (subst (λ x. Path p x a (delay p b o)) (sym h.0) (hop o i e))
back p o i e (inr r) = join p r (hop o i e)

exit_by : (p : Plan) {b a k m : ℕ} → Path p b a k → Exit p a m → Exit p b (k + m)
exit_by p (hop o i e) x = on o i e x
exit_by p {m = m} (via {b = b} {n = n} o i e r) x =
    subst (λ j. Exit p b j) (sym (add_assoc (delay p b o) n m)) (on o i e (exit_by p r x))

-- counting --------------------------------------------------------------------

count : (ℕ → Bool) → ℕ → ℕ
count f zero = 0
count f (suc m) = cond (f m) 1 0 + count f m

-- as far as a bound below which the test f holds only where g does
count-lt : (f g : ℕ → Bool) (n : ℕ) → ((c : ℕ) → c < n → f c ≡ true → g c ≡ true) → (b : ℕ) → f b ≡ false →
    g b ≡ true → b < n →
    (m : ℕ) → m ≤ n → (count f m ≤ count g m) × (b < m → count f m < count g m)
unfolding count
count-lt f g n h b p q l zero k = (omega arith, λ z. absurd (omega arith))
count-lt f g n h b p q l (suc m) k =
    let i = count-lt f g n h b p q l m (omega arith) in
    elim (cases_eq m b) [
      | inl e ↦ rw (ap f e ∙ p, ap g e ∙ q) (omega (arith, i.0), λ z. omega (arith, i.0))
      | inr e ↦ elim (cases_Bool (f m)) [
        | inl z ↦ rw (z, h m (omega arith) z) (omega (arith, i.0), λ w. let j = i.1 (omega arith) in omega arith)
        | inr z ↦ rw z (omega (arith, i.0), λ w. let j = i.1 (omega arith) in omega arith)
      ]
    ]

abbrev is_zero : Option ℕ → Bool
is_zero None = false
is_zero (Some m) = eqb m 0

zero-some : (v : Option ℕ) → is_zero v ≡ true → v ≡ Some 0
zero-some None e = absurd (true≢false (sym e))
zero-some (Some m) e = ap Some (eqb-true m 0 e)

-- the times ---------------------------------------------------------------------

module _ (l : Line) (sound : Sound l) where
  abbrev pub size : ℕ
  size = length l.plan.actors

  pub from-inside : {b a k : ℕ} → Path l.plan b a k → b < size
  from-inside (hop o i e) = (proper l.plan sound.lawful e).source.0
  from-inside (via o i e r) = (proper l.plan sound.lawful e).source.0

  pub to_inside : {b a k : ℕ} → Path l.plan b a k → a < size
  to_inside (hop o i e) = (proper l.plan sound.lawful e).sink.0
  to_inside (via o i e r) = to_inside r

  -- a deadline is at most the way to another actor and on from there
  pub nearer : {b a k : ℕ} → Path l.plan b a k → l.deadline b ≤ k + l.deadline a
  nearer {b} {a} r = (sound.deadlines b (from-inside r)).1 _
      (exit_by l.plan r (sound.deadlines a (to_inside r)).0)

  -- a cycle takes time
  pub no-zero-loop : {a k : ℕ} → Path l.plan a a k → 0 < k
  no-zero-loop {a} {k = zero} r = absurd (sound.lawful.moving a (from-inside r, r))
  no-zero-loop {a} {k = suc k} r = omega arith

  -- the distance is a path's sum, and at most each path's
  pub measured : {b a k : ℕ} → Path l.plan b a k → (m : ℕ) × (l.distance b a ≡ Some m) × (m ≤ k)
  measured {b} {a} {k} r = go (l.distance b a) refl (sound.distances b a (from-inside r) (to_inside r))
    where
      go : (d : Option ℕ) → l.distance b a ≡ d → Least (Path l.plan b a) d →
          (m : ℕ) × (l.distance b a ≡ Some m) × (m ≤ k)
      go None e h = absurd (h k r)
      go (Some m) e h = (m, e, h.1 k r)

  pub measure : (b a m : ℕ) → b < size → a < size → l.distance b a ≡ Some m → Path l.plan b a m
  measure b a m i j e = (subst (Least (Path l.plan b a)) e (sound.distances b a i j)).0

  -- a sensor's lateness is at most the wait of an actor and the way to it
  approach : (s b i a k : ℕ) → Leads l.plan (Sensor s) (Inlet b i) → Reach l.plan b a k →
      (d : ℕ) × Approach l.plan s a d × (d ≤ k)
  approach s b i a k e r = go (cases_eq a b) r
    where
      go : (a ≡ b) ⊎ (a ≡ b → ⊥) → Reach l.plan b a k → (d : ℕ) × Approach l.plan s a d × (d ≤ k)
      go (inl q) r = (0, ((b, i, e, inl (q, refl)), λ n f. omega arith), omega arith)
      go (inr q) (inl h) = absurd (q (sym h.0))
      go (inr q) (inr r) =
          let m = measured r in (
            m.0,
            (
              (b, i, e, inr (measure b a m.0 (from-inside r) (to_inside r) m.1)),
              λ n f. least n m.0
                  m.1 f,
            ),
            m.2,
          )
        where
          least : (n d : ℕ) → l.distance b a ≡ Some d → From l.plan s a n → d ≤ n
          least n d z f =
              let same : Inlet f.0 f.1 ≡ Inlet b i = one-sink l.plan sound.lawful (Sensor s) _ _
              f.2 e in
              let at : f.0 ≡ b = cc in
              elim f.3 [
                | inl h ↦ absurd (q (h.0 ∙ at))
                | inr w ↦ let m = measured (subst (λ c. Path l.plan c a n) at w) in let u : m.0 ≡ d = cc m.1 in
                    omega (arith, m.2)
              ]

  pub waits : (s b i a k : ℕ) → s < length l.plan.sensors → a < size → feed l.plan s ≡ Some (Inlet b i) →
      Reach l.plan b a k →
      pos (lateness l.plan s) ≤ℤ (l.wait a +ℤ pos k)
  waits s b i a k x j e r =
      let h = approach s b i a k (feeds l.plan sound.lawful s (Inlet b i) e) r in
      let w = (sound.waits a j).1 (pos (lateness l.plan s) -ℤ pos h.0) (s, h.0, x, h.1, refl) in
      let z = h.2 in omega (arith, ints)

  -- how many actors reach an actor at no delay: it rises along each channel that adds none
  pub rank : ℕ → ℕ
  rank a = count (λ c. is_zero (l.distance c a)) size

  pub rank_rises : {b a k : ℕ} → Path l.plan b a k → k ≡ 0 → rank b < rank a
  unfolding rank
  rank_rises {b} {a} {k} r z = (count-lt (λ c. is_zero (l.distance c b)) (λ c. is_zero (l.distance c a)) size
      (λ c i e. zeroes (join l.plan (measure c b 0 i (from-inside r) (zero-some _ e)) r) (omega arith)) b
      (elim (cases_Bool (is_zero (l.distance b b))) [
        | inl e ↦ absurd (let q = no-zero-loop (measure b b 0 (from-inside r) (from-inside r) (zero-some _ e)) in
            omega arith)
        | inr e ↦ e
      ])
      (zeroes r z) (from-inside r) size (omega arith)).1 (from-inside r)
    where
      zeroes : {c a j : ℕ} → Path l.plan c a j → j ≡ 0 → is_zero (l.distance c a) ≡ true
      zeroes r z = let m = measured r in rw m.1 (eq-eqb m.0 0 (omega (arith, m.2)))
