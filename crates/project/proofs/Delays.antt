-- From the tables to the distances, deadlines and waits of a lawful plan.
use Rattle.std.proofs.Common.{◌≡◌, ℕ, zero, suc, ◌+◌, ◌-◌, ◌<◌, ◌≤◌, Bool, true, false, cond, ◌⊎◌, List, length, ℤ, pos, ◌-ℤ◌, ◌≤ℤ◌, Some, None, Option, unwrap_or, sym, refl, ap, ◌∙◌, subst, inl, inr, ⊎_elim, add-one, arith}
use Rattle.std.proofs.lemmas.Int.{ints}
use Rattle.std.proofs.lemmas.Bool.{cases_eq, cases_lt, eq-eqb, ne_eqb, false≢true}
use Rattle.std.specs.Option.{option_map}
use Rattle.line.specs.Plan.{Plan, Leads, lateness}
use Rattle.line.specs.Paths.{Path, From, Least, Approach, Wait}
use Rattle.line.specs.Rules.{Ranged, Misplaced, Severed, Instant, channel_of, no_channel, weight}
use Rattle.line.specs.declared.parts.Source.{Source}
use Rattle.line.specs.declared.parts.Source.TheVariants.{Sensor, Outlet}
use Rattle.line.specs.declared.parts.Sink.{Sink}
use Rattle.line.specs.declared.parts.Sink.TheVariants.{Inlet, Actuator}
use Rattle.line.specs.declared.parts.Channel.{Channel}
use Rattle.paths.specs.Paths.{at}
use Rattle.paths.specs.Least.{length_at}
use Rattle.paths.specs.declared.span.Span.{Span}
use Rattle.project.specs.Tables.{places, exit, Far, Reach, Serves, SeveredBy, InstantBy}
use Rattle.project.specs.Waits.{gap, slack_of, Asks, Greatest}
use Rattle.project.proofs.Wired.{none≢some, at_in}

-- channels rise, so one source has one sink
module _ (p : Plan) (rising : (k : ℕ) → Misplaced p k → ⊥) where
  above : (i d : ℕ) → i + suc d < length p.channels → weight (channel_of p i).source < weight (channel_of p (i + suc d)).source
  above i zero h =
      let e : i + 1 ≡ suc i = add-one i in
      ⊎_elim (λ lt. lt) (λ ge. absurd (rising (i + 1) (i, refl, h, ge))) (cases_lt (weight (channel_of p i).source) (weight (channel_of p (i + 1)).source))
  above i (suc d) h =
      let j = i + suc d in
      let e : i + suc (suc d) ≡ i + suc d + 1 = omega arith in
      let low = above i d (omega arith) in
      let h' : i + suc d + 1 < length p.channels = omega arith in
      let up : weight (channel_of p j).source < weight (channel_of p (j + 1)).source =
      ⊎_elim (λ lt. lt) (λ ge. absurd (rising (j + 1) (j, refl, h', ge))) (cases_lt (weight (channel_of p j).source) (weight (channel_of p (j + 1)).source)) in
      subst (λ (k : ℕ). weight (channel_of p i).source < weight (channel_of p k).source) (sym e) (omega (arith, low, up))

  rises : (i j : ℕ) → i < j → j < length p.channels → (channel_of p i).source ≡ (channel_of p j).source → ⊥
  rises i j h hj e =
      let d = j - suc i in
      let k : i + suc d ≡ j = omega arith in
      let a = above i d (subst (λ (m : ℕ). m < length p.channels) (sym k) hj) in
      let s : weight (channel_of p (i + suc d)).source ≡ weight (channel_of p i).source = ap (λ m. weight (channel_of p m).source) k ∙ ap weight (sym e) in
      omega (arith, a, s)

  pub one-sink : (x : Source) (y z : Sink) → Leads p x y → Leads p x z → y ≡ z
  one-sink x y z m n =
      let a = at_in p.channels _ no_channel m in
      let b = at_in p.channels _ no_channel n in
      let i = a.0 in
      let j = b.0 in
      let same : (channel_of p a.0).source ≡ (channel_of p b.0).source = ap (λ (c : Channel). c.source) a.2 ∙ sym (ap (λ (c : Channel). c.source) b.2) in
      ⊎_elim
      (λ e. sym (ap (λ (c : Channel). c.sink) a.2) ∙ ap (λ k. (channel_of p k).sink) e ∙ ap (λ (c : Channel). c.sink) b.2)
      (λ ne. ⊎_elim (λ lt. absurd (rises i j lt b.1 same)) (λ ge. absurd (rises j i (omega (arith, ne)) a.1 (sym same))) (cases_lt i j))
      (cases_eq i j)

least_zero : (P : ℕ → Type 0) (v : Option ℕ) → Least P v → P 0 → v ≡ Some 0
least_zero P None l h = absurd (l 0 h)
least_zero P (Some m) l h = let e : m ≡ 0 = omega (arith, l.1 0 h) in ap Some e

pub instant-is : (p : Plan) → length p.actors ≤ 32 → (f : List Span) → Far p f → (a : ℕ) → (InstantBy p f a → Instant p a) × (Instant p a → InstantBy p f a)
instant-is p few f F a = (
  λ w. let ha : a < exit = omega (arith, w.0, few) in (w.0, (subst (Least (Path p a a)) w.1 (F.distances a a ha ha)).0),
  λ w. let ha : a < exit = omega (arith, w.0, few) in (w.0, least_zero (Path p a a) (length_at places f a a) (F.distances a a ha ha) w.1),
)

-- an actor of a plan with few actors is below the exit
module _ (p : Plan) (few : length p.actors ≤ 32) (ranged : Ranged p) where
  fed-below : (s b i : ℕ) → Leads p (Sensor s) (Inlet b i) → (s < length p.sensors) × (b < exit)
  fed-below s b i m = let c = ranged.channels _ m in (c.source, omega (arith, c.sink.0))

  -- flaws by the tables are flaws of the plan
  pub severed-is : (r : List Bool) → Reach p r → (a : ℕ) → (SeveredBy p r a → Severed p a) × (Severed p a → SeveredBy p r a)
  severed-is r R a = (
    λ w. let ha : a < exit = omega (arith, w.0) in (
      w.0,
      ⊎_elim
          (λ f. inl (λ s n h. f _ h.2 (⊎_elim (λ e. inl e.0) (λ q. inr ((R.paths h.0 a (fed-below s h.0 h.1 h.2).1 ha).1 (n, q))) h.3)))
          (λ e. inr (λ n x. false≢true (sym e ∙ (R.exits a ha).1 (n, x))))
          w.1,
    ),
    λ w. let ha : a < exit = omega (arith, w.0) in (
      w.0,
      ⊎_elim
          (λ f. inl (λ c m s. serving ha f c.source c.sink m s))
          (λ f. inr (not-true (at false places r a exit) (λ e. let x = (R.exits a ha).0 e in f x.0 x.1)))
          w.1,
    ),
  )
    where
      serving : a < exit → ((s n : ℕ) → From p s a n → ⊥) → (x : Source) (y : Sink) → Leads p x y → Serves r a x y → ⊥
      serving ha f (Sensor s) (Inlet b i) m v =
          ⊎_elim (λ e. f s 0 (b, i, m, inl (e, refl))) (λ e. let w = (R.paths b a (fed-below s b i m).1 ha).0 e in f s w.0 (b, i, m, inr w.1)) v
      serving ha f (Sensor s) (Actuator q) m v = v
      serving ha f (Outlet b o) (Inlet c i) m v = v
      serving ha f (Outlet b o) (Actuator q) m v = v

      not-true : (b : Bool) → (b ≡ true → ⊥) → b ≡ false
      not-true true f = absurd (f refl)
      not-true false f = refl

  -- the gap of the table is the least way on from the actor that a sensor feeds
  module _ (f : List Span) (F : Far p f) where
    Way : ℕ → ℕ → ℕ → Type 0
    Way b a n = ((a ≡ b) × (n ≡ 0)) ⊎ Path p b a n

    gap_is : (b a : ℕ) → b < exit → a < exit → Least (Way b a) (gap f b a)
    unfolding Way
    gap_is b a hb ha =
        ⊎_elim
        (λ e. subst (Least (Way b a)) (sym (ap (λ t. cond t (Some 0) (length_at places f b a)) (eq-eqb a b e))) (inl (e, refl), λ n w. omega arith))
        (λ ne. subst (Least (Way b a)) (sym (ap (λ t. cond t (Some 0) (length_at places f b a)) (ne_eqb a b ne)))
        (same (length_at places f b a) ne (F.distances b a hb ha)))
        (cases_eq a b)
      where
        same : (v : Option ℕ) → (a ≡ b → ⊥) → Least (Path p b a) v → Least (Way b a) v
        same None ne l = λ n w. ⊎_elim (λ e. ne e.0) (λ q. l n q) w
        same (Some m) ne l = (inr l.0, λ n w. ⊎_elim (λ e. absurd (ne e.0)) (λ q. l.1 n q) w)

    mapped-some : {A B : Type 0} (g : A → B) (v : Option A) (w : B) → option_map g v ≡ Some w → (d : A) × (v ≡ Some d) × (w ≡ g d)
    mapped-some g None w e = absurd (none≢some e)
    mapped-some g (Some d) w e = (d, refl, cc)

    -- a sensor's channel, with the gap behind it, asks for a wait
    Asked : ℕ → ℤ → Type 0
    Asked a w = (s : ℕ) × (b : ℕ) × (i : ℕ) × (d : ℕ) × Leads p (Sensor s) (Inlet b i) × (gap f b a ≡ Some d) × (w ≡ pos (lateness p s) -ℤ pos d)

    asked : (a : ℕ) (w : ℤ) (x : Source) (y : Sink) → Leads p x y → slack_of p f a x y ≡ Some w → Asked a w
    unfolding Asked
    asked a w (Sensor s) (Inlet b i) m e = let d = mapped-some (λ (k : ℕ). pos (lateness p s) -ℤ pos k) (gap f b a) w e in (s, b, i, d.0, m, d.1, d.2)
    asked a w (Sensor s) (Actuator q) m e = absurd (none≢some e)
    asked a w (Outlet c o) (Inlet b i) m e = absurd (none≢some e)
    asked a w (Outlet c o) (Actuator q) m e = absurd (none≢some e)

    -- a way on gives a gap no longer than it
    least-some : (P : ℕ → Type 0) (v : Option ℕ) (n : ℕ) → Least P v → P n → (d : ℕ) × (v ≡ Some d) × (d ≤ n)
    least-some P None n l h = absurd (l n h)
    least-some P (Some d) n l h = (d, refl, l.1 n h)

    asks : (a s b i n : ℕ) → a < exit → (m : Leads p (Sensor s) (Inlet b i)) → Way b a n
        → (d : ℕ) × (d ≤ n) × Asks p f a p.channels (pos (lateness p s) -ℤ pos d)
    asks a s b i n ha m w =
        let l = least-some (Way b a) (gap f b a) n (gap_is b a (fed-below s b i m).1 ha) w in
        (l.0, l.2, (record { source = Sensor s; sink = Inlet b i }, m, ap (option_map (λ (k : ℕ). pos (lateness p s) -ℤ pos k)) l.1))

    -- the number asked for is the sensor's lateness less its distance
    approach : ((k : ℕ) → Misplaced p k → ⊥) → (a s b i d : ℕ) → a < exit → Leads p (Sensor s) (Inlet b i) → gap f b a ≡ Some d → Approach p s a d
    unfolding Way
    approach rising a s b i d ha m e =
        let l = subst (Least (Way b a)) e (gap_is b a (fed-below s b i m).1 ha) in (
          (b, i, m, l.0),
          λ n h.
              let same : Inlet h.0 h.1 ≡ Inlet b i = one-sink p rising (Sensor s) _ _ h.2 m in
              let eb : h.0 ≡ b = cc in
              l.1 n (subst (λ (k : ℕ). Way k a n) eb h.3),
        )

    closer : (l d e : ℕ) (m : ℤ) → e ≤ d → (pos l -ℤ pos e) ≤ℤ m → (pos l -ℤ pos d) ≤ℤ m
    closer l d e m h w = omega (arith, ints)

    pub wait-is : ((k : ℕ) → Misplaced p k → ⊥) → (a : ℕ) → a < length p.actors → (Severed p a → ⊥) → (v : Option ℤ)
        → Greatest (Asks p f a p.channels) v → Wait p a (unwrap_or v (pos 0))
    unfolding Way Asked
    wait-is rising a h live None g =
        absurd (live (h, inl (λ s n w. let x = asks a s w.0 w.1 n (omega arith) w.2 w.3 in g _ x.2)))
    wait-is rising a h live (Some m) g =
        let ha : a < exit = omega arith in
        let c = g.0.0 in
        let w = asked a m c.source c.sink g.0.1 g.0.2 in (
          (w.0, w.3, (fed-below w.0 w.1 w.2 w.4).0, approach rising a w.0 w.1 w.2 w.3 ha w.4 w.5, w.6),
          λ v u.
              let q = u.3.0 in
              let x = asks a u.0 q.0 q.1 u.1 ha q.2 q.3 in
              subst (λ (z : ℤ). z ≤ℤ m) (sym u.4) (closer (lateness p u.0) u.1 x.0 m x.1 (g.1 _ x.2)),
        )
