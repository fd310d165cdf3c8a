-- A closed runtime with nothing stacked and an event waiting can go on.
use Rattle.std.proofs.Common.{◌≡◌, ℕ, zero, suc, ◌+◌, ◌<◌, ◌≤◌, Bool, true, false, ltb, ◌⊎◌, List, [], ◌∷◌, length, pos, ◌+ℤ◌, is_some, Some, None, Option, sym, refl, ◌∙◌, subst, inl, inr, arith}
use lib.Signed.{le_z}
use Rattle.std.proofs.lemmas.Bool.{eq-eqb, cases_order, cases_lt, cases_eq, lt-ltb, lt-leb, and_left, not_from_true}
use Rattle.fault.specs.declared.Fault.{Fault}
use Rattle.fault.specs.declared.RunCause.TheVariants.{NoSuch, Nothing, Early, Behind, NotSooner, Full, Horizon}
use Rattle.line.specs.Lists.{In}
use Rattle.line.specs.Paths.{Path}
use Rattle.line.specs.Times.{Line, Sound}
use Rattle.runs.specs.Lists.{Each, keep, least}
use Rattle.banks.specs.Meaning.{Meaning}
use Rattle.runs.specs.State.{State, started, at_actor, event_time, aside, to_inlet, to_actuator, deadline_at}
use Rattle.runs.specs.State.{longest_delay}
use Rattle.runs.specs.Calls.{when, first_met, horizon, event_room, output_room, first_at, time_at, ready_at, natural}
use Rattle.runs.specs.Calls.{within, could_reach, event_actor, not_sooner, start_verdict, Startable, First, Ahead}
use Rattle.runs.specs.Calls.{Picked, PickAnswers}
use Rattle.runs.specs.Laws.{Blocked, Names}
use Rattle.runs.specs.declared.records.Event.{Event}
use Rattle.runs.specs.declared.records.Running.{Running}
use Rattle.runs.specs.declared.records.Answer.{Answer}
use Rattle.runs.specs.declared.records.Answer.TheVariants.{Done, Named, Fired, Wrote, Handed, Told, Refused}
use Rattle.runs.proofs.Lists.{each-cons, keep-in}
use Rattle.runs.proofs.Ways.{rank, rank_rises, measure}
use Rattle.runs.proofs.Accepted.{accepted, first_some, first-event, first-least, least-none, none-some}

-- the first by time and rank ----------------------------------------------------------

abbrev pub Before : {A : Type 0} (t r : A → ℕ) → A → A → Type 0
Before t r x y = (t x < t y) ⊎ ((t x ≡ t y) × (r x ≤ r y))

compare : {A : Type 0} (t r : A → ℕ) (x y : A) → Before t r x y ⊎ Before t r y x
compare t r x y = elim (cases_order (t x) (t y)) [
  | inl e ↦ elim (cases_lt (r x) (r y)) [ inl l ↦ inl (inr (e, omega arith)) | inr l ↦ inr (inr (sym e, l)) ]
  | inr (inl l) ↦ inl (inl l)
  | inr (inr l) ↦ inr (inl l)
]

pass : {A : Type 0} (t r : A → ℕ) (x y z : A) → Before t r x y → Before t r y z → Before t r x z
pass t r x y z (inl p) (inl q) = inl (omega arith)
pass t r x y z (inl p) (inr q) = inl (omega arith)
pass t r x y z (inr p) (inl q) = inl (omega arith)
pass t r x y z (inr p) (inr q) = inr (omega arith)

first_of : {A : Type 0} (t r : A → ℕ) (x : A) (xs : List A) →
    (m : A) × In m (x ∷ xs) × Each (λ (y : A). Before t r m y) (x ∷ xs)
first_of {A} t r x [] = (
  x,
  inl refl,
  each-cons (λ (y : A). Before t r x y) x [] (inr (refl, omega arith))
      (λ y m. absurd m),
)
first_of {A} t r x (y ∷ ys) = let h = first_of t r y ys in elim (compare t r x h.0) [
  | inl b ↦ (
    x,
    inl refl,
    each-cons (λ (z : A). Before t r x z) x (y ∷ ys) (inr (refl, omega arith))
        (λ z m. pass t r x h.0 z b (h.2 z m)),
  )
  | inr b ↦ (h.0, inr h.1, each-cons (λ (z : A). Before t r h.0 z) x (y ∷ ys) b h.2)
]

pub first-in : {A : Type 0} (t r : A → ℕ) (x : A) (xs : List A) → In x xs →
    (m : A) × In m xs × Each (λ (y : A). Before t r m y) xs
first-in t r x [] m = absurd m
first-in t r x (y ∷ ys) m = first_of t r y ys

-- only room and time are left ------------------------------------------------------------

rest : (b c d : Bool) (i j k : ℕ) → let v : Option Fault = first_met Horizon (when b i)
    (first_met Full (when c j) (first_met Full (when d k) None)) in
    (v ≡ None) ⊎ ((n : ℕ) × ((v ≡ Some (Fault.Run Full n)) ⊎ (v ≡ Some (Fault.Run Horizon n))))
rest true c d i j k = inr (i, inr refl)
rest false true d i j k = inr (j, inl refl)
rest false false true i j k = inr (k, inl refl)
rest false false false i j k = inl refl

-- the start checks where none of the first five is met
left : (o1 o2 o3 o4 o5 : Option ℕ) (b c d : Bool) (i j k : ℕ) → o1 ≡ None → o2 ≡ None → o3 ≡ None → o4 ≡ None →
    o5 ≡ None →
    let v : Option Fault = first_met NoSuch o1
    (first_met Nothing o2 (first_met Early o3 (first_met Behind o4 (first_met NotSooner o5
    (first_met Horizon (when b i) (first_met Full (when c j) (first_met Full (when d k) None))))))) in
    (v ≡ None) ⊎ ((n : ℕ) × ((v ≡ Some (Fault.Run Full n)) ⊎ (v ≡ Some (Fault.Run Horizon n))))
left o1 o2 o3 o4 o5 b c d i j k p q r s t = rw (p, q, r, s, t) (rest b c d i j k)

unmet-when : (b : Bool) (n : ℕ) → b ≡ false → when b n ≡ None
unmet-when b n e = rw e refl

least-empty : {A : Type 0} (f : A → ℕ) (test : A → Bool) (xs : List A) → Each (λ (x : A). test x ≡ false) xs →
    least f (keep test xs) ≡ None
least-empty f test [] h = refl
least-empty f test (x ∷ xs) h = rw (h x (inl refl)) (least-empty f test xs (λ y m. h y (inr m)))

outside : (v : Option ℕ) (u t : ℕ) → ((m : ℕ) → v ≡ Some m → t < u + m) → within v u t ≡ false
outside None u t h = refl
outside (Some m) u t h = lt-leb (u + m) t (h m refl)

some-time : (s : State) (e : Event) → In e s.events → is_some (first_at s e.actor) ≡ true
some-time s e m = go (first_at s e.actor) refl
  where
    go : (v : Option ℕ) → first_at s e.actor ≡ v → is_some v ≡ true
    go None q = absurd (least-none event_time (keep (at_actor e.actor) s.events) q e
        (keep-in (at_actor e.actor) s.events e (eq-eqb e.actor e.actor refl) m))
    go (Some t) q = refl

module _ (l : Line) (sound : Sound l) where
  -- of the earliest events, one whose actor the fewest reach at no delay: it can start, but for room and time
  pub free-or-blocked : (s : State) → s.taking ≡ false → s.stack ≡ [] →
      Each (λ (e : Event). e.actor < length l.plan.actors) s.events →
      (e : Event) → In e s.events → (a : ℕ) × (Startable l s a ⊎ Blocked l s a)
  free-or-blocked s shut empty inside e m =
      let a : ℕ = x.actor in
      let t : ℕ = time_at s a in (
        a,
        left _ _ _ _ _ (ltb horizon (t + longest_delay l.plan a))
            (ltb event_room (length (started s a t).events + aside to_inlet l.plan (started s a t).stack))
            (ltb output_room (length s.outputs + aside to_actuator l.plan (started s a t).stack)) horizon
            event_room output_room
            (unmet-when _ a (not_from_true _ (lt-ltb a (length l.plan.actors) (inside x h.1))))
            (unmet-when _ 0 (not_from_true _ (some-time s x h.1)))
            (unmet-when _ (natural (ready_at l a t))
            (and_left s.taking (le_z (pos s.clock) (pos t +ℤ l.wait a)) shut))
            (least-empty event_actor (could_reach l a t) s.events ahead)
            (top-none s.stack (deadline_at l a t) empty),
      )
    where
      top-none : (fs : List Running) (d : ℕ) → fs ≡ [] → not_sooner l fs d ≡ None
      top-none fs d e = rw e refl

      rank_of : Event → ℕ
      rank_of e = rank l sound e.actor

      h : (m : Event) × In m s.events × Each (λ (y : Event). Before event_time rank_of m y) s.events
      h = first-in event_time rank_of e s.events m

      x : Event
      x = h.0

      when-is : time_at s x.actor ≡ x.timestamp
      when-is =
          let q = first_some s x.actor (some-time s x h.1) in
          let y = first-event s x.actor (time_at s x.actor) q in
          omega (arith, first-least s x.actor (time_at s x.actor) q x h.1 refl, y.3, h.2 y.0 y.1)

      later : (y : Event) → In y s.events → (k : ℕ) → Path l.plan y.actor x.actor k →
          x.timestamp < y.timestamp + k
      later y n k r = elim (cases_eq k 0) [
        | inl z ↦ omega (arith, h.2 y n, rank_rises l sound r z)
        | inr z ↦ omega (arith, h.2 y n)
      ]

      ahead : Each (λ (y : Event). could_reach l x.actor (time_at s x.actor) y ≡ false) s.events
      ahead y n = outside (l.distance y.actor x.actor) y.timestamp (time_at s x.actor)
          (λ k q. omega (
            arith,
            when-is,
            later y n k (measure l sound y.actor x.actor k (inside y n) (inside x h.1) q),
          ))

-- pick ------------------------------------------------------------------------------------

ahead-or : (d t a e u b : ℕ) → First d t a e u b ⊎ First e u b d t a
ahead-or d t a e u b = elim (cases_order d e) [
  | inl p ↦ elim (cases_order t u) [
    | inl q ↦ elim (cases_lt b a) [
      | inl w ↦ inr (inr (sym p, inr (sym q, omega arith)))
      | inr w ↦ inl (inr (p, inr (q, w)))
    ]
    | inr (inl q) ↦ inl (inr (p, inl q))
    | inr (inr q) ↦ inr (inr (sym p, inl q))
  ]
  | inr (inl p) ↦ inl (inl p)
  | inr (inr p) ↦ inr (inl p)
]

ahead-pass : (d t a e u b f v c : ℕ) → First d t a e u b → First e u b f v c → First d t a f v c
ahead-pass d t a e u b f v c (inl p) (inl q) = inl (omega arith)
ahead-pass d t a e u b f v c (inl p) (inr q) = inl (omega (arith, q.0))
ahead-pass d t a e u b f v c (inr p) (inl q) = inl (omega (arith, p.0))
ahead-pass d t a e u b f v c (inr (p, inl w)) (inr (q, inl z)) = inr (p ∙ q, inl (omega arith))
ahead-pass d t a e u b f v c (inr (p, inl w)) (inr (q, inr z)) = inr (p ∙ q, inl (omega (arith, z.0)))
ahead-pass d t a e u b f v c (inr (p, inr w)) (inr (q, inl z)) = inr (p ∙ q, inl (omega (arith, w.0)))
ahead-pass d t a e u b f v c (inr (p, inr w)) (inr (q, inr z)) =
    inr (p ∙ q, inr (w.0 ∙ z.0, omega (arith, w.1, z.1)))

is-startable : (l : Line) (s : State) (a : ℕ) → Startable l s a ⊎ (Startable l s a → ⊥)
is-startable l s a = go (start_verdict l s a) refl
  where
    go : (v : Option Fault) → start_verdict l s a ≡ v → Startable l s a ⊎ (Startable l s a → ⊥)
    go None e = inl e
    go (Some f) e = inr (λ q. none-some f (sym q ∙ e))

module _ (l : Line) (s : State) where
  abbrev pub Best : ℕ → ℕ → Type 0
  Best n a = Startable l s a × ((b : ℕ) → b < n → Startable l s b → Ahead l s a b)

  self : (a : ℕ) → Ahead l s a a
  self a = inr (refl, inr (refl, omega arith))

  best-step : (n : ℕ) → ((a : ℕ) × Best n a) ⊎ ((b : ℕ) → b < n → Startable l s b → ⊥) →
      Startable l s n ⊎ (Startable l s n → ⊥) →
      ((a : ℕ) × Best (suc n) a) ⊎ ((b : ℕ) → b < suc n → Startable l s b → ⊥)
  best-step n (inl h) (inl q) = elim (ahead-or (deadline_at l h.0 (time_at s h.0)) (time_at s h.0) h.0
      (deadline_at l n (time_at s n)) (time_at s n) n) [
        | inl w ↦ inl (
          h.0,
          (
            h.1.0,
            λ b k z. elim (cases_eq b n) [
              | inl e ↦ subst (Ahead l s h.0) (sym e) w
              | inr e ↦ h.1.1 b (omega arith) z
            ],
          ),
        )
        | inr w ↦ inl (
          n,
          (
            q,
            λ b k z. elim (cases_eq b n) [
              | inl e ↦ subst (Ahead l s n) (sym e) (self n)
              | inr e ↦ ahead-pass _ _ _ _ _ h.0 _ _ _ w (h.1.1 b (omega arith) z)
            ],
          ),
        )
      ]
  best-step n (inl h) (inr q) =
      inl (
        h.0,
        (
          h.1.0,
          λ b k z. elim (cases_eq b n) [
            | inl e ↦ absurd (q (subst (Startable l s) e z))
            | inr e ↦ h.1.1 b (omega arith) z
          ],
        ),
      )
  best-step n (inr h) (inl q) =
      inl (
        n,
        (
          q,
          λ b k z. elim (cases_eq b n) [
            | inl e ↦ subst (Ahead l s n) (sym e) (self n)
            | inr e ↦ absurd (h b (omega arith) z)
          ],
        ),
      )
  best-step n (inr h) (inr q) =
      inr (λ b k z. elim (cases_eq b n) [ inl e ↦ q (subst (Startable l s) e z) | inr e ↦ h b (omega arith) z ])

  pub best : (n : ℕ) → ((a : ℕ) × Best n a) ⊎ ((b : ℕ) → b < n → Startable l s b → ⊥)
  best zero = inr (λ b k z. absurd (omega arith))
  best (suc n) = best-step n (best n) (is-startable l s n)

module _ (l : Line) (sound : Sound l) (m : Meaning) where
  -- some actor is picked where start would accept one
  pub picked : (s : State) (a : ℕ) → Startable l s a → (b : ℕ) × Picked l s b
  picked s a q = elim (best l s (length l.plan.actors)) [
    | inl h ↦ (h.0, record { startable = h.1.0; ahead = λ b z. h.1.1 b (accepted l sound s b z).inside z })
    | inr h ↦ absurd (h a (accepted l sound s a q).inside q)
  ]

  pub names : (s : State) (a : ℕ) → Startable l s a → Names l m s
  names s a q = let h = picked s a q in record { one = (h.0, (h.1, refl)); only = λ r z w. named r w.0 }
    where
      named : (r : Answer) → PickAnswers l s r → (b : ℕ) × (r ≡ Named b)
      named Done w = absurd w
      named (Named b) w = (b, refl)
      named (Fired f) w = absurd w
      named (Wrote g) w = absurd w
      named (Handed d) w = absurd w
      named (Told k) w = absurd w
      named (Refused f) w = absurd (w.1 a q)
