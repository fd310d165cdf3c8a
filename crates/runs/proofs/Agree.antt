-- Two runs with the same arrivals have the same firings as far as both are settled: by induction on time and, at one
-- time, on how many actors reach an actor at no delay.
use Rattle.std.proofs.Common.{◌≡◌, ℕ, zero, suc, ◌+◌, ◌<◌, ◌≤◌, Bool, true, false, cond, ◌&&◌, eqb, ltb, ◌⊎◌, List, [], ◌∷◌, length, ℤ, Some, None, Option, sym, refl, ap, ◌∙◌, subst, inl, inr, arith}
use Rattle.std.proofs.lemmas.Bool.{eq-eqb, ne_eqb, eqb-true, cases_eq, and_parts, and_from, both_ways, lt-ltb, le-ltb, ltb-true, and_left, and_right}
use Rattle.std.proofs.lemmas.List.{ext_get_or}
use Rattle.line.specs.Lists.{In}
use Rattle.line.specs.Plan.{Plan, wire, delay}
use Rattle.line.specs.Paths.{Path, hop}
use Rattle.line.specs.Times.{Line, Sound}
use Rattle.line.specs.declared.parts.Sink.TheVariants.{Inlet}
use Rattle.runs.specs.Lists.{Each, Pairs, keep}
use Rattle.banks.specs.Meaning.{Meaning}
use Rattle.runs.specs.State.{port}
use Rattle.runs.specs.Runs.{Arrival}
use Rattle.runs.specs.declared.records.Event.{Event}
use Rattle.runs.specs.declared.records.Firing.{Firing}
use Rattle.runs.proofs.Lists.{in-keep, keep-in, pairs-keep, pairs-if, canon, Falls, falls-one}
use Rattle.runs.proofs.Wiring.{leads}
use Rattle.runs.proofs.Ways.{rank, rank_rises}
use Rattle.runs.proofs.Flow.{Posted, Logged}
use Rattle.runs.proofs.Rows.{row_of, gives, Traced, Alive}

-- what a run leaves where it is settled: its log solves the equations of the streams
pub record Sol (l : Line) (m : Meaning) (ys : List Arrival) (lg : List Firing) : Type 1 where
  -- nothing more will happen at the actor up to the time
  pub Settled : ℕ → ℕ → Type 0
  pub enters : (e : Event) → Settled e.actor e.timestamp → Posted l.plan ys lg e → Logged lg e
  pub came_from : (e : Event) → Logged lg e → Posted l.plan ys lg e
  pub falls : Falls (λ (g : Firing). g.actor) (λ (g : Firing). g.timestamp) lg
  pub traced : Traced l.plan m lg
  pub alive : Each (λ (g : Firing). Alive g.inlets) lg
  pub four : Each (λ (g : Firing). length g.inlets ≡ 4) lg
  pub logged : Each (λ (g : Firing). Settled g.actor g.timestamp) lg
  pub earlier : (a t u : ℕ) → u ≤ t → Settled a t → Settled a u
  pub before : (b o a i u : ℕ) → wire l.plan b o ≡ Some (Inlet a i) → Settled a (u + delay l.plan b o) →
      Settled b u

-- rows --------------------------------------------------------------------------------

abbrev older : ℕ → ℕ → Firing → Bool
older a t g = eqb g.actor a && ltb g.timestamp t

keep-drop : (f : Firing → Bool) (x : Firing) (xs : List Firing) → f x ≡ false → keep f (x ∷ xs) ≡ keep f xs
keep-drop f x xs e = rw e

row_step : (m : Meaning) (a : ℕ) (f : Firing → Bool) (g : Firing) (lg : List Firing) →
    row_of m a (keep f lg) ≡ row_of m a lg → (a ≡ g.actor → f g ≡ true) →
    (b : Bool) → f g ≡ b → row_of m a (cond b (g ∷ keep f lg) (keep f lg)) ≡ row_of m a (g ∷ lg)
row_step m a f g lg ih h true e =
    ap (λ (w : List ℤ). cond (eqb a g.actor) (m.reaction a w g.timestamp g.inlets).row w) ih
row_step m a f g lg ih h false e = rw (ne_eqb a g.actor (λ p. both_ways (f g) e (h p))) ih

row_keep : (m : Meaning) (a : ℕ) (f : Firing → Bool) (lg : List Firing) →
    Each (λ (g : Firing). a ≡ g.actor → f g ≡ true) lg → row_of m a (keep f lg) ≡ row_of m a lg
row_keep m a f [] h = refl
row_keep m a f (g ∷ lg) h = row_step m a f g lg (row_keep m a f lg (λ x n. h x (inr n))) (h g (inl refl)) (f g) refl

-- each firing's outlets follow from those of its actor that are older
trace-at : (p : Plan) (m : Meaning) (lg : List Firing) → Traced p m lg → Falls (λ (g : Firing). g.actor)
    (λ (g : Firing). g.timestamp) lg →
    Each (λ (g : Firing). g.outlets ≡ gives p m g (row_of m g.actor (keep (older g.actor g.timestamp) lg)))
    lg
trace-at p m [] h c g n = absurd n
trace-at p m (x ∷ xs) h c g (inl e) =
    subst (λ (g : Firing). g.outlets ≡ gives p m g
    (row_of m g.actor (keep (older g.actor g.timestamp) (x ∷ xs)))) (sym e)
    (h.0 ∙ ap (gives p m x)
    (sym (ap (row_of m x.actor) (keep-drop (older x.actor x.timestamp) x xs none)
    ∙ row_keep m x.actor (older x.actor x.timestamp) xs all)))
  where
    none : older x.actor x.timestamp x ≡ false
    none = and_right _ _ (le-ltb x.timestamp x.timestamp (omega arith))

    all : Each (λ (g : Firing). x.actor ≡ g.actor → older x.actor x.timestamp g ≡ true) xs
    all g n q = and_from _ _ (eq-eqb g.actor x.actor (sym q))
        (lt-ltb g.timestamp x.timestamp (c.0 g n q))
trace-at p m (x ∷ xs) h c g (inr n) =
    trace-at p m xs h.1 c.1 g n ∙ ap (λ (k : List Firing). gives p m g (row_of m g.actor k))
    (sym (keep-drop (older g.actor g.timestamp) x xs none))
  where
    none : older g.actor g.timestamp x ≡ false
    none = elim (cases_eq x.actor g.actor) [
      | inl q ↦ and_right _ _ (le-ltb x.timestamp g.timestamp (let k = c.0 g n q in omega arith))
      | inr q ↦ and_left _ _ (ne_eqb x.actor g.actor q)
    ]

firing-path : (g h : Firing) → g.actor ≡ h.actor → g.timestamp ≡ h.timestamp → g.inlets ≡ h.inlets →
    g.outlets ≡ h.outlets → g ≡ h
firing-path g h p q r t j = record { actor = p j; timestamp = q j; inlets = r j; outlets = t j }

outlets-same : (p : Plan) (m : Meaning) (xs us : List Firing) (g h : Firing) → g.actor ≡ h.actor →
    g.timestamp ≡ h.timestamp → g.inlets ≡ h.inlets →
    keep (older g.actor g.timestamp) xs ≡ keep (older g.actor g.timestamp) us →
    g.outlets ≡ gives p m g (row_of m g.actor (keep (older g.actor g.timestamp) xs)) →
    h.outlets ≡ gives p m h (row_of m h.actor (keep (older h.actor h.timestamp) us)) →
    g.outlets ≡ h.outlets
outlets-same p m xs us g h a t i past c d = c ∙ ap (λ (k : List Firing). gives p m g (row_of m g.actor k)) past
    ∙ moved ∙ sym d
  where
    moved : gives p m g (row_of m g.actor (keep (older g.actor g.timestamp) us)) ≡ gives p m h
        (row_of m h.actor (keep (older h.actor h.timestamp) us))
    moved j = gives p m (record { actor = a j; timestamp = t j; inlets = i j; outlets = h.outlets })
        (row_of m (a j) (keep (older (a j) (t j)) us))

option-same : (v w : Option ℤ) → ((z : ℤ) → v ≡ Some z → w ≡ Some z) → ((z : ℤ) → w ≡ Some z → v ≡ Some z) → v ≡ w
option-same None None f g = refl
option-same None (Some z) f g = g z refl
option-same (Some z) w f g = sym (f z refl)

-- strong induction ----------------------------------------------------------------------

strong-below : (P : ℕ → Type 0) → ((m : ℕ) → ((j : ℕ) → j < m → P j) → P m) → (m j : ℕ) → j < m → P j
strong-below P h zero j k = absurd (omega arith)
strong-below P h (suc m) j k = h j (λ i q. strong-below P h m i (omega arith))

strong : (P : ℕ → Type 0) → ((m : ℕ) → ((j : ℕ) → j < m → P j) → P m) → (m : ℕ) → P m
strong P h m = h m (λ j k. strong-below P h m j k)

-- the order of the induction
abbrev Earlier : (ℕ → ℕ) → ℕ → ℕ → ℕ → ℕ → Type 0
Earlier rank b u a t = (u < t) ⊎ ((u ≡ t) × (rank b < rank a))

abbrev pub Same : List Firing → List Firing → ℕ → ℕ → Type 0
Same xs ys a t = (g : Firing) → g.actor ≡ a → g.timestamp ≡ t → (In g xs → In g ys) × (In g ys → In g xs)

flip : (xs ys : List Firing) (a t : ℕ) → Same xs ys a t → Same ys xs a t
flip xs ys a t h g p q = let w = h g p q in (w.1, w.0)

module _ (l : Line) (sound : Sound l) (m : Meaning) where
  abbrev rank_of : ℕ → ℕ
  rank_of a = rank l sound a

  -- two runs: what they agree on before (a, t), where both are settled
  abbrev Before : {ys zs : List Arrival} {xs us : List Firing} → Sol l m ys xs → Sol l m zs us → ℕ → ℕ → Type 0
  Before {xs = xs} {us = us} X Y a t = (b u : ℕ) → Earlier rank_of b u a t → X.Settled b u → Y.Settled b u →
      Same xs us b u

  swap : {ys zs : List Arrival} {xs us : List Firing} (X : Sol l m ys xs) (Y : Sol l m zs us) (a t : ℕ) →
      Before X Y a t → Before Y X a t
  swap {xs = xs} {us = us} X Y a t h b u e p q = flip xs us b u (h b u e q p)

  -- what is posted there in one is posted there in the other
  carry : {ys zs : List Arrival} {xs us : List Firing} (X : Sol l m ys xs) (Y : Sol l m zs us) (a t : ℕ) →
      ((y : Arrival) → In y ys → In y zs) →
      X.Settled a t → Y.Settled a t → Before X Y a t → (e : Event) → e.actor ≡ a → e.timestamp ≡ t →
      Posted l.plan ys xs e → Posted l.plan zs us e
  carry X Y a t s α β ih e p q (inl h) =
      inl (record { arrival = h.arrival; there = s h.arrival h.there; lands = h.lands })
  carry {xs = xs} {us = us} X Y a t s α β ih e p q (inr h) =
      inr (record {
        firing = g;
        there = (ih g.actor g.timestamp sooner (back X α) (back Y β) g refl refl).0
            h.there;
        sends = h.sends;
      })
    where
      g : Firing
      g = h.firing

      back : {ws : List Arrival} {ls : List Firing} (Z : Sol l m ws ls) → Z.Settled a t →
          Z.Settled g.actor g.timestamp
      back Z γ = Z.before g.actor h.sends.outlet e.actor e.inlet g.timestamp h.sends.sink
          (subst (λ u. Z.Settled e.actor u) h.sends.time
          (subst (λ b. Z.Settled b e.timestamp) (sym p) (subst (λ u. Z.Settled a u) (sym q) γ)))

      sooner : Earlier rank_of g.actor g.timestamp a t
      sooner = elim (cases_eq (delay l.plan g.actor h.sends.outlet) 0) [
        | inl z ↦
            let way : Path l.plan g.actor e.actor (delay l.plan g.actor h.sends.outlet) = hop
            h.sends.outlet e.inlet (leads l.plan sound.lawful g.actor h.sends.outlet _
            h.sends.sink) in
            inr (omega (arith, h.sends.time), omega (arith, ap rank_of p, rank_rises l sound way z))
        | inr z ↦ inl (omega (arith, h.sends.time))
      ]

  -- an inlet of one is an inlet of the other
  into : {ys zs : List Arrival} {xs us : List Firing} (X : Sol l m ys xs) (Y : Sol l m zs us) (a t : ℕ) →
      ((y : Arrival) → In y ys → In y zs) →
      X.Settled a t → Y.Settled a t → Before X Y a t → (g : Firing) → g.actor ≡ a → g.timestamp ≡ t → In g xs →
      (i : ℕ) (v : ℤ) → port g.inlets i ≡ Some v →
      Logged us (record { actor = a; inlet = i; timestamp = t; value = v })
  into X Y a t s α β ih g p q n i v w =
      Y.enters _ β (carry X Y a t s α β ih _ refl refl
      (X.came_from _ (record { firing = g; there = n; actor = p; time = q; has = w })))

  value_in : {ys zs : List Arrival} {xs us : List Firing} (X : Sol l m ys xs) (Y : Sol l m zs us) (a t : ℕ) →
      ((y : Arrival) → In y ys → In y zs) →
      X.Settled a t → Y.Settled a t → Before X Y a t → (g h : Firing) → g.actor ≡ a → g.timestamp ≡ t → In g xs →
      h.actor ≡ a → h.timestamp ≡ t → In h us →
      (i : ℕ) (v : ℤ) → port g.inlets i ≡ Some v → port h.inlets i ≡ Some v
  value_in {us = us} X Y a t s α β ih g h p q n p' q' n' i v w =
      let k = into X Y a t s α β ih g p q n i v w in
      let z : k.firing ≡ h = falls-one (λ (g : Firing). g.actor) (λ (g : Firing). g.timestamp) us Y.falls
      k.firing h k.there n' (k.actor ∙ sym p') (k.time ∙ sym q') in
      ap (λ (h : Firing). port h.inlets i) (sym z) ∙ k.has

  -- the firings of one actor before a time
  pasts : {ys zs : List Arrival} {xs us : List Firing} (X : Sol l m ys xs) (Y : Sol l m zs us) (a t : ℕ) →
      ((u : ℕ) → u < t → Same xs us a u) →
      keep (older a t) xs ≡ keep (older a t) us
  pasts {xs = xs} {us = us} X Y a t ih = canon (λ (g h : Firing). h.timestamp < g.timestamp)
      (λ g h k r. omega arith) _ _ (ordered X) (ordered Y)
      (half xs us ih) (half us xs (λ u k. flip xs us a u (ih u k)))
    where
      actor-is : (ls : List Firing) → Each (λ (g : Firing). g.actor ≡ a) (keep (older a t) ls)
      actor-is ls g n = eqb-true g.actor a (and_parts _ _ (in-keep (older a t) ls g n).1).0

      ordered : {ws : List Arrival} {ls : List Firing} → Sol l m ws ls →
          Pairs (λ (g h : Firing). h.timestamp < g.timestamp) (keep (older a t) ls)
      ordered {ls = ls} S = pairs-if (λ (g h : Firing). g.actor ≡ h.actor → h.timestamp < g.timestamp) _
          (λ (g : Firing). g.actor ≡ a) _ (λ g h p q w. w (p ∙ sym q)) (actor-is ls)
          (pairs-keep (λ (g h : Firing). g.actor ≡ h.actor → h.timestamp < g.timestamp) (older a t) ls S.falls)

      half : (ls ws : List Firing) → ((u : ℕ) → u < t → Same ls ws a u) → (g : Firing) → In g (keep (older a t) ls) →
          In g (keep (older a t) ws)
      half ls ws eq g n =
          let h = in-keep (older a t) ls g n in
          let d = and_parts (eqb g.actor a) (ltb g.timestamp t) h.1 in
          keep-in (older a t) ws g h.1
          ((eq g.timestamp (ltb-true g.timestamp t d.1) g (eqb-true g.actor a d.0) refl).0 h.0)

  one_way : {ys zs : List Arrival} {xs us : List Firing} (X : Sol l m ys xs) (Y : Sol l m zs us) (a t : ℕ) →
      ((y : Arrival) → In y ys → In y zs) → ((y : Arrival) → In y zs → In y ys) → X.Settled a t → Y.Settled a t →
      Before X Y a t →
      (g : Firing) → g.actor ≡ a → g.timestamp ≡ t → In g xs → In g us
  one_way {ys} {zs} {xs} {us} X Y a t s s' α β ih g p q n =
      let w = X.alive g n in
      let k = into X Y a t s α β ih g p q n w.0 w.1 w.2 in
      let h = k.firing in
      let i : g.inlets ≡ h.inlets = ext_get_or None g.inlets h.inlets (X.four g n ∙ sym (Y.four h k.there))
      (λ j _. option-same (port g.inlets j) (port h.inlets j)
      (value_in X Y a t s α β ih g h p q n k.actor k.time k.there j)
      (value_in Y X a t s' β α (swap X Y a t ih) h g k.actor k.time k.there p q n j)) in
      let a' : g.actor ≡ h.actor = p ∙ sym k.actor in
      let t' : g.timestamp ≡ h.timestamp = q ∙ sym k.time in
      let past = pasts X Y g.actor g.timestamp
      (λ u z. rw p (ih a u (inl (omega arith)) (X.earlier a t u (omega arith) α)
      (Y.earlier a t u (omega arith) β))) in
      let c = trace-at l.plan m xs X.traced X.falls g n in
      let d = trace-at l.plan m us Y.traced Y.falls h k.there in
      let o : g.outlets ≡ h.outlets = outlets-same l.plan m xs us g h a' t' i past c d in
      subst (λ (g : Firing). In g us) (sym (firing-path g h a' t' i o)) k.there

  pub agree_at : {ys zs : List Arrival} {xs us : List Firing} (X : Sol l m ys xs) (Y : Sol l m zs us) →
      ((y : Arrival) → In y ys → In y zs) → ((y : Arrival) → In y zs → In y ys) → (t a : ℕ) → X.Settled a t →
      Y.Settled a t → Same xs us a t
  agree_at {ys} {zs} {xs} {us} X Y s s' = strong (λ t. (a : ℕ) → X.Settled a t → Y.Settled a t → Same xs us a t)
      (λ t ih a. strong (λ q. (a : ℕ) → rank_of a ≡ q → X.Settled a t → Y.Settled a t → Same xs us a t)
      (λ q jh a e. step t a (λ b u k. elim k
      [ inl k ↦ ih u k b | inr k ↦ rw k.0 (jh (rank_of b) (omega arith) b refl) ])) (rank_of a) a refl)
    where
      step : (t a : ℕ) → Before X Y a t → X.Settled a t → Y.Settled a t → Same xs us a t
      step t a ih α β g p q = (one_way X Y a t s s' α β ih g p q, one_way Y X a t s' s β α (swap X Y a t ih) g p q)
