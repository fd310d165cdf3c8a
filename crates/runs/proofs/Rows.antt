-- Rows and reactions: what each firing gave follows from the firings of its actor before it.
use Rattle.std.proofs.Common.{◌≡◌, ℕ, ◌<◌, true, false, cond, eqb, List, [], ◌∷◌, length, ℤ, Some, Option, sym, refl, ap, ◌∙◌, inl, inr}
use Rattle.std.proofs.lemmas.Bool.{eq-eqb, ne_eqb, cases_eq}
use Rattle.line.specs.Plan.{Plan}
use Rattle.line.specs.Times.{Line, Sound}
use Rattle.runs.specs.Lists.{Each}
use Rattle.banks.specs.Meaning.{Meaning, Reacted, Alike, Follows, at_open, after}
use Rattle.runs.specs.State.{State, running, firing, port, shown}
use Rattle.runs.specs.declared.records.Running.{Running}
use Rattle.runs.specs.declared.records.Firing.{Firing}
use Rattle.runs.proofs.Lists.{each-cons}
use Rattle.runs.proofs.Run.{Run, opened, arrive, advance, start, finish, deliver, close, begun, log, came}
use Rattle.runs.proofs.Order.{order, start_of, valid}
use Rattle.runs.proofs.Flow.{from, unique, below, run-has}

-- the row of an actor after the firings of a log
abbrev pub row_of : Meaning → ℕ → List Firing → List ℤ
row_of m a [] = m.rows a
row_of m a (g ∷ gs) = cond (eqb a g.actor) (m.reaction a (row_of m a gs) g.timestamp g.inlets).row
    (row_of m a gs)

-- the outlets of a firing, from its actor's row before it
abbrev pub gives : Plan → Meaning → Firing → List ℤ → List (Option ℤ)
gives p m g w = shown p g.actor (m.reaction g.actor w g.timestamp g.inlets).outlets

abbrev pub Traced : Plan → Meaning → List Firing → Type 0
Traced p m [] = Unit {0}
Traced p m (g ∷ gs) = (g.outlets ≡ gives p m g (row_of m g.actor gs)) × Traced p m gs

-- some inlet has a value
abbrev pub Alive : List (Option ℤ) → Type 0
Alive g = (i : ℕ) × (v : ℤ) × (port g i ≡ Some v)

module _ (l : Line) where
  rows_are : {m : Meaning} {s : State} (r : Run l m s) (a : ℕ) → s.rows a ≡ row_of m a (log r)
  rows_are opened a = refl
  rows_are (arrive x t v live h r) a = rows_are r a
  rows_are (advance c h r) a = rows_are r a
  rows_are (start b t h r) a = rows_are r a
  rows_are {m} (finish {s} f fs e r) a =
      let ih : s.rows a ≡ row_of m a (log r) = rows_are r a in
      elim (cases_eq a f.actor) [
        | inl p ↦ rw (eq-eqb a f.actor p) (let q = ap s.rows p in cc)
        | inr p ↦ rw (ne_eqb a f.actor p) ih
      ]
  rows_are (deliver d os h r) a = rows_are r a
  rows_are (close r) a = rows_are r a

  pub traced : {m : Meaning} {s : State} (r : Run l m s) → Traced l.plan m (log r)
  traced opened = tt
  traced (arrive x t v live h r) = traced r
  traced (advance c h r) = traced r
  traced (start b t h r) = traced r
  traced {m} (finish {s} f fs e r) = (
    ap (gives l.plan m (firing l.plan m s f)) (rows_are r f.actor),
    traced r,
  )
  traced (deliver d os h r) = traced r
  traced (close r) = traced r

module _ (l : Line) (sound : Sound l) where
  begun-alive : {m : Meaning} {s : State} (r : Run l m s) → Each (λ (f : Running). Alive f.inlets) (begun r)
  begun-alive opened = λ f n. absurd n
  begun-alive (arrive x t v live h r) = begun-alive r
  begun-alive (advance c h r) = begun-alive r
  begun-alive (start {s} a t h r) =
      let e = h.event in
      let came-in = from l sound r e.0 (inl e.1) in
      each-cons (λ (f : Running). Alive f.inlets) (running s a t) (begun r) (
        e.0.inlet,
        e.0.value,
        run-has s a t e.0 e.2 e.3 (below l sound (came r) (log r) e.0 came-in) e.1
            (λ x n p q w. unique l sound r x e.0 (from l sound r x (inl n)) came-in p q w),
      )
      (begun-alive r)
  begun-alive (finish f fs e r) = begun-alive r
  begun-alive (deliver d os h r) = begun-alive r
  begun-alive (close r) = begun-alive r

  pub alive : {m : Meaning} {s : State} (r : Run l m s) → Each (λ (g : Firing). Alive g.inlets) (log r)
  alive r g n = begun-alive r (start_of g) ((order l sound r).logged g n)

  -- each firing is of an actor of the plan, and has four inlets
  pub log-valid : {m : Meaning} {s : State} (r : Run l m s) →
      Each (λ (g : Firing). (g.actor < length l.plan.actors) × (length g.inlets ≡ 4)) (log r)
  log-valid r g n = valid l sound r (start_of g) ((order l sound r).logged g n)

-- banks of equal meaning leave the same rows and give the same ---------------------------

follows : (n : ℕ) (m : Meaning) (a : ℕ) (lg : List Firing) →
    Each (λ (g : Firing). (g.actor < n) × (length g.inlets ≡ 4)) lg → Follows m a (row_of m a lg)
follows n m a [] v = at_open
follows n m a (g ∷ lg) v =
    let h = follows n m a lg (λ x k. v x (inr k)) in
    elim (eqb a g.actor) as (λ b. Follows m a
    (cond b (m.reaction a (row_of m a lg) g.timestamp g.inlets).row (row_of m a lg))) [
      | true ↦ after g.timestamp g.inlets (v g (inl refl)).1 h
      | false ↦ h
    ]

rows_alike : (n : ℕ) (m j : Meaning) → Alike n m j → (a : ℕ) → a < n → (lg : List Firing) →
    Each (λ (g : Firing). (g.actor < n) × (length g.inlets ≡ 4)) lg →
    row_of m a lg ≡ row_of j a lg
rows_alike n m j q a i [] v = q.rows a i
rows_alike n m j q a i (g ∷ lg) v =
    let h = rows_alike n m j q a i lg (λ x k. v x (inr k)) in
    let w = follows n m a lg (λ x k. v x (inr k)) in
    let e : (m.reaction a (row_of m a lg) g.timestamp g.inlets).row ≡ (j.reaction a (row_of j a lg)
    g.timestamp g.inlets).row =
    ap (λ (x : Reacted). x.row)
    (q.reaction a i (row_of m a lg) w g.timestamp g.inlets (v g (inl refl)).1)
    ∙ ap (λ (w : List ℤ). (j.reaction a w g.timestamp g.inlets).row) h in
    elim (eqb a g.actor) as (λ b. cond b (m.reaction a (row_of m a lg) g.timestamp g.inlets).row
    (row_of m a lg)
    ≡ cond b (j.reaction a (row_of j a lg) g.timestamp g.inlets).row (row_of j a lg))
    [ true ↦ e | false ↦ h ]

pub move-traced : (p : Plan) (n : ℕ) (m j : Meaning) → Alike n m j → (lg : List Firing) →
    Each (λ (g : Firing). (g.actor < n) × (length g.inlets ≡ 4)) lg →
    Traced p j lg → Traced p m lg
move-traced p n m j q [] v h = tt
move-traced p n m j q (g ∷ lg) v h =
    let i = v g (inl refl) in
    let rest : Each (λ (g : Firing). (g.actor < n) × (length g.inlets ≡ 4)) lg = λ x k. v x (inr k) in
    let w = rows_alike n m j q g.actor i.0 lg rest in
    let e : m.reaction g.actor (row_of m g.actor lg) g.timestamp g.inlets ≡ j.reaction g.actor
    (row_of j g.actor lg) g.timestamp g.inlets =
    q.reaction g.actor i.0 (row_of m g.actor lg) (follows n m g.actor lg rest) g.timestamp
    g.inlets i.1
    ∙ ap (λ (w : List ℤ). j.reaction g.actor w g.timestamp g.inlets) w in
    (h.0 ∙ sym (ap (λ (x : Reacted). shown p g.actor x.outlets) e), move-traced p n m j q lg rest h.1)
