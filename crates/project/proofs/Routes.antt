-- Paths of channels, and paths in the table of edges that the channels draw.
use Rattle.std.proofs.Common.{◌≡◌, ℕ, ◌+◌, ◌<◌, ◌≤◌, Bool, true, false, List, [], ◌∷◌, length, is_some, Some, None, Decides, Option, unwrap_or, sym, refl, ap, ◌∙◌, subst, arith, lit<, lit≤}
use Rattle.std.proofs.lemmas.Bool.{false≢true}
use Rattle.line.specs.Plan.{Plan, Leads, delay}
use Rattle.line.specs.Paths.{Path, hop, via, Exit, out, on, Least, Distance}
use Rattle.line.specs.Rules.{Ends, Ranged}
use Rattle.line.specs.declared.parts.Source.TheVariants.{Outlet}
use Rattle.line.specs.declared.parts.Sink.{Sink}
use Rattle.line.specs.declared.parts.Sink.TheVariants.{Inlet, Actuator}
use Rattle.paths.specs.Paths.{at, Below, Linked, total}
use Rattle.paths.specs.Least.{length_at, Edge, micros_at, Short, Distances, Reached}
use Rattle.paths.specs.declared.span.Span.{Span}
use Rattle.project.specs.Tables.{places, exit, place_of, Lies, Laid}

-- the edge that there is where a sum is least
least-is : (P : ℕ → Type 0) (v : Option ℕ) (n : ℕ) → Least P v → P n → (is_some v ≡ true) × (unwrap_or v 0 ≤ n)
least-is P None n l h = absurd (l n h)
least-is P (Some m) n l h = (refl, l.1 n h)

least-has : (P : ℕ → Type 0) (v : Option ℕ) → Least P v → is_some v ≡ true → P (unwrap_or v 0)
least-has P None l e = absurd (false≢true e)
least-has P (Some m) l e = l.0

module _ (p : Plan) (few : length p.actors ≤ 32) (ranged : Ranged p) (t : List Span) (laid : Laid p p.channels t) where
  -- a channel is an edge
  edge_of : (b o : ℕ) (y : Sink) → Leads p (Outlet b o) y
      → (b < places) × (place_of y < places) × Edge places t b (place_of y) × (micros_at places t b (place_of y) ≤ delay p b o)
  edge_of b o y m =
      let c = ranged.channels _ m in
      let hb : b < places = omega (arith, c.source.0) in
      let hy : place_of y < places = ends-in y c.sink in
      let w = least-is (Lies p p.channels b (place_of y)) _ (delay p b o) (laid b (place_of y) hb hy) (o, y, m, refl, refl) in
      (hb, hy, w.0, w.1)
    where
      ends-in : (y : Sink) → Ends p y → place_of y < places
      ends-in (Inlet a i) e = omega (arith, e.0)
      ends-in (Actuator q) e = lit< tt

  -- an edge is a channel
  channel_of : (b a : ℕ) → b < places → a < places → Edge places t b a → Lies p p.channels b a (micros_at places t b a)
  channel_of b a hb ha e = least-has (Lies p p.channels b a) _ (laid b a hb ha) e

  pub path-edges : (b a n : ℕ) → Path p b a n
      → (b < places) × (a < places) × ((ks : List ℕ) × Below places ks × Linked (Edge places t) b ks a × (total (micros_at places t) b ks a ≤ n))
  path-edges b a n (hop o i m) = let e = edge_of b o (Inlet a i) m in (e.0, e.1, ([], tt, e.2, e.3))
  path-edges b a n (via {c = c} {n = k} o i m w) =
      let e = edge_of b o (Inlet c i) m in
      let r = path-edges c a k w in
      (e.0, r.1, (c ∷ r.2.0, (e.1, r.2.1), (e.2, r.2.2), omega (arith, e.3, r.2.3)))

  pub exit-edges : (b n : ℕ) → Exit p b n
      → (b < places) × ((ks : List ℕ) × Below places ks × Linked (Edge places t) b ks exit × (total (micros_at places t) b ks exit ≤ n))
  exit-edges b n (out o q m) = let e = edge_of b o (Actuator q) m in (e.0, ([], tt, e.2, e.3))
  exit-edges b n (on {c = c} {n = k} o i m w) =
      let e = edge_of b o (Inlet c i) m in
      let r = exit-edges c k w in
      (e.0, (c ∷ r.1.0, (e.1, r.1.1), (e.2, r.1.2), omega (arith, e.3, r.1.3)))

  -- an edge to an actor is a channel to one of its inlets, and an edge to the exit a channel to an actuator
  to-actor : (b a n : ℕ) → a < exit → Lies p p.channels b a n → (o : ℕ) × (i : ℕ) × Leads p (Outlet b o) (Inlet a i) × (delay p b o ≡ n)
  to-actor b a n ha w = go w.1 w.2 w.3
    where
      go : (y : Sink) → Leads p (Outlet b w.0) y → place_of y ≡ a → (o : ℕ) × (i : ℕ) × Leads p (Outlet b o) (Inlet a i) × (delay p b o ≡ n)
      go (Inlet c i) m e = (w.0, i, subst (λ (k : ℕ). Leads p (Outlet b w.0) (Inlet k i)) e m, w.4)
      go (Actuator q) m e = absurd (omega arith)

  to-exit : (b n : ℕ) → Lies p p.channels b exit n → (o : ℕ) × (q : ℕ) × Leads p (Outlet b o) (Actuator q) × (delay p b o ≡ n)
  to-exit b n w = go w.1 w.2 w.3
    where
      go : (y : Sink) → Leads p (Outlet b w.0) y → place_of y ≡ exit → (o : ℕ) × (q : ℕ) × Leads p (Outlet b o) (Actuator q) × (delay p b o ≡ n)
      go (Inlet c i) m e = absurd (omega (arith, (ranged.channels _ m).sink.0))
      go (Actuator q) m e = (w.0, q, m, w.4)

  -- no edge leaves the exit, so what an edge leaves is an actor
  leaves : (b a : ℕ) → b < places → a < places → Edge places t b a → b < exit
  leaves b a hb ha e = let w = channel_of b a hb ha e in omega (arith, (ranged.channels _ w.2).source.0)

  leads-on : (b : ℕ) (ks : List ℕ) (a : ℕ) → b < places → Below places ks → a < places → Linked (Edge places t) b ks a → b < exit
  leads-on b [] a hb u ha l = leaves b a hb ha l
  leads-on b (k ∷ ks) a hb u ha l = leaves b k hb u.0 l.0

  pub edges-path : (b : ℕ) (ks : List ℕ) (a : ℕ) → b < places → Below places ks → a < exit → Linked (Edge places t) b ks a
      → Path p b a (total (micros_at places t) b ks a)
  edges-path b [] a hb u ha l =
      let w = to-actor b a _ ha (channel_of b a hb (omega arith) l) in
      subst (Path p b a) w.3 (hop w.0 w.1 w.2)
  edges-path b (k ∷ ks) a hb u ha l =
      let inner = leads-on k ks a u.0 u.1 (omega arith) l.1 in
      let w = to-actor b k _ inner (channel_of b k hb u.0 l.0) in
      subst (λ (d : ℕ). Path p b a (d + total (micros_at places t) k ks a)) w.3 (via w.0 w.1 w.2 (edges-path k ks a u.0 u.1 ha l.1))

  pub edges-exit : (b : ℕ) (ks : List ℕ) → b < places → Below places ks → Linked (Edge places t) b ks exit
      → Exit p b (total (micros_at places t) b ks exit)
  edges-exit b [] hb u l =
      let w = to-exit b _ (channel_of b exit hb (lit< tt) l) in
      subst (Exit p b) w.3 (out w.0 w.1 w.2)
  edges-exit b (k ∷ ks) hb u l =
      let inner = leads-on k ks exit u.0 u.1 (lit< tt) l.1 in
      let w = to-actor b k _ inner (channel_of b k hb u.0 l.0) in
      subst (λ (d : ℕ). Exit p b (d + total (micros_at places t) k ks exit)) w.3 (on w.0 w.1 w.2 (edges-exit k ks u.0 u.1 l.1))

  pub short : Short places t
  short b a hb ha e =
      let w = channel_of b a hb ha e in
      let x = ranged.actors b (ranged.channels _ w.2).source.0 in
      omega (arith, w.4, x.delay)

  -- the closed table has the distances, and the least sums to an actuator
  pub distance_is : (r : List Span) → Distances places t r → (b a : ℕ) → b < exit → a < exit → Distance p b a (length_at places r b a)
  distance_is r D b a hb ha = go (length_at places r b a) refl
    where
      hb' : b < places
      hb' = omega arith

      ha' : a < places
      ha' = omega arith

      go : (v : Option ℕ) → length_at places r b a ≡ v → Distance p b a v
      go None e = λ n w.
          let l = (path-edges b a n w).2 in
          false≢true (sym (ap is_some e) ∙ (D.exactly (lit≤ tt) short b a hb' ha').1 (l.0, l.1, l.2))
      go (Some d) e =
          let w = D.some b a d hb' ha' e in (
            subst (Path p b a) w.3 (edges-path b w.0 a hb' w.1 ha w.2),
            λ n h. let l = (path-edges b a n h).2 in omega (arith, D.least b a d hb' ha' e l.0 l.1 l.2, l.3),
          )

  pub exit-is : (r : List Span) → Distances places t r → (b : ℕ) → b < exit → Least (Exit p b) (length_at places r b exit)
  exit-is r D b hb = go (length_at places r b exit) refl
    where
      hb' : b < places
      hb' = omega arith

      go : (v : Option ℕ) → length_at places r b exit ≡ v → Least (Exit p b) v
      go None e = λ n w.
          let l = (exit-edges b n w).1 in
          false≢true (sym (ap is_some e) ∙ (D.exactly (lit≤ tt) short b exit hb' (lit< tt)).1 (l.0, l.1, l.2))
      go (Some d) e =
          let w = D.some b exit d hb' (lit< tt) e in (
            subst (Exit p b) w.3 (edges-exit b w.0 hb' w.1 w.2),
            λ n h. let l = (exit-edges b n h).1 in omega (arith, D.least b exit d hb' (lit< tt) e l.0 l.1 l.2, l.3),
          )

  -- the table of what reaches what
  module _ (s r : List Bool) (same : (i j : ℕ) → i < places → j < places → at false places s i j ≡ is_some (length_at places t i j))
      (R : Reached places s r) where
    to-edges : (i : ℕ) (ks : List ℕ) (j : ℕ) → i < places → Below places ks → j < places
        → Linked (λ a b. at false places s a b ≡ true) i ks j → Linked (Edge places t) i ks j
    to-edges i [] j hi u hj l = sym (same i j hi hj) ∙ l
    to-edges i (k ∷ ks) j hi u hj l = (sym (same i k hi u.0) ∙ l.0, to-edges k ks j u.0 u.1 hj l.1)

    of-edges : (i : ℕ) (ks : List ℕ) (j : ℕ) → i < places → Below places ks → j < places
        → Linked (Edge places t) i ks j → Linked (λ a b. at false places s a b ≡ true) i ks j
    of-edges i [] j hi u hj l = same i j hi hj ∙ l
    of-edges i (k ∷ ks) j hi u hj l = (same i k hi u.0 ∙ l.0, of-edges k ks j u.0 u.1 hj l.1)

    pub reach-is : (b a : ℕ) → b < exit → a < exit → Decides (at false places r b a) ((n : ℕ) × Path p b a n)
    reach-is b a hb ha =
        let hb' : b < places = omega arith in
        let ha' : a < places = omega arith in (
          λ e. let w = (R b a hb' ha').0 e in (_, edges-path b w.0 a hb' w.1 ha (to-edges b w.0 a hb' w.1 ha' w.2)),
          λ w. let l = (path-edges b a w.0 w.1).2 in (R b a hb' ha').1 (l.0, l.1, of-edges b l.0 a hb' l.1 ha' l.2),
        )

    pub leaves-is : (b : ℕ) → b < exit → Decides (at false places r b exit) ((n : ℕ) × Exit p b n)
    leaves-is b hb =
        let hb' : b < places = omega arith in
        let he : exit < places = lit< tt in (
          λ e. let w = (R b exit hb' he).0 e in (_, edges-exit b w.0 hb' w.1 (to-edges b w.0 exit hb' w.1 he w.2)),
          λ w. let l = (exit-edges b w.0 w.1).1 in (R b exit hb' he).1 (l.0, l.1, of-edges b l.0 exit hb' l.1 he l.2),
        )
