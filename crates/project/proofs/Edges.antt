-- How channels are laid into the table of edges.
use Rattle.std.proofs.Common.{◌≡◌, ℕ, ◌+◌, ◌*◌, ◌<◌, min, cond, ◌&&◌, eqb, ◌⊎◌, List, [], ◌∷◌, ◌++◌, replicate, Some, None, Option, sym, refl, ap, ◌∙◌, subst, inl, inr, ⊎_elim, arith}
use Rattle.std.proofs.lemmas.List.{get_or_past, get_or-replicate, length-replicate}
use Rattle.std.proofs.lemmas.Bool.{eq-eqb, eqb-true, and_parts, false≢true, cases_Bool, cases_lt, and_from}
use Rattle.line.specs.Lists.{In}
use Rattle.line.specs.Plan.{Plan, delay}
use Rattle.line.specs.Paths.{Least}
use Rattle.line.specs.declared.parts.Source.{Source}
use Rattle.line.specs.declared.parts.Source.TheVariants.{Sensor, Outlet}
use Rattle.line.specs.declared.parts.Sink.{Sink}
use Rattle.line.specs.declared.parts.Channel.{Channel}
use Rattle.paths.specs.Spans.{length_of, no_span}
use Rattle.paths.specs.Least.{length_at}
use Rattle.paths.specs.declared.span.Span.{Span}
use Rattle.project.specs.Tables.{places, place_of, nearer, offered, Adds, Lies, Laid}

-- least sums, with one sum more and with the same sums
least-nearer : (P Q : ℕ → Type 0) (n : ℕ) (v : Option ℕ) → Least P v → ((m : ℕ) → P m → Q m) → Q n → ((m : ℕ) → Q m → P m ⊎ (m ≡ n)) → Least Q (nearer v n)
least-nearer P Q n None l up here back = (here, λ m q. ⊎_elim (λ w. absurd (l m w)) (λ e. omega arith) (back m q))
least-nearer P Q n (Some k) l up here back = (
  ⊎_elim
      (λ lt. let e : min k n ≡ k = omega arith in subst Q (sym e) (up k l.0))
      (λ ge. let e : min k n ≡ n = omega arith in subst Q (sym e) here)
      (cases_lt k n),
  λ m q. ⊎_elim (λ w. omega (arith, l.1 m w)) (λ e. omega arith) (back m q),
)

least-same : (P Q : ℕ → Type 0) (v : Option ℕ) → Least P v → ((m : ℕ) → P m → Q m) → ((m : ℕ) → Q m → P m) → Least Q v
least-same P Q None l up back = λ m q. l m (back m q)
least-same P Q (Some k) l up back = (up k l.0, λ m q. l.1 m (back m q))

pub in-front : {A : Type 0} (z : A) (xs ys : List A) → In z xs → In z (xs ++ ys)
in-front z [] ys m = absurd m
in-front z (x ∷ xs) ys (inl e) = inl e
in-front z (x ∷ xs) ys (inr m) = inr (in-front z xs ys m)

pub in_end : {A : Type 0} (c : A) (xs : List A) → In c (xs ++ c ∷ [])
in_end c [] = inl refl
in_end c (x ∷ xs) = inr (in_end c xs)

pub in-last : {A : Type 0} (z c : A) (xs : List A) → In z (xs ++ c ∷ []) → In z xs ⊎ (z ≡ c)
in-last z c [] (inl e) = inr e
in-last z c [] (inr m) = absurd m
in-last z c (x ∷ xs) (inl e) = inl (inl e)
in-last z c (x ∷ xs) (inr m) = ⊎_elim (λ w. inl (inr w)) (λ e. inr e) (in-last z c xs m)

module _ (p : Plan) (xs : List Channel) (c : Channel) (b a : ℕ) where
  lies-on : (n : ℕ) → Lies p xs b a n → Lies p (xs ++ c ∷ []) b a n
  lies-on n w = (w.0, w.1, in-front _ xs (c ∷ []) w.2, w.3, w.4)

  -- an edge comes from the channels before, or from c
  lies-from : (n : ℕ) → Lies p (xs ++ c ∷ []) b a n
      → Lies p xs b a n ⊎ ((o : ℕ) × (y : Sink) × (record { source = Outlet b o; sink = y } ≡ c) × (place_of y ≡ a) × (delay p b o ≡ n))
  lies-from n w = ⊎_elim (λ m. inl (w.0, w.1, m, w.3, w.4)) (λ e. inr (w.0, w.1, e, w.3, w.4)) (in-last _ c xs w.2)

least_more : (p : Plan) (xs : List Channel) (x : Source) (y : Sink) (b a : ℕ) (v : Option ℕ) → Least (Lies p xs b a) v
    → Least (Lies p (xs ++ record { source = x; sink = y } ∷ []) b a) (offered p x y b a v)
least_more p xs (Sensor s) y b a v l =
    let c : Channel = record { source = Sensor s; sink = y } in
    least-same (Lies p xs b a) _ v l (lies-on p xs c b a)
    (λ n w. ⊎_elim (λ h. h) (λ e. absurd (outlet≢sensor (ap (λ k. k.source) e.2))) (lies-from p xs c b a n w))
  where
    outlet≢sensor : {k o s : ℕ} → Outlet k o ≡ Sensor s → ⊥
    outlet≢sensor e = let z : ◌≡◌ {A = ℕ} 0 1 = cc in omega arith
least_more p xs (Outlet k o) y b a v l =
    let c : Channel = record { source = Outlet k o; sink = y } in
    ⊎_elim
    (λ t.
    let w = and_parts (eqb b k) (eqb a (place_of y)) t in
    let eb : b ≡ k = eqb-true b k w.0 in
    let ea : a ≡ place_of y = eqb-true a (place_of y) w.1 in
    let here : Lies p (xs ++ c ∷ []) b a (delay p k o) =
    subst (λ (i : ℕ). Lies p (xs ++ c ∷ []) i a (delay p k o)) (sym eb) (o, y, in_end c xs, sym ea, refl) in
    subst (Least (Lies p (xs ++ c ∷ []) b a)) (sym (ap (λ z. cond z (nearer v (delay p k o)) v) t))
    (least-nearer (Lies p xs b a) (Lies p (xs ++ c ∷ []) b a) (delay p k o) v l (lies-on p xs c b a) here
    (λ n h. ⊎_elim (λ m. inl m)
    (λ e. let s : Outlet b e.0 ≡ Outlet k o = ap (λ q. q.source) e.2 in
    let i : b ≡ k = cc in let j : e.0 ≡ o = cc in
    inr (sym e.4 ∙ ap (λ u. delay p u e.0) i ∙ ap (delay p k) j))
    (lies-from p xs c b a n h))))
    (λ f.
    subst (Least (Lies p (xs ++ c ∷ []) b a)) (sym (ap (λ z. cond z (nearer v (delay p k o)) v) f))
    (least-same (Lies p xs b a) (Lies p (xs ++ c ∷ []) b a) v l (lies-on p xs c b a)
    (λ n h. ⊎_elim (λ m. m)
    (λ e. let s : Outlet b e.0 ≡ Outlet k o = ap (λ q. q.source) e.2 in
    let i : b ≡ k = cc in
    let j : a ≡ place_of y = sym e.3 ∙ ap (λ q. place_of q.sink) e.2 in
    absurd (false≢true (sym f ∙ and_from (eqb b k) (eqb a (place_of y)) (eq-eqb b k i) (eq-eqb a (place_of y) j))))
    (lies-from p xs c b a n h))))
    (cases_Bool (eqb b k && eqb a (place_of y)))

pub laid_none : (p : Plan) (t : List Span) → ((b a : ℕ) → b < places → a < places → length_at places t b a ≡ None) → Laid p [] t
laid_none p t e b a hb ha = subst (Least (Lies p [] b a)) (sym (e b a hb ha)) (λ n w. w.2)

pub laid_more : (p : Plan) (xs : List Channel) (c : Channel) (t u : List Span) → Laid p xs t
    → Adds p c t u → Laid p (xs ++ c ∷ []) u
laid_more p xs c t u l e b a hb ha =
    subst (Least (Lies p (xs ++ c ∷ []) b a)) (sym (e b a hb ha)) (least_more p xs c.source c.sink b a _ (l b a hb ha))

pub blank : (s : Span) (k : ℕ) → length_of s ≡ None → (b a : ℕ) → b < places → a < places → length_at places (replicate k s) b a ≡ None
blank s k e b a hb ha =
    ⊎_elim
    (λ lt. ap length_of (get_or-replicate k (b * 33 + a) s no_span lt) ∙ e)
    (λ ge. ap length_of (get_or_past (replicate k s) (b * 33 + a) no_span (omega (arith, length-replicate k s))))
    (cases_lt (b * 33 + a) k)
