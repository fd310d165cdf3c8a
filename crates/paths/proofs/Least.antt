-- From the closure to least sums, and to what reaches what. Assumes nothing.
use Rattle.std.proofs.Common.{◌≡◌, ℕ, ◌+◌, ◌*◌, ◌^◌, ◌<◌, ◌≤◌, min, Bool, true, false, ◌&&◌, ◌||◌, ◌⊎◌, List, [], ◌∷◌, length, is_some, Some, None, Decides, Option, sym, refl, ap, ◌∙◌, inl, inr, ⊎_elim, arith, pow_mono}
use Rattle.std.proofs.lemmas.Bool.{cases_lt, false≢true, or_right}
use Rattle.std.proofs.lemmas.Bool.Decides.{Decides-and}
use Rattle.paths.specs.Paths.{at, along, Below, Linked, total, Chosen, Closure}
use Rattle.paths.specs.Paths.Chosen.{no_path, path, either}
use Rattle.paths.specs.Spans.{greatest, no_span, shorter, after}
use Rattle.paths.specs.Least.{Connected, length_at, Edge, micros_at, Short, Distances, Reached}
use Rattle.paths.specs.declared.span.Span.{Span}
use Rattle.paths.specs.SpansLemmas.{same_span, length_some, length_none, has-length, with-length}
use Rattle.paths.proofs.Visits.{shorten}

-- where the choice is always one of the two, the choice among paths is one of them, or none
picked : {W : Type 0} {none : W} {choose join : W → W → W}
    → ((x y : W) → (choose x y ≡ x) ⊎ (choose x y ≡ y))
    → (e : ℕ → ℕ → W) (n i j : ℕ) (w : W) → Chosen none choose join e n i j w
    → (w ≡ none) ⊎ ((ks : List ℕ) × Below n ks × (w ≡ along join e i ks j))
picked one e n i j w no_path = inl refl
picked one e n i j w (path ks b) = inr (ks, b, refl)
picked one e n i j w (either {x = x} {y = y} a b) =
    ⊎_elim (λ l. rw l (picked one e n i j x a)) (λ r. rw r (picked one e n i j y b)) (one x y)

-- ---- yes and no

one-or : (x y : Bool) → ((x || y) ≡ x) ⊎ ((x || y) ≡ y)
one-or true y = inl refl
one-or false y = inr refl

along-decides : (e : ℕ → ℕ → Bool) (i j : ℕ) (ks : List ℕ)
    → Decides (along ◌&&◌ e i ks j) (Linked (λ a b. e a b ≡ true) i ks j)
along-decides e i j [] = (λ h. h, λ h. h)
along-decides e i j (k ∷ ks) =
    Decides-and (e i k) (along ◌&&◌ e k ks j) (λ h. h, λ h. h) (along-decides e k j ks)

pub reached : (n : ℕ) (t r : List Bool) → Closure false ◌||◌ ◌&&◌ n t r → Reached n t r
reached n t r c i j hi hj = (
  λ yes. ⊎_elim
      (λ no. absurd (false≢true (sym no ∙ yes)))
      (λ w. (w.0, w.1, (along-decides (at false n t) i j w.0).0 (sym w.2 ∙ yes)))
      (picked one-or (at false n t) n i j _ (c.made i j hi hj)),
  λ w. sym (c.absorbs i j hi hj w.0 w.1)
      ∙ or_right _ _ ((along-decides (at false n t) i j w.0).1 w.2),
)

-- ---- spans

one-shorter : (x y : Span) → (shorter x y ≡ x) ⊎ (shorter x y ≡ y)
one-shorter x y =
    ⊎_elim
    (λ lt. inl (same_span (shorter x y) x (omega arith)))
    (λ ge. inr (same_span (shorter x y) y (omega arith)))
    (cases_lt x.micros y.micros)

module _ (n : ℕ) (t : List Span) where
  -- along a path the lengths add up, as far as a span goes
  along-total : (i j : ℕ) (ks : List ℕ) → Linked (Edge n t) i ks j
      → (along after (at no_span n t) i ks j).micros ≡ min (total (micros_at n t) i ks j) greatest
  along-total i j [] l = omega (arith, with-length (at no_span n t i j) l)
  along-total i j (k ∷ ks) l =
      omega (arith, with-length (at no_span n t i k) l.0, along-total k j ks l.1)

  along-linked : (i j : ℕ) (ks : List ℕ) → (along after (at no_span n t) i ks j).micros < greatest
      → Linked (Edge n t) i ks j
  along-linked i j [] h = has-length (at no_span n t i j) h
  along-linked i j (k ∷ ks) h =
      let first : (at no_span n t i k).micros < greatest = omega arith in
      (has-length (at no_span n t i k) first, along-linked k j ks (omega arith))

  total-small : Short n t → (i j : ℕ) (ks : List ℕ) → i < n → j < n → Below n ks → Linked (Edge n t) i ks j
      → total (micros_at n t) i ks j ≤ 1000000000 * (length ks + 1)
  total-small s i j [] hi hj b l = s i j hi hj l
  total-small s i j (k ∷ ks) hi hj b l =
      omega (arith, s i k hi b.0 l.0, total-small s k j ks b.0 hj b.1 l.1)

cases-option : (o : Option ℕ) → (o ≡ None) ⊎ ((d : ℕ) × (o ≡ Some d))
cases-option None = inl refl
cases-option (Some d) = inr (d, refl)

module _ (n : ℕ) (t r : List Span) (c : Closure no_span shorter after n t r)
    (i j : ℕ) (hi : i < n) (hj : j < n) where
  at_most : (ks : List ℕ) → Below n ks → Linked (Edge n t) i ks j
      → (at no_span n r i j).micros ≤ total (micros_at n t) i ks j
  at_most ks b l = omega (arith, ap (λ s. s.micros) (c.absorbs i j hi hj ks b), along-total n t i j ks l)

  some-path : (d : ℕ) → length_at n r i j ≡ Some d
      → (ks : List ℕ) × Below n ks × Linked (Edge n t) i ks j × (total (micros_at n t) i ks j ≡ d)
  some-path d h =
      let is = length_some (at no_span n r i j) d h in
      ⊎_elim
      (λ no. absurd (omega (arith, ap (λ s. s.micros) no, is)))
      (λ w.
      let same = ap (λ s. s.micros) w.2 in
      let l = along-linked n t i j w.0 (omega (arith, same, is)) in
      (w.0, w.1, l, omega (arith, along-total n t i j w.0 l, same, is)))
      (picked one-shorter (at no_span n t) n i j _ (c.made i j hi hj))

  -- where there is a path, there is a short one
  near : n ≤ 33 → Short n t → Connected n (Edge n t) i j → (at no_span n r i j).micros < 2 ^ 63
  near few s w =
      let p = shorten (Edge n t) n i j w.0 w.1 w.2 in
      let small = total-small n t s i j p.0 hi hj p.1 p.2 in
      let most : 2 ^ n ≤ 2 ^ 33 = pow_mono few in
      omega (arith, at_most p.0 p.1 p.2, small, p.3, most)

  apart : n ≤ 33 → Short n t → length_at n r i j ≡ None → Connected n (Edge n t) i j → ⊥
  apart few s h w = omega (arith, near few s w, length_none (at no_span n r i j) h)

pub distances : (n : ℕ) (t r : List Span) → Closure no_span shorter after n t r → Distances n t r
distances n t r c = record {
  some = λ i j d hi hj h. some-path n t r c i j hi hj d h;
  least = λ i j d hi hj h ks b l.
      omega (arith, at_most n t r c i j hi hj ks b l, length_some (at no_span n r i j) d h);
  long = λ i j hi hj h ks b l.
      omega (arith, at_most n t r c i j hi hj ks b l, length_none (at no_span n r i j) h);
  exactly = λ few s i j hi hj.
      let which = cases-option (length_at n r i j) in (
        λ yes. ⊎_elim
            (λ no. absurd (false≢true (sym (ap is_some no) ∙ yes)))
            (λ w. let p = some-path n t r c i j hi hj w.0 w.1 in (p.0, p.1, p.2))
            which,
        λ w. ⊎_elim (λ no. absurd (apart n t r c i j hi hj few s no w)) (λ v. ap is_some v.1) which,
      );
  small = λ few s i j d hi hj h.
      let w = some-path n t r c i j hi hj d h in
      omega (arith, near n t r c i j hi hj few s (w.0, w.1, w.2), length_some (at no_span n r i j) d h);
}
