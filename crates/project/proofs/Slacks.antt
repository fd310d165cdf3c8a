-- The greatest of what channels ask of an actor.
use Rattle.std.proofs.Common.{◌≡◌, List, [], ◌∷◌, fold, ℤ, ◌<ℤ◌, ◌≤ℤ◌, Some, None, Option, Ordering, Less, Equal, Greater, sym, refl, ap, ◌∙◌, subst, inl, inr, ⊎_elim, ◌⊎◌, arith}
use lib.Signed.{≤ℤ_refl}
use Rattle.std.proofs.lemmas.Int.{ints}
use Rattle.std.specs.Cmp.{int_ranks}
use Rattle.std.specs.List.{filter_map, cons_option, reduce}
use Rattle.std.specs.Ordering.{MatchOrdering, int_cmp, max_by_ordering}
use Rattle.line.specs.Lists.{In}
use Rattle.project.specs.Waits.{Greatest}

abbrev pub larger : ℤ → ℤ → ℤ
larger x y = max_by_ordering (int_cmp x y) x y

larger-is : (x y : ℤ) → ((larger x y ≡ x) ⊎ (larger x y ≡ y)) × (x ≤ℤ larger x y) × (y ≤ℤ larger x y)
larger-is x y = by_order (int_cmp x y) (int_ranks x y)
  where
    by_order : (o : Ordering) → MatchOrdering o (x <ℤ y) (x ≡ y) (y <ℤ x)
        → ((max_by_ordering o x y ≡ x) ⊎ (max_by_ordering o x y ≡ y)) × (x ≤ℤ max_by_ordering o x y) × (y ≤ℤ max_by_ordering o x y)
    by_order Less h = (inr refl, omega (arith, ints, h), ≤ℤ_refl y)
    by_order Equal h = (inr refl, subst (λ z. x ≤ℤ z) h (≤ℤ_refl x), ≤ℤ_refl y)
    by_order Greater h = (inl refl, ≤ℤ_refl x, omega (arith, ints, h))

-- the fold from m is m or an element, and the greatest of them
folded : (xs : List ℤ) (m : ℤ) → ((fold larger m xs ≡ m) ⊎ In (fold larger m xs) xs) × (m ≤ℤ fold larger m xs) × ((w : ℤ) → In w xs → w ≤ℤ fold larger m xs)
folded [] m = (inl refl, ≤ℤ_refl m, λ w k. absurd k)
folded (x ∷ xs) m =
    let l = larger-is m x in
    let f = folded xs (larger m x) in (
      ⊎_elim (λ e. ⊎_elim (λ s. inl (e ∙ s)) (λ s. inr (inl (e ∙ s))) l.0) (λ k. inr (inr k)) f.0,
      omega (arith, ints, l.1, f.1),
      λ w k. ⊎_elim (λ e. subst (λ z. z ≤ℤ fold larger (larger m x) xs) (sym e) (omega (arith, ints, l.2, f.1))) (λ n. f.2 w n) k,
    )

greatest-of : (xs : List ℤ) → Greatest (λ w. In w xs) (reduce larger xs)
greatest-of [] = λ w k. k
greatest-of (x ∷ xs) =
    let f = folded xs x in (
      f.0,
      λ w k. ⊎_elim (λ e. subst (λ z. z ≤ℤ fold larger x xs) (sym e) f.1) (λ n. f.2 w n) k,
    )

greatest-same : (P Q : ℤ → Type 0) (v : Option ℤ) → ((w : ℤ) → P w → Q w) → ((w : ℤ) → Q w → P w) → Greatest P v → Greatest Q v
greatest-same P Q None to back g = λ w q. g w (back w q)
greatest-same P Q (Some m) to back g = (to m g.0, λ w q. g.1 w (back w q))

-- what is kept of a list comes from its elements
module _ {A : Type 0} (h : A → Option ℤ) where
  in-more : (w : ℤ) (v : Option ℤ) (ys : List ℤ) → In w ys → In w (cons_option v ys)
  in-more w None ys m = m
  in-more w (Some x) ys m = inr m

  to-kept : (w : ℤ) (xs : List A) (c : A) → In c xs → h c ≡ Some w → In w (filter_map h xs)
  to-kept w [] c m e = absurd m
  to-kept w (x ∷ xs) c (inl s) e = subst (λ v. In w (cons_option v (filter_map h xs))) (sym (ap h (sym s) ∙ e)) (inl refl)
  to-kept w (x ∷ xs) c (inr m) e = in-more w (h x) (filter_map h xs) (to-kept w xs c m e)

  from-kept : (w : ℤ) (xs : List A) → In w (filter_map h xs) → (c : A) × In c xs × (h c ≡ Some w)
  from-kept w [] m = absurd m
  from-kept w (x ∷ xs) m = by_first (h x) refl (λ k. let r = from-kept w xs k in (r.0, inr r.1, r.2)) m
    where
      by_first : (v : Option ℤ) → h x ≡ v → (In w (filter_map h xs) → (c : A) × In c (x ∷ xs) × (h c ≡ Some w)) → In w (cons_option v (filter_map h xs))
          → (c : A) × In c (x ∷ xs) × (h c ≡ Some w)
      by_first None e on k = on k
      by_first (Some y) e on (inl s) = (x, inl refl, e ∙ ap Some (sym s))
      by_first (Some y) e on (inr k) = on k

  pub greatest_kept : (xs : List A) → Greatest (λ w. (c : A) × In c xs × (h c ≡ Some w)) (reduce larger (filter_map h xs))
  greatest_kept xs =
      greatest-same (λ w. In w (filter_map h xs)) (λ w. (c : A) × In c xs × (h c ≡ Some w)) (reduce larger (filter_map h xs))
      (λ w m. from-kept w xs m) (λ w r. to-kept w xs r.0 r.1 r.2) (greatest-of (filter_map h xs))
