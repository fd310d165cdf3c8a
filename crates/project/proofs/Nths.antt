-- Reading a list at a place that it may not have.
use Rattle.std.proofs.Common.{◌≡◌, ℕ, zero, suc, ◌+◌, ◌<◌, ◌≤◌, List, length, get_or, Some, None, Option, sym, refl, ap, ◌∙◌, subst, ⊎_elim, arith}
use Rattle.std.proofs.lemmas.List.{get_or_past}
use Rattle.std.proofs.lemmas.Option.{slice_get-get_or as nth-getD, slice_get_past as nth_past, unwrap_or-slice_get}
use Rattle.std.proofs.lemmas.Bool.{cases_eq, cases_lt}
use Rattle.std.specs.Array.{IsFromFnResultFrom}
use Rattle.std.specs.Fn.{Called}
use denote.Param.Members.{Mut}
use Rattle.std.specs.List.{slice_get}
use Rattle.std.specs.Option.{option_map, unwrap_or}

pub slice_get-some : {A : Type 0} (xs : List A) (i : ℕ) (x d : A) → Some x ≡ slice_get xs i → (i < length xs) × (x ≡ get_or xs i d)
slice_get-some xs i x d e =
    ⊎_elim
    (λ lt. (lt, let s = e ∙ nth-getD xs i d lt in cc))
    (λ ge. let s = e ∙ nth_past xs i ge in let z : ◌≡◌ {A = ℕ} 0 1 = cc in absurd (omega arith))
    (cases_lt i (length xs))

pub slice_get-none : {A : Type 0} (xs : List A) (i : ℕ) (d : A) → None ≡ slice_get xs i → (length xs ≤ i) × (d ≡ get_or xs i d)
slice_get-none xs i d e =
    ⊎_elim
    (λ lt. let s = e ∙ nth-getD xs i d lt in let z : ◌≡◌ {A = ℕ} 0 1 = cc in absurd (omega arith))
    (λ ge. (ge, sym (get_or_past xs i d ge)))
    (cases_lt i (length xs))

-- a field of the element, or of what stands in for it
pub field-got : {A B : Type 0} (h : A → B) (xs : List A) (i : ℕ) (d : A) → unwrap_or (option_map h (slice_get xs i)) (h d) ≡ h (get_or xs i d)
field-got {A = A} h xs i d = mapped (slice_get xs i) ∙ ap h (unwrap_or-slice_get xs i d)
  where
    mapped : (v : Option A) → unwrap_or (option_map h v) (h d) ≡ h (unwrap_or v d)
    mapped None = refl
    mapped (Some x) = refl

-- an array of what calls gave at each number, where no call changes what the closure holds
pub at-each : {F B : Type 0} (g : Mut F (ℕ × Unit {0}) B) (f : F) (ys : List B) (P : ℕ → B → Type 0) (n i k : ℕ) (d : B)
    → ((j : ℕ) (y : B) (q : F) → j < i + n → Called g f (j, tt) y q → (q ≡ f) × P j y) → IsFromFnResultFrom g f ys i n → i ≤ k → k < i + n → P k (get_or ys k d)
at-each g f ys P zero i k d told w low h = absurd (omega (arith, low, h))
at-each g f ys P (suc n) i k d told w low h =
    let here = told i w.1 w.0 (omega arith) w.3 in
    ⊎_elim
    (λ e. subst (λ (j : ℕ). P j (get_or ys j d)) e (subst (P i) (sym (w.2.1 d)) here.1))
    (λ ne. at-each g f ys P n (i + 1) k d (λ j y q l. told j y q (omega (arith, l))) (subst (λ s. IsFromFnResultFrom g s ys (i + 1) n) here.0 w.4) (omega (arith, low, ne)) (omega (arith, h)))
    (cases_eq i k)
