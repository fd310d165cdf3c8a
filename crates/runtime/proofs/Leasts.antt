-- The least of what a loop has kept so far.
use Rattle.std.proofs.Common.{◌≡◌, ℕ, ◌+◌, ◌<◌, min, Bool, true, false, cond, ◌&&◌, eqb, List, [], ◌∷◌, ◌++◌, length, get_or, take, pos, Some, None, Option, refl, ap, ◌∙◌, append-nil, arith, length-append}
use Rattle.std.specs.List.{find}
use Rattle.std.specs.Option.{option_map}
use Rattle.runs.specs.State.{value_for}
use Rattle.runs.specs.declared.records.Event.{Event}
use Rattle.std.proofs.lemmas.List.{take_more}
use Rattle.runs.specs.Lists.{keep, least, lower}
use Rattle.runs.proofs.Lists.{keep_append}

swapped : (x y : ℕ) (v : Option ℕ) → min y (lower x v) ≡ min x (lower y v)
swapped x y None = omega arith
swapped x y (Some m) = omega arith

least-push : {A : Type 0} (f : A → ℕ) (x : A) (xs : List A) → least f (xs ++ x ∷ []) ≡ Some (lower (f x) (least f xs))
least-push f x [] = refl
least-push f x (y ∷ ys) =
    ap (λ v. Some (lower (f y) v)) (least-push f x ys) ∙ ap Some (swapped (f x) (f y) (least f ys))

module _ {A : Type 0} (f : A → ℕ) (p : A → Bool) (xs : List A) (i : ℕ) (d : A) (h : i < length xs) where
  kept-one : (b : Bool) → p (get_or xs i d) ≡ b → keep p (take (i + 1) xs) ≡ keep p (take i xs) ++ cond b (get_or xs i d ∷ []) []
  kept-one b e = ap (keep p) (take_more xs i d h) ∙ keep_append p (take i xs) (get_or xs i d ∷ []) ∙ ap (λ b. keep p (take i xs) ++ cond b (get_or xs i d ∷ []) []) e

  pub length_more : p (get_or xs i d) ≡ true → length (keep p (take (i + 1) xs)) ≡ length (keep p (take i xs)) + 1
  length_more e = ap length (kept-one true e) ∙ length-append (keep p (take i xs)) (get_or xs i d ∷ [])

  pub length-same : p (get_or xs i d) ≡ false → length (keep p (take (i + 1) xs)) ≡ length (keep p (take i xs))
  length-same e = ap length (kept-one false e ∙ append-nil (keep p (take i xs)))

  pub least_more : p (get_or xs i d) ≡ true → least f (keep p (take (i + 1) xs)) ≡ Some (lower (f (get_or xs i d)) (least f (keep p (take i xs))))
  least_more e = ap (least f) (kept-one true e) ∙ least-push f (get_or xs i d) (keep p (take i xs))

  pub least-same : p (get_or xs i d) ≡ false → least f (keep p (take (i + 1) xs)) ≡ least f (keep p (take i xs))
  least-same e = ap (least f) (kept-one false e ∙ append-nil (keep p (take i xs)))

-- what a loop reads past the end of the events
abbrev pub no_event : Event
no_event = record { actor = 0; inlet = 0; timestamp = 0; value = pos 0 }

-- the value for an inlet among the events that pass a test is that of the first that passes it and is for the inlet
mapped : (b c : Bool) (e : Event) (rest : Option Event) (j : ℕ) (es : List Event) (p : Event → Bool)
    → eqb e.inlet j ≡ c → option_map (λ x. x.value) rest ≡ value_for j (keep p es)
    → option_map (λ x. x.value) (cond (b && c) (Some e) rest) ≡ value_for j (cond b (e ∷ keep p es) (keep p es))
mapped true true e rest j es p q h = rw q refl
mapped true false e rest j es p q h = rw q h
mapped false c e rest j es p q h = h

pub value_first : (p : Event → Bool) (j : ℕ) (es : List Event)
    → option_map (λ x. x.value) (find (λ e. p e && eqb e.inlet j) es) ≡ value_for j (keep p es)
value_first p j [] = refl
value_first p j (e ∷ es) = mapped (p e) (eqb e.inlet j) e _ j es p refl (value_first p j es)
