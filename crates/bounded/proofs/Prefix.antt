-- The first n records of an array, read and edited.
use Rattle.std.proofs.Common.{◌≡◌, ℕ, zero, suc, ◌-◌, ◌<◌, ◌≤◌, List, [], ◌∷◌, length, get_or, take, set, Some, None, sym, refl, ap, ◌∙◌, arith}
use Rattle.std.specs.List.{slice_get, remove}
use Rattle.std.proofs.lemmas.List.{length-take-le, get_or-take, take-take}
use Rattle.std.proofs.lemmas.Option.{none-some, slice_get-get_or, slice_get_within}
use Rattle.bounded.specs.Held.{final, front}

pub slice_get-take : {A : Type 0} (n : ℕ) (xs : List A) (i : ℕ) (d : A) → i < n → n ≤ length xs
    → slice_get (take n xs) i ≡ Some (get_or xs i d)
slice_get-take n xs i d lt le =
    let l : length (take n xs) ≡ n = length-take-le n xs le in
    slice_get-get_or (take n xs) i d (omega arith) ∙ ap Some (get_or-take n xs i d lt)

pub final-take : {A : Type 0} (n : ℕ) (xs : List A) (d : A) → 0 < n → n ≤ length xs
    → final (take n xs) ≡ Some (get_or xs (n - 1) d)
final-take n xs d pos le = rw (length-take-le n xs le) (slice_get-take n xs (n - 1) d (omega arith) le)

pub front-take : {A : Type 0} (n : ℕ) (xs : List A) → n ≤ length xs → front (take n xs) ≡ take (n - 1) xs
front-take n xs le = rw (length-take-le n xs le) (take-take (n - 1) n xs (omega arith))

pub take-of-set : {A : Type 0} (n : ℕ) (xs : List A) (i : ℕ) (x : A) → take n (set xs i x) ≡ set (take n xs) i x
take-of-set zero xs i x = refl
take-of-set (suc n) [] i x = refl
take-of-set (suc n) (y ∷ ys) zero x = refl
take-of-set (suc n) (y ∷ ys) (suc i) x = ap (λ zs. y ∷ zs) (take-of-set n ys i x)

-- a record that is read lies among the first n; where none is read, none is removed

pub read-within : {A : Type 0} (n : ℕ) (xs : List A) (i : ℕ) (x : A) → slice_get (take n xs) i ≡ Some x → n ≤ length xs → i < n
read-within n xs i x is le = omega (arith, slice_get_within (take n xs) i x is, length-take-le n xs le)

pub remove-none : {A : Type 0} (xs : List A) (i : ℕ) → slice_get xs i ≡ None → xs ≡ remove xs i
remove-none [] zero e = refl
remove-none [] (suc i) e = refl
remove-none (x ∷ xs) zero e = absurd (none-some x (sym e))
remove-none (x ∷ xs) (suc i) e = ap (λ l. x ∷ l) (remove-none xs i e)
