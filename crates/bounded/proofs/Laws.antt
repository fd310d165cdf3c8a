-- What callers may use of bounded lists.
use Rattle.std.proofs.Common.{◌≡◌, ℕ, ◌-◌, ◌≤◌, List, [], ◌∷◌, ◌++◌, length, Some, refl, ap, ◌∙◌, arith}
use Rattle.std.proofs.lemmas.List.{length-take-le, length_push, get_or_push, take_at}
use Rattle.std.proofs.lemmas.Option.{slice_get-get_or}
use Rattle.bounded.specs.declared.Bounded.{Bounded}
use Rattle.bounded.specs.Held.{held, final, front}

-- a list never holds more than it has room for
pub held_fits : {A : Type 0} {n : ℕ} (b : Bounded A n) → length (held b) ≤ n
held_fits b =
    let fits = b.fits in
    let whole = b.whole in
    rw (length-take-le b.len b.items (omega arith)) fits

-- what was pushed last is what `pop` takes, and what it leaves is what stood before
pub final-push : {A : Type 0} (xs : List A) (x : A) → final (xs ++ x ∷ []) ≡ Some x
final-push xs x =
    let long = length_push xs x in
    let n : length (xs ++ x ∷ []) - 1 ≡ length xs = omega arith in
    let read = slice_get-get_or (xs ++ x ∷ []) (length xs) x (omega arith) in
    rw n (read ∙ ap Some (get_or_push xs x x (length xs) refl))

pub front-push : {A : Type 0} (xs : List A) (x : A) → front (xs ++ x ∷ []) ≡ xs
front-push xs x =
    let n : length (xs ++ x ∷ []) - 1 ≡ length xs = omega (arith, length_push xs x) in
    rw n (take_at xs (x ∷ []) (length xs) refl)
