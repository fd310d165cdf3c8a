-- The first n records of an array, after those from a place on were copied one place up or down.
use Rattle.std.proofs.Common.{◌≡◌, ℕ, suc, ◌+◌, ◌-◌, ◌<◌, ◌≤◌, List, [], ◌∷◌, ◌++◌, length, get_or, take, drop, set, Some, sym, ap, ◌∙◌, arith}
use Rattle.std.specs.List.{copy_within, insert, remove, slice_get}
use Rattle.std.proofs.lemmas.List.{length-take-le, length-drop, take-take, take_more, drop-take, set_at, append_assoc}
use Rattle.std.proofs.lemmas.List.Edits.{take-paste}
use Rattle.bounded.proofs.Prefix.{read-within, take-of-set}

module _ {A : Type 0} (xs : List A) (n i : ℕ) where
  front : i ≤ n → take i xs ≡ take i (take n xs)
  front le = sym (take-take i n xs le)

  back : (k : ℕ) → k ≤ n → take (n - k) (drop k xs) ≡ drop k (take n xs)
  back k le =
      let e : k + (n - k) ≡ n = omega arith in
      sym (drop-take k (n - k) xs) ∙ ap (λ m. drop k (take m xs)) e

  pub closed : (x : A) → slice_get (take n xs) i ≡ Some x → n ≤ length xs → take (n - 1) (copy_within xs (i + 1) n i) ≡ remove (take n xs) i
  closed x is fits =
      let lt = read-within n xs i x is fits in
      let zs = drop (i + 1) xs in
      let long : length zs ≡ length xs - (i + 1) = length-drop (i + 1) xs in
      let e : n - 1 ≡ i + (n - (i + 1)) = omega arith in
      let on : i + 1 ≡ suc i = omega arith in
      let read = ap (λ m. take m (copy_within xs (i + 1) n i)) e ∙ take-paste xs i zs (n - (i + 1)) (omega arith) (omega arith) in
      let rest = back (i + 1) (omega arith) ∙ ap (λ m. drop m (take n xs)) on in
      read ∙ (λ t. front (omega arith) t ++ rest t)

  pub opened : (x : A) → i ≤ n → n < length xs
      → take (n + 1) (set (copy_within xs i n (i + 1)) i x) ≡ insert (take n xs) i x
  opened x le room =
      let ys = copy_within xs i n (i + 1) in
      let zs = take (n - i) (drop i xs) in
      let y = get_or xs i x in
      let long : length (drop i xs) ≡ length xs - i = length-drop i xs in
      let e : n + 1 ≡ (i + 1) + (n - i) = omega arith in
      let read = ap (λ m. take m ys) e ∙ take-paste xs (i + 1) (drop i xs) (n - i) (omega arith) (omega arith) in
      let split = ap (λ l. l ++ zs) (take_more xs i x (omega arith)) ∙ append_assoc (take i xs) (y ∷ []) zs in
      let put = set_at (take i xs) y zs x i (length-take-le i xs (omega arith)) in
      take-of-set (n + 1) ys i x ∙ ap (λ l. set l i x) (read ∙ split) ∙ put ∙ (λ t. front le t ++ x ∷ back i le t)
