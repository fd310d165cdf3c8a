-- The place of a record among others: before the first of greater rank.
use Rattle.std.proofs.Common.{◌≡◌, ℕ, suc, ◌+◌, ◌<◌, ◌≤◌, Bool, true, false, cond, not, nat_lt, List, [], ◌∷◌, length, Some, None, position, unwrap_or, refl, ap, ◌∙◌, arith}
use Rattle.std.specs.List.{insert, position_or_len}
use Rattle.std.proofs.lemmas.Bool.{cond-true, cond-false, cond_both, lt-ltb, le-ltb, ltb-false}
use Rattle.queue.specs.Order.{put}

module _ {A : Type 0} (rank : A → ℕ) (x : A) where
  pub put-before : (y : A) (ys : List A) → rank x < rank y → put rank x (y ∷ ys) ≡ x ∷ y ∷ ys
  put-before y ys lt = cond-true _ _ _ (lt-ltb (rank x) (rank y) lt)

  pub put-behind : (y : A) (ys : List A) → rank y ≤ rank x → put rank x (y ∷ ys) ≡ y ∷ put rank x ys
  put-behind y ys le = cond-false _ _ _ (le-ltb (rank x) (rank y) le)

  -- the place is that of the first record of greater rank, or the end

  goes : (y : A) (ys ps : List A) (m : ℕ) (b : Bool) → insert ys m x ≡ ps
      → insert (y ∷ ys) (cond (not b) (1 + m) 0) x ≡ cond b (x ∷ y ∷ ys) (y ∷ ps)
  goes y ys ps m true h = refl
  goes y ys ps m false h =
      let on : 1 + m ≡ suc m = omega arith in
      ap (λ n. insert (y ∷ ys) n x) on ∙ ap (λ l. y ∷ l) h

  abbrev over : A → Bool
  over y = nat_lt (rank x) (rank y)

  first-over : (xs : List A) → insert xs (position_or_len over xs) x ≡ put rank x xs
  first-over [] = refl
  first-over (y ∷ ys) = goes y ys (put rank x ys) (position_or_len over ys) (over y) (first-over ys)

  within : (xs : List A) → position_or_len over xs ≤ length xs
  within [] = omega arith
  within (y ∷ ys) =
      let rest = within ys in
      cond_both (not (over y)) (1 + position_or_len over ys) 0 (λ n. n ≤ length (y ∷ ys)) (λ _. omega arith) (λ _. omega arith)

  or-end : (xs : List A) → unwrap_or (position over xs) (length xs) ≡ position_or_len over xs
  or-end xs =
      let n = position_or_len over xs in
      let le = within xs in
      cond_both (nat_lt n (length xs)) (Some n) None (λ o. unwrap_or o (length xs) ≡ n) (λ _. refl) (λ f. omega (arith, ltb-false n (length xs) f))

  pub placed : (xs : List A) (i : ℕ) → i ≡ unwrap_or (position (λ y. nat_lt (rank x) (rank y)) xs) (length xs)
      → insert xs i x ≡ put rank x xs
  placed xs i is = ap (λ n. insert xs n x) (is ∙ or-end xs) ∙ first-over xs
