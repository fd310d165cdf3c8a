-- Sending outlet by outlet: what has been put so far and what is left to put make the whole.
use Rattle.std.proofs.Common.{◌≡◌, ℕ, zero, suc, ◌+◌, ◌<◌, ◌≤◌, List, [], ◌∷◌, ◌++◌, length, drop, sym, refl, ap, ◌∙◌, arith}
use Rattle.std.specs.List.{flat_map}
use Rattle.runs.specs.Lists.{put, put_all}
use Rattle.runs.specs.State.{ports}
use Rattle.runs.proofs.Lists.{length-put-all}

put-all-append : {A : Type 0} (f : A → ℕ) (xs ys zs : List A) → put_all f (xs ++ ys) zs ≡ put_all f ys (put_all f xs zs)
put-all-append f [] ys zs = refl
put-all-append f (x ∷ xs) ys zs = put-all-append f xs ys (put f x zs)

-- the next outlet, and those behind it
next-port : (o : ℕ) → o < 4 → drop o ports ≡ o ∷ drop (o + 1) ports
next-port zero h = refl
next-port (suc zero) h = refl
next-port (suc (suc zero)) h = refl
next-port (suc (suc (suc zero))) h = refl
next-port (suc (suc (suc (suc o)))) h = absurd (omega arith)

module _ {A : Type 0} (f : A → ℕ) (g : ℕ → List A) (zs : List A) where
  -- xs, with all from outlet o on, is what zs is with all
  abbrev pub SentSoFar : ℕ → List A → Type 0
  SentSoFar o xs = put_all f (flat_map g (drop o ports)) xs ≡ put_all f (flat_map g ports) zs

  turn : (o : ℕ) (xs : List A) → o < 4 → put_all f (flat_map g (drop o ports)) xs ≡ put_all f (flat_map g (drop (o + 1) ports)) (put_all f (g o) xs)
  turn o xs h = ap (λ os. put_all f (flat_map g os) xs) (next-port o h) ∙ put-all-append f (g o) (flat_map g (drop (o + 1) ports)) xs

  pub sent-more : (o : ℕ) (xs ys : List A) → o < 4 → SentSoFar o xs → ys ≡ put_all f (g o) xs → SentSoFar (o + 1) ys
  sent-more o xs ys h e q = ap (put_all f (flat_map g (drop (o + 1) ports))) q ∙ sym (turn o xs h) ∙ e

  -- each outlet finds room where all together do
  pub send-room : (n k o : ℕ) (xs : List A) → o < 4 → SentSoFar o xs → length zs + length (flat_map g ports) + k ≤ n →
      length xs + length (g o) + k ≤ n
  send-room n k o xs h e r =
      let before = length-put-all f (flat_map g ports) zs in
      let all = ap length (sym (turn o xs h) ∙ e) in
      let after = length-put-all f (flat_map g (drop (o + 1) ports)) (put_all f (g o) xs) in
      let one = length-put-all f (g o) xs in
      omega arith
