-- The turns of the loop that keeps records: each asks a closure about one more.
use Rattle.std.proofs.Common.{◌≡◌, ℕ, ◌+◌, ◌<◌, ◌≤◌, Bool, true, false, List, [], ◌∷◌, ◌++◌, length, get_or, set, sym, ap, ◌∙◌, arith}
use Rattle.std.specs.List.Retain.{ReturnsInTurn}
use Rattle.std.proofs.Retain.{RetainInvariant, retain_drops, retain_unvisited, picked_push_true, answers_push}
use Rattle.std.proofs.lemmas.List.{length-append, take_more_set, drop-set-lt}

-- A closure that began as f, and is now g, was asked about the first i of xs: those that it keeps
-- stand in the first k places of ys, and those from i on stand where they stood.
pub record Kept {A F : Type 0} (R : F → A → Bool → F → Type 0) (f : F) (xs ys : List A) (g : F) (k i : ℕ) : Type 0 where
  pub answers : List Bool
  pub moved : RetainInvariant answers xs ys k i
  pub told : ReturnsInTurn R f answers xs g

module _ {A F : Type 0} {R : F → A → Bool → F → Type 0} {f g : F} {xs ys : List A} {k i : ℕ} {x : A} (was : Kept R f xs ys g k i) (lt : i < length xs) (is : x ≡ get_or ys i x) where
  read : x ≡ get_or xs (length was.answers) x
  read = is ∙ retain_unvisited was.answers xs ys k i x was.moved

  asked : (h : F) (b : Bool) → R g x b h → ReturnsInTurn R f (was.answers ++ b ∷ []) xs h
  asked h b called = let l = was.moved.0 in answers_push R f g h was.answers xs x b (omega arith) read was.told called

  pub leaves : {h : F} → R g x false h → Kept R f xs ys h k (i + 1)
  leaves {h} called =
      record {
        answers = was.answers ++ false ∷ [];
        moved = retain_drops was.answers xs ys k i was.moved;
        told = asked h false called;
      }

  pub keeps : {h : F} → k ≤ i → length ys ≡ length xs → R g x true h → Kept R f xs (set ys k x) h (k + 1) (i + 1)
  keeps {h} le long called =
      let bs = was.answers in
      let l = was.moved.0 in
      let more : length (bs ++ true ∷ []) ≡ i + 1 = length-append bs (true ∷ []) ∙ ap (λ n. n + 1) l in
      let front = take_more_set ys k x (omega arith) ∙ (λ t. was.moved.1.0 t ++ read t ∷ []) ∙ sym (picked_push_true bs xs x (omega arith)) in
      let rest = drop-set-lt (i + 1) ys k x (omega arith) ∙ (retain_drops bs xs ys k i was.moved).1.1 in
      record {
        answers = bs ++ true ∷ [];
        moved = (more, (front, rest));
        told = asked h true called;
      }
