-- Bytes written over others, one write after another.
use Rattle.std.proofs.Common.{◌≡◌, ℕ, suc, ◌+◌, ◌<◌, ◌≤◌, List, [], ◌∷◌, ◌++◌, length, take, drop, set, sym, ap, ◌∙◌, arith}
use Rattle.std.proofs.lemmas.List.{append_assoc, length-append, length-take, take_at, drop_at, drop-drop, take-append-drop, set_split}
use Rattle.image.specs.Bytes.{put}

pub put-none : (d : List ℕ) (at : ℕ) → put d at [] ≡ d
put-none d at =
    let z : at + 0 ≡ at = omega arith in
    ap (λ m. take at d ++ drop m d) z ∙ take-append-drop at d

pub put_one : (d : List ℕ) (at b : ℕ) → at < length d → set d at b ≡ put d at (b ∷ [])
put_one d at b h =
    let e : suc at ≡ at + 1 = omega arith in
    set_split d at b h ∙ ap (λ m. take at d ++ (b ∷ drop m d)) e

-- a write right behind another is one write
pub put-put : (d s u : List ℕ) (at m : ℕ) → at ≤ length d → at + length s ≡ m → put (put d at s) m u ≡ put d at (s ++ u)
put-put d s u at m h e =
    let p = take at d ++ s in
    let n = m + length u in
    let lp : length p ≡ m = simp (length-append, length-take) (omega arith) in
    let whole : put d at s ≡ p ++ drop m d
    = ap (λ k. take at d ++ (s ++ drop k d)) e ∙ sym (append_assoc (take at d) s (drop m d)) in
    let front : take m (put d at s) ≡ p = ap (take m) whole ∙ take_at p (drop m d) m lp in
    let rest : drop m (put d at s) ≡ drop m d = ap (drop m) whole ∙ drop_at p (drop m d) m lp in
    let back : drop n (put d at s) ≡ drop n d
    = sym (drop-drop (length u) m (put d at s)) ∙ ap (drop (length u)) rest ∙ drop-drop (length u) m d in
    let far : n ≡ at + length (s ++ u) = simp length-append (omega arith) in
    ap (λ x. x ++ (u ++ drop n (put d at s))) front
    ∙ ap (λ x. p ++ (u ++ x)) (back ∙ ap (λ k. drop k d) far)
    ∙ append_assoc (take at d) s (u ++ drop (at + length (s ++ u)) d)
    ∙ ap (λ x. take at d ++ x) (sym (append_assoc s u (drop (at + length (s ++ u)) d)))

pub put_next : (d s u : List ℕ) (at m : ℕ) {r r' : List ℕ} → at ≤ length d → at + length s ≡ m
    → r ≡ put d at s → r' ≡ put r m u → r' ≡ put d at (s ++ u)
put_next d s u at m h e p q = q ∙ ap (λ b. put b m u) p ∙ put-put d s u at m h e
