-- Bytes and the numbers that they spell, at every width.
use Rattle.std.proofs.Common.{◌≡◌, ℕ, zero, suc, ◌+◌, ◌*◌, ◌/◌, ◌^◌, ◌<◌, ◌≤◌, List, [], ◌∷◌, ◌++◌, map, length, get_or, take, drop, sym, refl, ap, ◌∙◌, pow-suc, arith, lit<, take-add}
use Rattle.std.proofs.lemmas.List.{drop_more, drop-drop, drop-take, take-take, get_or-take, get_or-drop}
use Rattle.std.proofs.lemmas.Nat.{div_below}
use Rattle.image.specs.Bytes.{le, val, between}
use Rattle.image.specs.Refusals.{byte}

-- what is written is read again
pub val-le : (w x : ℕ) → x < 256 ^ w → val (le w x) ≡ x
val-le zero x h = omega arith
val-le (suc w) x h =
    let h' : x < 256 ^ w * 256 = rw pow-suc at h in
    let r : val (le w (x / 256)) ≡ x / 256 = val-le w (x / 256) (div_below x 256 (256 ^ w) (lit< tt) h') in
    omega arith

-- two parts, one behind the other
pub between-add : (at m n end : ℕ) (bs : List ℕ) → at + m ≡ end
    → between at (m + n) bs ≡ between at m bs ++ between end n bs
between-add at m n end bs e =
    take-add m n (drop at bs) ∙ ap (λ s. between at m bs ++ take n s) (drop-drop m at bs ∙ ap (λ k. drop k bs) e)

pub byte_of : (bs : List ℕ) (at n k : ℕ) → k < n → byte bs (at + k) ≡ get_or (between at n bs) k 0
byte_of bs at n k l = sym (get_or-take n (drop at bs) k 0 l ∙ get_or-drop at bs k 0)

-- a part of a part
pub between-within : (at i m r : ℕ) (bs : List ℕ) → between i m (between at (i + (m + r)) bs) ≡ between (at + i) m bs
between-within at i m r bs =
    ap (take m) (drop-take i (m + r) (drop at bs)) ∙ take-take m (m + r) (drop i (drop at bs)) (omega arith)
    ∙ ap (take m) (drop-drop i at bs)

-- the places from a on
abbrev pub From : ℕ → List ℕ → Type 0
From a [] = Unit {0}
From a (p ∷ ps) = (p ≡ a) × From (a + 1) ps

-- bytes by their places
pub bytes-at : (bs : List ℕ) (a : ℕ) (ps : List ℕ) → From a ps → a + length ps ≤ length bs
    → map (byte bs) ps ≡ between a (length ps) bs
bytes-at bs a [] r h = refl
bytes-at bs a (p ∷ ps) r h =
    let here = ap (byte bs) r.0 in
    let rest = bytes-at bs (a + 1) ps r.1 (omega arith) in
    let more = ap (take (suc (length ps))) (drop_more bs a 0 (omega arith)) in
    cc
