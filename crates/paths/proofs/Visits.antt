-- Where a path with inner places up to k comes to k and leaves it, and how short it can be. Assumes nothing.
use Rattle.std.proofs.Common.{◌≡◌, ℕ, zero, suc, ◌^◌, ◌<◌, ◌⊎◌, List, [], ◌∷◌, ◌++◌, length, ap, subst, inl, inr, ⊎_elim, pow-suc, arith, lit<}
use Rattle.std.proofs.ByRecursion.{All-append, All-weaker}
use Rattle.std.proofs.lemmas.List.{length-append}
use Rattle.std.proofs.lemmas.Bool.{cases_eq}
use Rattle.paths.specs.Paths.{Below, Linked}

-- a path that comes to k: by p to the first time
abbrev pub First : ℕ → List ℕ → Type 0
First k q = (p s : List ℕ) × Below k p × Below (suc k) s × (q ≡ p ++ k ∷ s)

-- and by r on from the last time
abbrev pub Last : ℕ → List ℕ → Type 0
Last k q = (m r : List ℕ) × Below k r × (q ≡ m ++ k ∷ r)

pub first : (k : ℕ) (q : List ℕ) → Below (suc k) q → Below k q ⊎ First k q
first k [] b = inl tt
first k (v ∷ q) b =
    ⊎_elim
    (λ same. inr ([], q, tt, b.1, ap (λ u. u ∷ q) same))
    (λ other.
    let low : v < k = omega (arith, b.0, other) in
    ⊎_elim
    (λ rest. inl (low, rest))
    (λ w. inr (v ∷ w.0, w.1, (low, w.2), w.3, ap (λ l. v ∷ l) w.4))
    (first k q b.1))
    (cases_eq v k)

pub last : (k : ℕ) (q : List ℕ) → Below (suc k) q → Below k q ⊎ Last k q
last k [] b = inl tt
last k (v ∷ q) b =
    ⊎_elim
    (λ rest.
    ⊎_elim
    (λ same. inr ([], q, rest, ap (λ u. u ∷ q) same))
    (λ other. inl (omega (arith, b.0, other), rest))
    (cases_eq v k))
    (λ w. inr (v ∷ w.0, w.1, w.2, ap (λ l. v ∷ l) w.3))
    (last k q b.1)

pub below_more : (k : ℕ) (p : List ℕ) → Below k p → Below (suc k) p
below_more k p b = All-weaker (λ v. v < k) (λ v. v < suc k) (λ v h. omega arith) p b

module _ (E : ℕ → ℕ → Type 0) where
  join-linked : (i k j : ℕ) (p q : List ℕ) → Linked E i p k → Linked E k q j → Linked E i (p ++ k ∷ q) j
  join-linked i k j [] q a b = (a, b)
  join-linked i k j (v ∷ p) q a b = (a.0, join-linked v k j p q a.1 b)

  part-linked : (i k j : ℕ) (p q : List ℕ) → Linked E i (p ++ k ∷ q) j → Linked E i p k × Linked E k q j
  part-linked i k j [] q l = l
  part-linked i k j (v ∷ p) q l = let w = part-linked v k j p q l.1 in ((l.0, w.0), w.1)

  -- the way on from the last time at k
  from_last : (k j : ℕ) (s : List ℕ) → Below (suc k) s → Linked E k s j
      → (r : List ℕ) × Below k r × Linked E k r j
  from_last k j s b l =
      ⊎_elim
      (λ low. (s, low, l))
      (λ w. (w.1, w.2, (part-linked k k j w.0 w.1 (subst (λ q. Linked E k q j) w.3 l)).1))
      (last k s b)

  -- where there is a path with inner places below k, there is one with fewer than 2 ^ k of them
  pub shorten : (k i j : ℕ) (q : List ℕ) → Below k q → Linked E i q j
      → (p : List ℕ) × Below k p × Linked E i p j × (length p < 2 ^ k)
  shorten zero i j [] b l = ([], tt, l, lit< tt)
  shorten zero i j (v ∷ q) b l = absurd (omega (arith, b.0))
  shorten (suc k) i j q b l =
      ⊎_elim
      (λ low.
      let p = shorten k i j q low l in
      (p.0, below_more k p.0 p.1, p.2, rw pow-suc (omega (arith, p.3))))
      (λ w.
      let l' = part-linked i k j w.0 w.1 (subst (λ q. Linked E i q j) w.4 l) in
      let s = from_last k j w.1 w.3 l'.1 in
      let p = shorten k i k w.0 w.2 l'.0 in
      let r = shorten k k j s.0 s.1 s.2 in
      let low : k < suc k = omega arith in
      let from-k : Below (suc k) (k ∷ r.0) = (low, below_more k r.0 r.1) in (
        p.0 ++ k ∷ r.0,
        All-append (λ v. v < suc k) p.0 (k ∷ r.0) (below_more k p.0 p.1) from-k,
        join-linked i k j p.0 r.0 p.2 r.2,
        rw (pow-suc, length-append) (omega (arith, p.3, r.3)),
      ))
      (first k q b)
