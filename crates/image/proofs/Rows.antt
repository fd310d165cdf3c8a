-- Records of one width, one after another.
use Rattle.std.proofs.Common.{◌≡◌, ℕ, suc, ◌+◌, ◌-◌, ◌*◌, ◌<◌, ◌≤◌, List, [], ◌∷◌, ◌++◌, length, get_or, take, drop, sym, refl, ap, ◌∙◌, subst, ⊎_elim, mul-zero, mul-suc, add-one, arith}
use Rattle.std.specs.List.{flat_map}
use Rattle.std.proofs.lemmas.Nat.{mul-le}
use Rattle.std.proofs.ByRecursion.{All-push}
use Rattle.std.proofs.lemmas.List.{length-append, length_push, take_at, drop_at, drop-drop, length-drop, take_more, flat_map_more, length-take-le}
use Rattle.std.proofs.lemmas.Bool.{cases_order, cases_lt}
use Rattle.image.specs.Bytes.{between, put}
use Rattle.image.specs.Reading.{Lowest, Got, GotAll, BadRow}
use Rattle.image.proofs.Judging.{Same}
use Rattle.image.proofs.Numbers.{between-add}
use Rattle.image.proofs.Puts.{put_next}

-- i records and one more end no later than n of them
pub before : (w i n : ℕ) → i < n → w * i + w ≤ w * n
before w i n h = omega (arith, mul-le w (suc i) w n (omega arith) h, mul-suc w i)

pub one_more : (w i : ℕ) → w * (i + 1) ≡ w * i + w
one_more w i = omega (arith, mul-suc w i, ap (λ k. w * k) (add-one i))

module _ {X : Type 0} (f : X → List ℕ) (w : ℕ) (even : (x : X) → length (f x) ≡ w) where
  pub length-flat_map : (xs : List X) → length (flat_map f xs) ≡ w * length xs
  length-flat_map [] = sym (mul-zero w)
  length-flat_map (x ∷ xs) =
      length-append (f x) (flat_map f xs) ∙ omega (arith, even x, length-flat_map xs, mul-suc w (length xs))

  -- one record more is written
  pub write-more : (d : List ℕ) (at i : ℕ) (xs : List X) (r r' : List ℕ) (z : X) → i < length xs → at ≤ length d
      → r ≡ put d at (flat_map f (take i xs)) → r' ≡ put r (at + w * i) (f (get_or xs i z))
      → r' ≡ put d at (flat_map f (take (i + 1) xs))
  write-more d at i xs r r' z h room e e' =
      let ys = flat_map f (take i xs) in
      let y = f (get_or xs i z) in
      let long : length (take i xs) ≡ i = length-take-le i xs (omega arith) in
      let far : at + length ys ≡ at + w * i = ap (λ m. at + m) (length-flat_map (take i xs) ∙ ap (λ m. w * m) long) in
      put_next d ys y at (at + w * i) room far e e'
      ∙ ap (put d at) (flat_map_more f [] (take i xs) (get_or xs i z) ∙ ap (flat_map f) (sym (take_more xs i z h)))

module _ {X : Type 0} (f : X → List ℕ) (w : ℕ) (fine : X → Type 0) (bad : List ℕ → ℕ → ℕ → Type 0) (bs : List ℕ)
    (at : ℕ) where
  -- one record more is read
  pub got-more : (i : ℕ) (xs : List X) (x : X) → GotAll f w fine bad bs at i xs
      → Got f fine (bad bs (at + w * i)) (between (at + w * i) w bs) x
      → GotAll f w fine bad bs at (i + 1) (xs ++ x ∷ [])
  got-more i xs x all one = record {
    many = length_push xs x ∙ ap (λ n. n + 1) all.many;
    spell = sym (flat_map_more f [] xs x) ∙ ap (λ s. s ++ f x) all.spell
        ∙ ap (λ s. between at (w * i) bs ++ s) one.spells
        ∙ sym (between-add at (w * i) w (at + w * i) bs refl) ∙ ap (λ n. between at n bs) (sym (one_more w i));
    in_range = All-push fine xs x all.in_range one.in_range;
    clean = λ k b. ⊎_elim
        (λ (e : b.0 ≡ i). one.clean b.1 (subst (λ (m : ℕ). bad bs (at + w * m) b.1) e b.4))
        (λ o.
        let lt : b.0 < i = ⊎_elim (λ l. l) (λ (l : i < b.0). absurd (omega (arith, b.2))) o in
        all.clean k (b.0, b.1, lt, b.3, b.4))
        (cases_order b.0 i);
  }

  -- the next record has a bad field
  pub low-more : (i n j : ℕ) (xs : List X) → GotAll f w fine bad bs at i xs → i < n → j < w
      → Lowest (bad bs (at + w * i)) j
      → (at + w * i + j < at + w * n) × Lowest (BadRow bad w bs at n) (at + w * i + j)
  low-more i n j xs all lt within low = (
    omega (arith, before w i n lt),
    record {
      here = (i, j, lt, refl, low.here);
      none_below = λ k less b. ⊎_elim
          (λ (e : b.0 ≡ i). low.none_below b.1 (omega (arith, b.3, ap (λ m. w * m) e))
          (subst (λ (m : ℕ). bad bs (at + w * m) b.1) e b.4))
          (⊎_elim
          (λ (l : b.0 < i). all.clean k (b.0, b.1, l, b.3, b.4))
          (λ (l : i < b.0). omega (arith, before w i b.0 l, b.3)))
          (cases_order b.0 i);
    },
  )

-- the next w bytes, and what follows them
pub next-part : (at w i : ℕ) (bs rest x more : List ℕ) → rest ≡ drop (at + w * i) bs → rest ≡ x ++ more → length x ≡ w
    → (x ≡ between (at + w * i) w bs) × (more ≡ drop (at + w * (i + 1)) bs)
next-part at w i bs rest x more e split l =
    let whole : x ++ more ≡ drop (at + w * i) bs = sym split ∙ e in
    let place : at + w * i + w ≡ at + w * (i + 1) = omega (arith, one_more w i) in (
      sym (take_at x more w l) ∙ ap (take w) whole,
      sym (drop_at x more w l) ∙ ap (drop w) whole ∙ drop-drop w (at + w * i) bs ∙ ap (λ k. drop k bs) place,
    )

-- a run of chunks that has ended has had them all
pub all_read : (at w i left many : ℕ) (bs rest : List ℕ) → left + i ≡ many → rest ≡ drop (at + w * i) bs
    → at + w * many ≤ length bs → (0 < left → length rest < w) → i ≡ many
all_read at w i left many bs rest count e room end =
    ⊎_elim (λ (none : left < 1). omega (arith, count))
    (λ (some : 1 ≤ left).
    let long : length rest ≡ length bs - (at + w * i) = ap length e ∙ length-drop (at + w * i) bs in
    absurd (omega (arith, end some, before w i many (omega (arith, count)), long)))
    (cases_lt left 1)

-- the same is said of each record
pub rows-same : (bad other : List ℕ → ℕ → ℕ → Type 0) (w : ℕ) (bs : List ℕ) (at n : ℕ)
    → ((i : ℕ) → i < n → Same (bad bs (at + w * i)) (other bs (at + w * i)))
    → Same (BadRow bad w bs at n) (BadRow other w bs at n)
rows-same bad other w bs at n s = record {
  to = λ k b. (b.0, b.1, b.2, b.3, (s b.0 b.2).to b.1 b.4);
  back = λ k b. (b.0, b.1, b.2, b.3, (s b.0 b.2).back b.1 b.4);
}
