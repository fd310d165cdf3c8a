-- What keeps a list in order, and which records it then has.
use Rattle.std.proofs.Common.{◌≡◌, ℕ, zero, suc, ◌<◌, ◌≤◌, Bool, true, false, cond, not, ltb, ◌⊎◌, List, [], ◌∷◌, length, Some, filter, sym, refl, ap, ◌∙◌, inl, inr, ⊎_elim, arith}
use Rattle.std.specs.List.{items_where_true, remove, slice_get}
use Rattle.std.proofs.lemmas.Bool.{cases_lt, cases_Bool, cond_both}
use Rattle.queue.specs.Order.{put, In, Least, Ascending, Foremost, Placed, OrderLaws}
use Rattle.queue.proofs.Place.{put-before, put-behind}

-- the records of an edited list

pub in-slice_get : {A : Type 0} (z : A) (xs : List A) (i : ℕ) → slice_get xs i ≡ Some z → In z xs
in-slice_get z [] i h = let no : ◌≡◌ {A = ℕ} 0 1 = cc in absurd (omega arith)
in-slice_get z (y ∷ ys) zero h = inl cc
in-slice_get z (y ∷ ys) (suc i) h = inr (in-slice_get z ys i h)

pub in-removed : {A : Type 0} (z : A) (xs : List A) (i : ℕ) → In z (remove xs i) → In z xs
in-removed z [] zero h = h
in-removed z [] (suc i) h = h
in-removed z (y ∷ ys) zero h = inr h
in-removed z (y ∷ ys) (suc i) h = ⊎_elim inl (λ t. inr (in-removed z ys i t)) h

pub in_kept : {A : Type 0} (p : A → Bool) (z : A) (xs : List A) → In z (filter p xs) → (p z ≡ true) × In z xs
in_kept p z [] h = absurd h
in_kept p z (y ∷ ys) h =
    let later : In z (filter p ys) → (p z ≡ true) × In z (y ∷ ys) = λ k. let r = in_kept p z ys k in (r.0, inr r.1) in
    let here : p y ≡ true → z ≡ y → (p z ≡ true) × In z (y ∷ ys) = λ t e. (ap p e ∙ t, inl e) in
    ⊎_elim
    (λ (t : p y ≡ true). ⊎_elim (here t) later (rw t at h))
    (λ (f : p y ≡ false). later (rw f at h))
    (cases_Bool (p y))

pub kept_in : {A : Type 0} (p : A → Bool) (z : A) (xs : List A) → p z ≡ true → In z xs → In z (filter p xs)
kept_in p z [] t h = h
kept_in p z (y ∷ ys) t h =
    let held = filter p ys in
    let later : In z ys → In z held = kept_in p z ys t in
    ⊎_elim
    (λ (e : z ≡ y). let s : p y ≡ true = ap p (sym e) ∙ t in rw s (inl e))
    (λ (k : In z ys). cond_both (p y) (y ∷ held) held (λ l. In z l) (λ _. inr (later k)) (λ _. later k))
    h

pub length-put : {A : Type 0} (rank : A → ℕ) (x : A) (xs : List A) → length (put rank x xs) ≡ suc (length xs)
length-put rank x [] = refl
length-put rank x (y ∷ ys) =
    let h = length-put rank x ys in
    let long : List _ → Type 0 = λ l. length l ≡ suc (suc (length ys)) in
    cond_both (ltb (rank x) (rank y)) (x ∷ y ∷ ys) (y ∷ put rank x ys) long (λ _. refl) (λ _. ap suc h)

pub in-put : {A : Type 0} (rank : A → ℕ) (x z : A) (xs : List A) → In z (put rank x xs) → (z ≡ x) ⊎ In z xs
in-put rank x z [] h = h
in-put rank x z (y ∷ ys) h =
    let later : In z (put rank x ys) → (z ≡ x) ⊎ In z (y ∷ ys) = λ k. ⊎_elim inl (λ r. inr (inr r)) (in-put rank x z ys k) in
    ⊎_elim
    (λ (lt : rank x < rank y). rw (put-before rank x y ys lt) at h)
    (λ (le : rank y ≤ rank x). ⊎_elim (λ e. inr (inl e)) later (rw (put-behind rank x y ys le) at h))
    (cases_lt (rank x) (rank y))

pub put_in : {A : Type 0} (rank : A → ℕ) (x z : A) (xs : List A) → (z ≡ x) ⊎ In z xs → In z (put rank x xs)
put_in rank x z [] h = h
put_in rank x z (y ∷ ys) h =
    let later : (z ≡ x) ⊎ In z ys → In z (y ∷ put rank x ys) = λ k. inr (put_in rank x z ys k) in
    let behind : In z (y ∷ put rank x ys) = ⊎_elim (λ e. later (inl e)) (⊎_elim inl (λ k. later (inr k))) h in
    ⊎_elim
    (λ (lt : rank x < rank y). rw (put-before rank x y ys lt) h)
    (λ (le : rank y ≤ rank x). rw (put-behind rank x y ys le) behind)
    (cases_lt (rank x) (rank y))

-- what keeps the order

pub put-ascends : {A : Type 0} (rank : A → ℕ) (x : A) (xs : List A)
    → Ascending rank xs → Ascending rank (put rank x xs)
put-ascends rank x [] h = (λ y i. absurd i, tt)
put-ascends rank x (y ∷ ys) h =
    let first : rank x < rank y → Least rank x (y ∷ ys) = λ lt z. ⊎_elim (λ e. rw e (omega arith)) (λ k. omega (arith, h.0 z k)) in
    let stays : rank y ≤ rank x → Least rank y (put rank x ys) = λ le z i. ⊎_elim (λ e. rw e le) (h.0 z) (in-put rank x z ys i) in
    ⊎_elim
    (λ (lt : rank x < rank y). rw (put-before rank x y ys lt) (first lt, h))
    (λ (le : rank y ≤ rank x). rw (put-behind rank x y ys le) (stays le, put-ascends rank x ys h.1))
    (cases_lt (rank x) (rank y))

-- at the front of a list, whose first record has a greater rank
placed_first : {A : Type 0} (rank : A → ℕ) (x y : A) (ys : List A)
    → rank x < rank y → Least rank y ys → Placed rank x (y ∷ ys) (put rank x (y ∷ ys))
placed_first rank x y ys lt low =
    record {
      front = [];
      back = y ∷ ys;
      was = refl;
      is = put-before rank x y ys lt;
      none_greater = λ z i. absurd i;
      all_greater = λ z. ⊎_elim (λ e. rw e lt) (λ k. omega (arith, low z k));
    }

-- behind a record of no greater rank, as it is placed among the rest
placed-later : {A : Type 0} (rank : A → ℕ) (x y : A) (ys : List A)
    → rank y ≤ rank x → Placed rank x ys (put rank x ys) → Placed rank x (y ∷ ys) (put rank x (y ∷ ys))
placed-later rank x y ys le r =
    record {
      front = y ∷ r.front;
      back = r.back;
      was = ap (λ l. y ∷ l) r.was;
      is = put-behind rank x y ys le ∙ ap (λ l. y ∷ l) r.is;
      none_greater = λ z. ⊎_elim (λ e. rw e le) (r.none_greater z);
      all_greater = r.all_greater;
    }

-- x was inserted, or the list stayed as it was
pub inserted-ascends : {A : Type 0} (rank : A → ℕ) (x : A) (xs ys ps : List A) (ok : Bool)
    → ps ≡ put rank x xs → ys ≡ cond ok ps xs → Ascending rank xs → Ascending rank ys
inserted-ascends rank x xs ys ps ok places after h =
    let done : Ascending rank ps = rw places (put-ascends rank x xs h) in
    rw after (cond_both ok ps xs (Ascending rank) (λ _. done) (λ _. h))

pub put-places : {A : Type 0} (rank : A → ℕ) (x : A) (xs : List A)
    → Ascending rank xs → Placed rank x xs (put rank x xs)
put-places rank x [] h =
    record {
      front = [];
      back = [];
      was = refl;
      is = refl;
      none_greater = λ y i. absurd i;
      all_greater = λ y i. absurd i;
    }
put-places rank x (y ∷ ys) h =
    ⊎_elim
    (λ (lt : rank x < rank y). placed_first rank x y ys lt h.0)
    (λ (le : rank y ≤ rank x). placed-later rank x y ys le (put-places rank x ys h.1))
    (cases_lt (rank x) (rank y))

pub kept-ascends : {A : Type 0} (rank : A → ℕ) (p : A → Bool) (xs : List A)
    → Ascending rank xs → Ascending rank (filter p xs)
kept-ascends rank p [] h = h
kept-ascends rank p (y ∷ ys) h =
    let r = kept-ascends rank p ys h.1 in
    let low : Least rank y (filter p ys) = λ z i. h.0 z (in_kept p z ys i).1 in
    cond_both (p y) (y ∷ filter p ys) (filter p ys) (Ascending rank) (λ _. (low, r)) (λ _. r)

pub in-picked : {A : Type 0} (z : A) (bs : List Bool) (xs : List A) → In z (items_where_true bs xs) → In z xs
in-picked z [] xs h = absurd h
in-picked z (b ∷ bs) [] h = h
in-picked z (true ∷ bs) (y ∷ ys) h = ⊎_elim inl (λ k. inr (in-picked z bs ys k)) h
in-picked z (false ∷ bs) (y ∷ ys) h = inr (in-picked z bs ys h)

pub picked-ascends : {A : Type 0} (rank : A → ℕ) (bs : List Bool) (xs : List A)
    → Ascending rank xs → Ascending rank (items_where_true bs xs)
picked-ascends rank [] xs h = tt
picked-ascends rank (b ∷ bs) [] h = h
picked-ascends rank (true ∷ bs) (y ∷ ys) h = (λ z k. h.0 z (in-picked z bs ys k), picked-ascends rank bs ys h.1)
picked-ascends rank (false ∷ bs) (y ∷ ys) h = picked-ascends rank bs ys h.1

pub removed-ascends : {A : Type 0} (rank : A → ℕ) (xs : List A) (i : ℕ)
    → Ascending rank xs → Ascending rank (remove xs i)
removed-ascends rank [] zero h = h
removed-ascends rank [] (suc i) h = h
removed-ascends rank (y ∷ ys) zero h = h.1
removed-ascends rank (y ∷ ys) (suc i) h =
    (λ z k. h.0 z (in-removed z ys i k), removed-ascends rank ys i h.1)

pub first-foremost : {A : Type 0} (rank : A → ℕ) (xs : List A) → Ascending rank xs → Foremost rank (slice_get xs 0) xs
first-foremost rank [] h = refl
first-foremost rank (x ∷ xs) h = (inl refl, λ z. ⊎_elim (λ e. rw e (omega arith)) (h.0 z))

pub order-laws : {A : Type 0} (rank : A → ℕ) → OrderLaws rank
order-laws rank =
    record {
      empty = tt;
      inserting = put-ascends rank;
      placing = put-places rank;
      removing = removed-ascends rank;
      dropping = λ wanted xs. kept-ascends rank (λ x. not (wanted x)) xs;
      retaining = picked-ascends rank;
      first = first-foremost rank;
    }
