-- Lists in the order of a rank.
use Rattle.std.specs.Prelude.{◌≡◌, ℕ, ◌<◌, ◌≤◌, Bool, cond, ◌⊎◌, List, [], ◌∷◌, ◌++◌, Some, None, Option, nat_lt}
use Rattle.std.specs.List.{items_where_true, remove, slice_get}
use Rattle.bounded.specs.Held.{unwanted}

-- x before the first record of greater rank, so behind its equals
abbrev pub put : {A : Type 0} → (A → ℕ) → A → List A → List A
put rank x [] = x ∷ []
put rank x (y ∷ ys) = cond (nat_lt (rank x) (rank y)) (x ∷ y ∷ ys) (y ∷ put rank x ys)

-- x is one of the records
abbrev pub In : {A : Type 0} → A → List A → Type 0
In x [] = ⊥
In x (y ∷ ys) = (x ≡ y) ⊎ In x ys

-- none of the records has a lesser rank than x
abbrev pub Least : {A : Type 0} → (A → ℕ) → A → List A → Type 0
Least {A} rank x ys = (y : A) → In y ys → rank x ≤ rank y

-- each record's rank is at most the rank of every record behind it
abbrev pub Ascending : {A : Type 0} → (A → ℕ) → List A → Type 0
Ascending rank [] = Unit {0}
Ascending rank (x ∷ xs) = Least rank x xs × Ascending rank xs

-- a change keeps a list in order
abbrev pub StaysOrdered : {A : Type 0} → (A → ℕ) → List A → List A → Type 0
StaysOrdered rank before after = Ascending rank before → Ascending rank after

-- one of the records that has the least rank; none where there is no record
abbrev pub Foremost : {A : Type 0} → (A → ℕ) → Option A → List A → Type 0
Foremost rank None xs = xs ≡ []
Foremost rank (Some x) xs = In x xs × Least rank x xs

-- x came in behind every record of no greater rank and before every record of greater rank
pub record Placed {A : Type 0} (rank : A → ℕ) (x : A) (before after : List A) : Type 0 where
  pub front : List A
  pub back : List A
  pub was : before ≡ front ++ back
  pub is : after ≡ front ++ x ∷ back
  pub none_greater : (y : A) → In y front → rank y ≤ rank x
  pub all_greater : (y : A) → In y back → rank x < rank y

-- the order from the empty list on: each call keeps it, `insert` puts a record where it belongs,
-- and the first record is one of least rank
pub record OrderLaws {A : Type 0} (rank : A → ℕ) : Type 0 where
  pub empty : Ascending rank []
  pub inserting : (x : A) (xs : List A) → StaysOrdered rank xs (put rank x xs)
  pub placing : (x : A) (xs : List A) → Ascending rank xs → Placed rank x xs (put rank x xs)
  pub removing : (xs : List A) (i : ℕ) → StaysOrdered rank xs (remove xs i)
  pub dropping : (wanted : A → Bool) (xs : List A) → StaysOrdered rank xs (unwanted wanted xs)
  pub retaining : (answers : List Bool) (xs : List A) → StaysOrdered rank xs (items_where_true answers xs)
  pub first : (xs : List A) → Ascending rank xs → Foremost rank (slice_get xs 0) xs
