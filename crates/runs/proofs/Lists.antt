-- Lemmas on lists: what stands in them, what they keep, how they are ordered.
use Rattle.std.proofs.Common.{◌≡◌, ℕ, suc, ◌+◌, ◌<◌, ◌≤◌, Bool, true, false, cond, eqb, ltb, ◌⊎◌, List, [], ◌∷◌, ◌++◌, map, reverse, length, get_or, sym, refl, ap, ◌∙◌, subst, inl, inr, append-nil, arith}
use mathlib.Core.List.{reverse-cons}
use Rattle.std.specs.List.{flat_map}
use Rattle.std.proofs.lemmas.List.{reverse-reverse}
use Rattle.std.proofs.lemmas.List.Elements.{filter-append}
use Rattle.std.proofs.lemmas.Bool.{both_ways, ltb-true, ltb-false, eqb-true, eq-eqb, cases_lt}
use Rattle.line.specs.Lists.{In}
use Rattle.runs.specs.Lists.{Each, Pairs, keep, put, put_all, Ordered, Without, here, later}

-- standing in a list ----------------------------------------------------------

pub each-cons : {A : Type 0} (P : A → Type 0) (y : A) (ys : List A) → P y → Each P ys → Each P (y ∷ ys)
each-cons P y ys p h x (inl e) = subst P (sym e) p
each-cons P y ys p h x (inr m) = h x m

pub in-append : {A : Type 0} (xs ys : List A) (x : A) → In x (xs ++ ys) → In x xs ⊎ In x ys
in-append [] ys x m = inr m
in-append (y ∷ xs) ys x (inl e) = inl (inl e)
in-append (y ∷ xs) ys x (inr m) = elim (in-append xs ys x m) [ inl l ↦ inl (inr l) | inr l ↦ inr l ]

pub append_left : {A : Type 0} (xs ys : List A) (x : A) → In x xs → In x (xs ++ ys)
append_left [] ys x m = absurd m
append_left (y ∷ xs) ys x (inl e) = inl e
append_left (y ∷ xs) ys x (inr m) = inr (append_left xs ys x m)

pub append_right : {A : Type 0} (xs ys : List A) (x : A) → In x ys → In x (xs ++ ys)
append_right [] ys x m = m
append_right (y ∷ xs) ys x m = inr (append_right xs ys x m)

pub in-flat_map : {X A : Type 0} (f : X → List A) (xs : List X) (y : A) → In y (flat_map f xs) →
    (x : X) × In x xs × In y (f x)
in-flat_map f [] y m = absurd m
in-flat_map f (x ∷ xs) y m = elim (in-append (f x) (flat_map f xs) y m) [
  | inl l ↦ (x, inl refl, l)
  | inr l ↦ let h = in-flat_map f xs y l in (h.0, inr h.1, h.2)
]

pub flat_map_in : {X A : Type 0} (f : X → List A) (xs : List X) (y : A) (x : X) → In x xs → In y (f x) →
    In y (flat_map f xs)
flat_map_in f [] y x m l = absurd m
flat_map_in {X} {A} f (z ∷ xs) y x (inl e) l = append_left (f z) (flat_map f xs) y (subst (λ (z : X). In y (f z)) e l)
flat_map_in f (z ∷ xs) y x (inr m) l = append_right (f z) (flat_map f xs) y (flat_map_in f xs y x m l)

pub in_map : {A B : Type 0} (f : A → B) (xs : List A) (y : B) → In y (map f xs) → (x : A) × In x xs × (y ≡ f x)
in_map f [] y m = absurd m
in_map f (x ∷ xs) y (inl e) = (x, inl refl, e)
in_map f (x ∷ xs) y (inr m) = let h = in_map f xs y m in (h.0, inr h.1, h.2)

pub map-in : {A B : Type 0} (f : A → B) (xs : List A) (x : A) → In x xs → In (f x) (map f xs)
map-in f [] x m = m
map-in f (y ∷ xs) x (inl e) = inl (ap f e)
map-in f (y ∷ xs) x (inr m) = inr (map-in f xs x m)

-- the number of an element
pub place_of : {A : Type 0} (d x : A) (xs : List A) → In x xs → (k : ℕ) × (k < length xs) × (get_or xs k d ≡ x)
place_of d x [] m = absurd m
place_of d x (y ∷ ys) (inl e) = (0, omega arith, sym e)
place_of d x (y ∷ ys) (inr m) = let h = place_of d x ys m in (suc h.0, omega (arith, h.1), h.2)

-- keep ------------------------------------------------------------------------

keep-step : {A : Type 0} (f : A → Bool) (y x : A) (ys : List A) → (In x (keep f ys) → In x ys × (f x ≡ true)) →
    (b : Bool) → f y ≡ b → In x (cond b (y ∷ keep f ys) (keep f ys)) → In x (y ∷ ys) × (f x ≡ true)
keep-step f y x ys ih true e (inl p) = (inl p, ap f p ∙ e)
keep-step f y x ys ih true e (inr m) = (inr (ih m).0, (ih m).1)
keep-step f y x ys ih false e m = (inr (ih m).0, (ih m).1)

pub in-keep : {A : Type 0} (f : A → Bool) (xs : List A) (x : A) → In x (keep f xs) → In x xs × (f x ≡ true)
in-keep f [] x m = absurd m
in-keep f (y ∷ ys) x m = keep-step f y x ys (in-keep f ys x) (f y) refl m

stay-step : {A : Type 0} (f : A → Bool) (y x : A) (ys : List A) → (In x ys → In x (keep f ys)) →
    (b : Bool) → f y ≡ b → f x ≡ true → In x (y ∷ ys) → In x (cond b (y ∷ keep f ys) (keep f ys))
stay-step f y x ys ih true e h (inl p) = inl p
stay-step f y x ys ih true e h (inr m) = inr (ih m)
stay-step f y x ys ih false e h (inl p) = absurd (both_ways (f y) e (ap f (sym p) ∙ h))
stay-step f y x ys ih false e h (inr m) = ih m

pub keep-in : {A : Type 0} (f : A → Bool) (xs : List A) (x : A) → f x ≡ true → In x xs → In x (keep f xs)
keep-in f [] x h m = m
keep-in f (y ∷ ys) x h m = stay-step f y x ys (keep-in f ys x h) (f y) refl h m

pub keep_append : {A : Type 0} (f : A → Bool) (xs ys : List A) → keep f (xs ++ ys) ≡ keep f xs ++ keep f ys
keep_append = filter-append

pub keep-reverse : {A : Type 0} (f : A → Bool) (xs : List A) → keep f (reverse xs) ≡ reverse (keep f xs)
keep-reverse f [] = refl
keep-reverse {A} f (x ∷ xs) =
    ap (keep f) (reverse-cons x xs) ∙ keep_append f (reverse xs) (x ∷ []) ∙ ap (λ (l : List A). l ++ keep f (x ∷ []))
    (keep-reverse f xs) ∙ last
  where
    last : reverse (keep f xs) ++ keep f (x ∷ []) ≡ reverse (keep f (x ∷ xs))
    last = elim (f x) as (λ b. reverse (keep f xs) ++ cond b (x ∷ []) [] ≡ reverse
        (cond b (x ∷ keep f xs) (keep f xs))) [
          | true ↦ sym (reverse-cons x (keep f xs))
          | false ↦ append-nil (reverse (keep f xs))
        ]

pub map-reverse : {A B : Type 0} (f : A → B) (xs : List A) → map f (reverse xs) ≡ reverse (map f xs)
map-reverse f [] = refl
map-reverse {A} {B} f (x ∷ xs) =
    ap (map f) (reverse-cons x xs) ∙ split (reverse xs) ∙ ap (λ (l : List B). l ++ (f x ∷ [])) (map-reverse f xs)
    ∙ sym (reverse-cons (f x) (map f xs))
  where
    split : (ys : List A) → map f (ys ++ (x ∷ [])) ≡ map f ys ++ (f x ∷ [])
    split [] = refl
    split (y ∷ ys) = ap (λ (l : List B). f y ∷ l) (split ys)

-- keep and map: a test of what f makes
pub keep-map : {A B : Type 0} (f : A → B) (t : B → Bool) (xs : List A) → keep t (map f xs) ≡ map f
    (keep (λ x. t (f x)) xs)
keep-map f t [] = refl
keep-map {A} {B} f t (x ∷ xs) = let h = keep-map f t xs in
    elim (t (f x)) as (λ b. cond b (f x ∷ keep t (map f xs)) (keep t (map f xs)) ≡ map f
    (cond b (x ∷ keep (λ x. t (f x)) xs) (keep (λ x. t (f x)) xs))) [
      | true ↦ ap (λ (l : List B). f x ∷ l) h
      | false ↦ h
    ]

-- pairs -----------------------------------------------------------------------

pairs-step : {A : Type 0} (R : A → A → Type 0) (f : A → Bool) (y : A) (ys : List A) → Each (R y) ys →
    Pairs R (keep f ys) →
    (b : Bool) → Pairs R (cond b (y ∷ keep f ys) (keep f ys))
pairs-step R f y ys h ih true = (λ x m. h x (in-keep f ys x m).0, ih)
pairs-step R f y ys h ih false = ih

pub pairs-keep : {A : Type 0} (R : A → A → Type 0) (f : A → Bool) (xs : List A) → Pairs R xs → Pairs R (keep f xs)
pairs-keep R f [] h = tt
pairs-keep R f (y ∷ ys) h = pairs-step R f y ys h.0 (pairs-keep R f ys h.1) (f y)

-- a relation that holds where P holds of both is one between all of which P holds
pub pairs-if : {A : Type 0} (R Q : A → A → Type 0) (P : A → Type 0) (xs : List A) →
    ((x y : A) → P x → P y → R x y → Q x y) →
    Each P xs → Pairs R xs → Pairs Q xs
pairs-if R Q P [] g p h = tt
pairs-if R Q P (x ∷ xs) g p h =
    (λ y m. g x y (p x (inl refl)) (p y (inr m)) (h.0 y m), pairs-if R Q P xs g (λ y m. p y (inr m)) h.1)

pub pairs-map : {A B : Type 0} (f : A → B) (R : B → B → Type 0) (xs : List A) → Pairs (λ (x y : A). R (f x) (f y))
    xs → Pairs R (map f xs)
pairs-map f R [] h = tt
pairs-map {A} {B} f R (x ∷ xs) h =
    (λ y m. let w = in_map f xs y m in subst (R (f x)) (sym w.2) (h.0 w.0 w.1), pairs-map f R xs h.1)

-- two elements of such a list are one, or one stands before the other
pub apart : {A : Type 0} (R : A → A → Type 0) (xs : List A) (x y : A) → Pairs R xs → In x xs → In y xs →
    (x ≡ y) ⊎ (R x y ⊎ R y x)
apart R [] x y h p q = absurd p
apart R (z ∷ zs) x y h (inl p) (inl q) = inl (p ∙ sym q)
apart R (z ∷ zs) x y h (inl p) (inr q) = inr (inl (rw p (h.0 y q)))
apart R (z ∷ zs) x y h (inr p) (inl q) = inr (inr (rw q (h.0 x p)))
apart R (z ∷ zs) x y h (inr p) (inr q) = apart R zs x y h.1 p q

pub pairs-append : {A : Type 0} (R : A → A → Type 0) (xs ys : List A) → Pairs R xs → Pairs R ys →
    Each (λ (x : A). Each (R x) ys) xs → Pairs R (xs ++ ys)
pairs-append R [] ys h k c = k
pairs-append R (x ∷ xs) ys h k c = (
  (λ z m. elim (in-append xs ys z m) [ inl l ↦ h.0 z l | inr l ↦ c x (inl refl) z l ]),
  pairs-append R xs ys h.1 k (λ z m. c z (inr m)),
)

-- the lists that are joined come from elements that differ
pub pairs-flat_map : {X A : Type 0} (R : A → A → Type 0) (D : X → X → Type 0) (f : X → List A) (xs : List X) →
    Pairs D xs → ((x : X) → Pairs R (f x)) →
    ((x y : X) → D x y → (a b : A) → In a (f x) → In b (f y) → R a b) → Pairs R (flat_map f xs)
pairs-flat_map R D f [] d h c = tt
pairs-flat_map R D f (x ∷ xs) d h c = pairs-append R (f x) (flat_map f xs) (h x) (pairs-flat_map R D f xs d.1 h c)
    (λ a m b l. let w = in-flat_map f xs b l in c x w.0 (d.0 w.0 w.1) a b m w.2)

pub in-reverse : {A : Type 0} (xs : List A) (x : A) → In x (reverse xs) → In x xs
in-reverse [] x m = m
in-reverse {A} (y ∷ ys) x m =
    elim (in-append (reverse ys) (y ∷ []) x (subst (In x) (reverse-cons y ys) m)) [
      | inl l ↦ inr (in-reverse ys x l)
      | inr (inl e) ↦ inl e
      | inr (inr l) ↦ absurd l
    ]

pub reverse-in : {A : Type 0} (xs : List A) (x : A) → In x xs → In x (reverse xs)
reverse-in xs x m = in-reverse (reverse xs) x (subst (In x) (sym (reverse-reverse xs)) m)

-- the other way round
pub pairs-reverse : {A : Type 0} (R : A → A → Type 0) (xs : List A) → Pairs (λ (x y : A). R y x) xs →
    Pairs R (reverse xs)
pairs-reverse R [] h = tt
pairs-reverse R (x ∷ xs) h =
    subst (Pairs R) (sym (reverse-cons x xs)) (pairs-append R (reverse xs) (x ∷ []) (pairs-reverse R xs h.1)
    ((λ y m. absurd m), tt)
    (λ y m. each-cons (R y) x [] (h.0 y (in-reverse xs y m)) (λ z l. absurd l)))

-- an ordered list is known by its elements
canon-tail : {A : Type 0} (R : A → A → Type 0) (asym : (x y : A) → R x y → R y x → ⊥) (x y : A) (xs ys : List A) →
    Each (R x) xs → x ≡ y →
    ((z : A) → In z (x ∷ xs) → In z (y ∷ ys)) → (z : A) → In z xs → In z ys
canon-tail R asym x y xs ys h e f z m = elim (f z (inr m)) [
  | inl p ↦ let q : R x x = rw (e ∙ sym p) (rw (e ∙ sym p) at (h z m)) in absurd (asym x x q q)
  | inr l ↦ l
]

pub canon : {A : Type 0} (R : A → A → Type 0) (asym : (x y : A) → R x y → R y x → ⊥) (xs ys : List A) → Pairs R xs →
    Pairs R ys →
    ((z : A) → In z xs → In z ys) → ((z : A) → In z ys → In z xs) → xs ≡ ys
canon R asym [] [] h k f g = refl
canon R asym [] (y ∷ ys) h k f g = absurd (g y (inl refl))
canon R asym (x ∷ xs) [] h k f g = absurd (f x (inl refl))
canon {A} R asym (x ∷ xs) (y ∷ ys) h k f g =
    let e : x ≡ y = same (f x (inl refl)) (g y (inl refl)) in
    let p : xs ≡ ys = canon R asym xs ys h.1 k.1 (canon-tail R asym x y xs ys h.0 e f)
    (canon-tail R asym y x ys xs k.0 (sym e) g) in cc
  where
    same : In x (y ∷ ys) → In y (x ∷ xs) → x ≡ y
    same (inl e) q = e
    same (inr m) (inl e) = sym e
    same (inr m) (inr l) = absurd (asym x y (h.0 y l) (k.0 x m))

-- a part of an ordered list that all else lies above is its end
pub suffix : {A : Type 0} (R : A → A → Type 0) (asym : (x y : A) → R x y → R y x → ⊥) (xs gs : List A) → Pairs R xs →
    Pairs R gs →
    Each (λ (g : A). In g xs) gs → Each (λ (x : A). In x gs ⊎ Each (R x) gs) xs → (rest : List A) × (xs ≡ rest ++ gs)
suffix R asym [] gs h k f c = ([], canon R asym [] gs h k (λ z m. absurd m) f)
suffix {A} R asym (x ∷ xs) gs h k f c = go (c x (inl refl)) (λ p. suffix R asym xs gs h.1 k p (λ z m. c z (inr m)))
  where
    go : In x gs ⊎ Each (R x) gs → (Each (λ (g : A). In g xs) gs → (rest : List A) × (xs ≡ rest ++ gs)) →
        (rest : List A) × (x ∷ xs ≡ rest ++ gs)
    go (inl m) ih = (
      [],
      canon R asym (x ∷ xs) gs h k
          (each-cons (λ (z : A). In z gs) x xs m
          (λ z l. elim (c z (inr l)) [ inl w ↦ w | inr w ↦ absurd (asym x z (h.0 z l) (w x m)) ])) f,
    )
    go (inr w) ih =
        let i = ih (λ g m. elim (f g m) [
          | inl e ↦ absurd (let z : R x x = rw e at (w g m) in asym x x z z)
          | inr l ↦ l
        ]) in
        (x ∷ i.0, ap (λ (l : List A). x ∷ l) i.1)

-- lists split by a number -----------------------------------------------------------

-- ordered within each number: the newest first
abbrev pub Falls : {A : Type 0} → (A → ℕ) → (A → ℕ) → List A → Type 0
Falls {A} f t xs = Pairs (λ (x y : A). f x ≡ f y → t y < t x) xs

pub falls-keep : {A : Type 0} (f t : A → ℕ) (xs : List A) → Falls f t xs → (a : ℕ) → Pairs (λ (x y : A). t y < t x)
    (keep (λ x. eqb (f x) a) xs)
falls-keep {A} f t xs h a = pairs-if (λ (x y : A). f x ≡ f y → t y < t x) _ (λ (x : A). f x ≡ a) _
    (λ x y p q w. w (p ∙ sym q))
    (λ x m. eqb-true (f x) a (in-keep (λ x. eqb (f x) a) xs x m).1) (pairs-keep (λ (x y : A). f x ≡ f y → t y < t x)
    (λ x. eqb (f x) a) xs h)

-- two of one number and one time are one
pub falls-one : {A : Type 0} (f t : A → ℕ) (xs : List A) → Falls f t xs → (x y : A) → In x xs → In y xs → f x ≡ f y →
    t x ≡ t y → x ≡ y
falls-one {A} f t xs h x y m l e q = elim (apart (λ (x y : A). f x ≡ f y → t y < t x) xs x y h m l) [
  | inl z ↦ z
  | inr (inl w) ↦ let v = w e in absurd (omega arith)
  | inr (inr w) ↦ let v = w (sym e) in absurd (omega arith)
]

-- such lists are equal, number by number, where they have the same elements
pub by_number : {A : Type 0} (f t : A → ℕ) (xs ys : List A) → Falls f t xs → Falls f t ys →
    ((x : A) → In x xs → In x ys) → ((x : A) → In x ys → In x xs) → (a : ℕ) → keep (λ x. eqb (f x) a) xs ≡ keep
    (λ x. eqb (f x) a) ys
by_number {A} f t xs ys h k p q a =
    canon (λ (x y : A). t y < t x) (λ x y l r. omega arith) _ _ (falls-keep f t xs h a) (falls-keep f t ys k a)
    (half xs ys p) (half ys xs q)
  where
    half : (ls ws : List A) → ((x : A) → In x ls → In x ws) → (x : A) → In x (keep (λ x. eqb (f x) a) ls) →
        In x (keep (λ x. eqb (f x) a) ws)
    half ls ws p x m = let h = in-keep (λ x. eqb (f x) a) ls x m in
        keep-in (λ x. eqb (f x) a) ws x h.1 (p x h.0)

-- and have the same elements where they are equal so
pub by_parts : {A : Type 0} (f : A → ℕ) (xs ys : List A) →
    ((a : ℕ) → keep (λ x. eqb (f x) a) xs ≡ keep (λ x. eqb (f x) a) ys) → (x : A) → In x xs → In x ys
by_parts {A} f xs ys h x m =
    let l : In x (keep (λ z. eqb (f z) (f x)) ys) =
    subst (λ (l : List A). In x l) (h (f x)) (keep-in (λ z. eqb (f z) (f x)) xs x (eq-eqb (f x) (f x) refl) m) in
    (in-keep (λ z. eqb (f z) (f x)) ys x l).0

-- falling lists that hold each other's elements up to their own greatest: one is the end of the other
one-ends : {A : Type 0} (t : A → ℕ) (xs ys : List A) → Pairs (λ (x y : A). t y < t x) xs →
    Pairs (λ (x y : A). t y < t x) ys → (x y : A) →
    In x xs → Each (λ (z : A). t z ≤ t x) xs → In y ys → t x ≤ t y →
    ((x y : A) → In x xs → In y ys → t x ≤ t y → In x ys) → ((y x : A) → In y ys → In x xs → t y ≤ t x → In y xs) →
    (rest : List A) × (ys ≡ rest ++ xs)
one-ends {A} t xs ys h k x y m top n l f g = suffix (λ (x y : A). t y < t x) (λ x y p q. omega arith) ys xs k h
    (λ z w. f z y w n (let v = top z w in omega arith))
    (λ z w. elim (cases_lt (t x) (t z)) [
      | inl v ↦ inr (λ u q. let j = top u q in omega arith)
      | inr v ↦ inl (g z x w m v)
    ])

pub one_end : {A : Type 0} (t : A → ℕ) (xs ys : List A) → Pairs (λ (x y : A). t y < t x) xs →
    Pairs (λ (x y : A). t y < t x) ys →
    ((x y : A) → In x xs → In y ys → t x ≤ t y → In x ys) → ((y x : A) → In y ys → In x xs → t y ≤ t x → In y xs) →
    ((rest : List A) × (ys ≡ rest ++ xs)) ⊎ ((rest : List A) × (xs ≡ rest ++ ys))
one_end t [] ys h k f g = inl (ys, sym (append-nil ys))
one_end t (x ∷ xs) [] h k f g = inr (x ∷ xs, sym (append-nil (x ∷ xs)))
one_end {A} t (x ∷ xs) (y ∷ ys) h k f g = elim (cases_lt (t y) (t x)) [
  | inl l ↦ inr (one-ends t (y ∷ ys) (x ∷ xs) k h y x (inl refl) (head y ys k.0) (inl refl) (omega arith) g f)
  | inr l ↦ inl (one-ends t (x ∷ xs) (y ∷ ys) h k x y (inl refl) (head x xs h.0) (inl refl) l f g)
]
  where
    head : (z : A) (zs : List A) → Each (λ (w : A). t w < t z) zs → Each (λ (w : A). t w ≤ t z) (z ∷ zs)
    head z zs h = each-cons (λ (w : A). t w ≤ t z) z zs (omega arith) (λ w m. let q = h w m in omega arith)

-- put -------------------------------------------------------------------------

pub in-put : {A : Type 0} (f : A → ℕ) (x : A) (ys : List A) (z : A) → In z (put f x ys) → In z (x ∷ ys)
in-put f x [] z m = m
in-put f x (y ∷ ys) z m = go (ltb (f x) (f y)) (in-put f x ys z) m
  where
    go : (b : Bool) → (In z (put f x ys) → In z (x ∷ ys)) → In z (cond b (x ∷ (y ∷ ys)) (y ∷ put f x ys)) →
        In z (x ∷ (y ∷ ys))
    go true ih m = m
    go false ih (inl e) = inr (inl e)
    go false ih (inr m) = elim (ih m) [ inl e ↦ inl e | inr l ↦ inr (inr l) ]

pub put_in : {A : Type 0} (f : A → ℕ) (x : A) (ys : List A) (z : A) → In z (x ∷ ys) → In z (put f x ys)
put_in f x [] z m = m
put_in f x (y ∷ ys) z m = go (ltb (f x) (f y)) (put_in f x ys z) m
  where
    go : (b : Bool) → (In z (x ∷ ys) → In z (put f x ys)) → In z (x ∷ (y ∷ ys)) →
        In z (cond b (x ∷ (y ∷ ys)) (y ∷ put f x ys))
    go true ih m = m
    go false ih (inl e) = inr (ih (inl e))
    go false ih (inr (inl e)) = inl e
    go false ih (inr (inr m)) = inr (ih (inr m))

pub length-put : {A : Type 0} (f : A → ℕ) (x : A) (ys : List A) → length (put f x ys) ≡ suc (length ys)
length-put f x [] = refl
length-put f x (y ∷ ys) = let h = length-put f x ys in
    elim (ltb (f x) (f y)) as (λ b. length (cond b (x ∷ (y ∷ ys)) (y ∷ put f x ys)) ≡ suc (length (y ∷ ys)))
    [ true ↦ refl | false ↦ ap suc h ]

pairs-put : {A : Type 0} (R : A → A → Type 0) (back : (x y : A) → R x y → R y x) (f : A → ℕ) (x : A) (ys : List A) →
    Each (R x) ys → Pairs R ys → Pairs R (put f x ys)
pairs-put R back f x [] h k = (λ y m. absurd m, tt)
pairs-put R back f x (y ∷ ys) h k =
    elim (ltb (f x) (f y)) as (λ b. Pairs R (cond b (x ∷ (y ∷ ys)) (y ∷ put f x ys))) [
      | true ↦ (h, k)
      | false ↦ (
        (λ z m. each-cons (R y) x ys (back x y (h y (inl refl))) k.0 z (in-put f x ys z m)),
        pairs-put R back f x ys (λ z m. h z (inr m)) k.1,
      )
    ]

ordered-put : {A : Type 0} (f : A → ℕ) (x : A) (ys : List A) → Ordered f ys → Ordered f (put f x ys)
ordered-put f x [] k = (λ y m. absurd m, tt)
ordered-put {A} f x (y ∷ ys) k = go (ltb (f x) (f y)) refl (ordered-put f x ys k.1)
  where
    go : (b : Bool) → ltb (f x) (f y) ≡ b → Ordered f (put f x ys) →
        Ordered f (cond b (x ∷ (y ∷ ys)) (y ∷ put f x ys))
    go true e ih = (
      each-cons (λ (z : A). f x ≤ f z) y ys (let l = ltb-true (f x) (f y) e in omega arith)
          (λ z m. let l = ltb-true (f x) (f y) e in let w = k.0 z m in omega arith),
      k,
    )
    go false e ih = (
      (λ z m. each-cons (λ (z : A). f y ≤ f z) x ys (ltb-false (f x) (f y) e) k.0 z
          (in-put f x ys z m)),
      ih,
    )

pub in-put-all : {A : Type 0} (f : A → ℕ) (xs ys : List A) (z : A) → In z (put_all f xs ys) → In z xs ⊎ In z ys
in-put-all f [] ys z m = inr m
in-put-all f (x ∷ xs) ys z m = elim (in-put-all f xs (put f x ys) z m) [
  | inl l ↦ inl (inr l)
  | inr l ↦ elim (in-put f x ys z l) [ inl e ↦ inl (inl e) | inr w ↦ inr w ]
]

pub put-all-in : {A : Type 0} (f : A → ℕ) (xs ys : List A) (z : A) → In z xs ⊎ In z ys → In z (put_all f xs ys)
put-all-in f [] ys z (inl m) = absurd m
put-all-in f [] ys z (inr m) = m
put-all-in f (x ∷ xs) ys z (inl (inl e)) = put-all-in f xs (put f x ys) z (inr (put_in f x ys z (inl e)))
put-all-in f (x ∷ xs) ys z (inl (inr m)) = put-all-in f xs (put f x ys) z (inl m)
put-all-in f (x ∷ xs) ys z (inr m) = put-all-in f xs (put f x ys) z (inr (put_in f x ys z (inr m)))

pub each-put-all : {A : Type 0} (P : A → Type 0) (f : A → ℕ) (xs ys : List A) → Each P xs → Each P ys →
    Each P (put_all f xs ys)
each-put-all P f xs ys h k z m = elim (in-put-all f xs ys z m) [ inl l ↦ h z l | inr l ↦ k z l ]

pub length-put-all : {A : Type 0} (f : A → ℕ) (xs ys : List A) → length (put_all f xs ys) ≡ length xs + length ys
length-put-all f [] ys = omega arith
length-put-all f (x ∷ xs) ys = let h = length-put-all f xs (put f x ys) in let k = length-put f x ys in omega arith

pub ordered-put-all : {A : Type 0} (f : A → ℕ) (xs ys : List A) → Ordered f ys → Ordered f (put_all f xs ys)
ordered-put-all f [] ys k = k
ordered-put-all f (x ∷ xs) ys k = ordered-put-all f xs (put f x ys) (ordered-put f x ys k)

-- a relation that holds both ways round
pub pairs-put-all : {A : Type 0} (R : A → A → Type 0) (back : (x y : A) → R x y → R y x) (f : A → ℕ)
    (xs ys : List A) → Pairs R xs →
    Each (λ (x : A). Each (R x) ys) xs → Pairs R ys → Pairs R (put_all f xs ys)
pairs-put-all R back f [] ys h k l = l
pairs-put-all {A} R back f (x ∷ xs) ys h k l = pairs-put-all R back f xs (put f x ys) h.1
    (λ z m y w. each-cons (R z) x ys (back x z (h.0 z m)) (k z (inr m)) y (in-put f x ys y w))
    (pairs-put R back f x ys (k x (inl refl)) l)

-- taking one out ----------------------------------------------------------------

pub out-in : {A : Type 0} {x : A} {xs ys : List A} → Without x xs ys → (z : A) → In z xs → (z ≡ x) ⊎ In z ys
out-in here z m = m
out-in (later h) z (inl e) = inr (inl e)
out-in (later h) z (inr m) = elim (out-in h z m) [ inl e ↦ inl e | inr l ↦ inr (inr l) ]

pub in-out : {A : Type 0} {x : A} {xs ys : List A} → Without x xs ys → (z : A) → In z ys → In z xs
in-out here z m = inr m
in-out (later h) z (inl e) = inl e
in-out (later h) z (inr m) = inr (in-out h z m)

pub out-there : {A : Type 0} {x : A} {xs ys : List A} → Without x xs ys → In x xs
out-there here = inl refl
out-there (later h) = inr (out-there h)

pub out-pairs : {A : Type 0} (R : A → A → Type 0) {x : A} {xs ys : List A} → Without x xs ys → Pairs R xs → Pairs R ys
out-pairs R here h = h.1
out-pairs R (later k) h = (λ z m. h.0 z (in-out k z m), out-pairs R k h.1)

pub out-length : {A : Type 0} {x : A} {xs ys : List A} → Without x xs ys → length xs ≡ suc (length ys)
out-length here = refl
out-length (later h) = ap suc (out-length h)

-- the one taken out stands in a relation, that holds both ways round, to all that are left
pub out-each : {A : Type 0} (R : A → A → Type 0) (back : (x y : A) → R x y → R y x) {x : A} {xs ys : List A} →
    Without x xs ys → Pairs R xs → Each (R x) ys
out-each R back here h z m = h.0 z m
out-each R back {x} (later {y} k) h z (inl e) = rw e (back y x (h.0 x (out-there k)))
out-each R back (later k) h z (inr m) = out-each R back k h.1 z m
