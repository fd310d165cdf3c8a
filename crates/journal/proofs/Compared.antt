-- Two records compared entry by entry, as calls give them.
use Rattle.std.proofs.Common.{◌≡◌, ℕ, Bool, true, false, List, [], ◌∷◌, ◌++◌, length, IfSome, Some, None, Decides, Option, sym, refl, ap, ◌∙◌, subst, arith, MatchOption}
use Rattle.std.specs.Iterator.{Yields, YieldsThen}
use Rattle.std.specs.List.{AllZip}
use Rattle.std.specs.Slice.Iter.{iter_rest}
use Rattle.std.proofs.lemmas.List.{append_cancel_left}
use Rattle.std.proofs.lemmas.Bool.{true≢false}
use Rattle.runs.specs.Equal.{Exact}
use Rattle.runs.specs.Runs.{Journal}
use Rattle.journal.specs.Told.{Kind, told_of, Numbered}
use Rattle.journal.specs.Entries.{ahead, Low, Gives, Begins}
use Rattle.journal.specs.declared.record.Entries.{Entries}

-- a no where P fails
refuted : (r : Bool) (P : Type 0) → r ≡ false → (P → ⊥) → Decides r P
refuted r P f n = (λ t. absurd (true≢false (sym t ∙ f)), λ p. absurd (n p))

module _ {A : Type 0} (k : Kind A) where
  -- what was read and what is still ahead
  so_far : (xs : List A) (s t : Entries A) → Yields (Gives k) s xs t → ahead k s ≡ xs ++ ahead k t
  so_far [] s t e = ap (ahead k) e
  so_far (x ∷ xs) s t h = h.1.0 ∙ ap (λ (l : List A). x ∷ l) (so_far xs h.0 t h.2)

  low-so-far : (xs : List A) (s t : Entries A) → Yields (Gives k) s xs t → Low k t → Low k s
  low-so-far [] s t e l = subst (Low k) (sym e) l
  low-so-far (x ∷ xs) s t h l = h.1.1 (low-so-far xs h.0 t h.2 l)

module _ {A : Type 0} (eq : A → A → Bool) (exact : Exact eq) where
  paired_same : (xs ys : List A) → AllZip (λ (x y : A). eq x y ≡ true) xs ys → xs ≡ ys
  paired_same [] [] h = refl
  paired_same [] (y ∷ ys) h = absurd h
  paired_same (x ∷ xs) [] h = absurd h
  paired_same (x ∷ xs) (y ∷ ys) h =
      let e : x ≡ y = (exact x y).0 h.0 in let es : xs ≡ ys = paired_same xs ys h.1 in cc

  -- what the comparison found where it stopped, and its answer
  abbrev Ended : Bool → Option A → Option A → Type 0
  Ended r o p = MatchOption o (MatchOption p (r ≡ true) (λ _. r ≡ false))
      (λ x. (r ≡ false) × IfSome p (λ y. eq x y ≡ false))

  module _ (k : Kind A) where
    -- behind a beginning that is the same
    ended : (r : Bool) (s t u v : Entries A) (o p : Option A) → Gives k s o u → Gives k t p v → Ended r o p →
        Decides r (ahead k s ≡ ahead k t) × (r ≡ true → Low k s × Low k t)
    ended r s t u v None None a b h = ((λ _. a.0 ∙ sym b.0, λ _. h), λ _. (a.1, b.1))
    ended r s t u v None (Some y) a b h = (
      refuted r _ h (λ e.
          let z : ◌≡◌ {A = List A} [] (y ∷ ahead k v) = sym a.0 ∙ e ∙ b.0 in omega (arith, ap length z)),
      λ t. absurd (true≢false (sym t ∙ h)),
    )
    ended r s t u v (Some x) None a b h = (
      refuted r _ h.0 (λ e.
          let z : ◌≡◌ {A = List A} (x ∷ ahead k u) [] = sym a.0 ∙ e ∙ b.0 in omega (arith, ap length z)),
      λ t. absurd (true≢false (sym t ∙ h.0)),
    )
    ended r s t u v (Some x) (Some y) a b h = (
      refuted r _ h.0 (λ e.
          let z : x ∷ ahead k u ≡ y ∷ ahead k v = sym a.0 ∙ e ∙ b.0 in let q : x ≡ y = cc in
          true≢false (sym ((exact x y).1 q) ∙ h.1)),
      λ t. absurd (true≢false (sym t ∙ h.0)),
    )

    pub compared : (r : Bool) (s t u v : Entries A) (xs ys : List A) (o p : Option A) →
        YieldsThen (Gives k) s xs o u → YieldsThen (Gives k) t ys p v →
        AllZip (λ (x y : A). eq x y ≡ true) xs ys → Ended r o p →
        Decides r (ahead k s ≡ ahead k t) × (r ≡ true → Low k s × Low k t)
    compared r s t u v xs ys o p f g q h =
        let a : ahead k s ≡ xs ++ ahead k f.0 = so_far k xs s f.0 f.1 in
        let b : ahead k t ≡ xs ++ ahead k g.0 = so_far k ys t g.0 g.1
        ∙ ap (λ (l : List A). l ++ ahead k g.0) (sym (paired_same xs ys q)) in
        let d = ended r f.0 g.0 u v o p f.2 g.2 h in (
          (
            λ e. a ∙ ap (λ (l : List A). xs ++ l) (d.0.0 e) ∙ sym b,
            λ e. d.0.1 (append_cancel_left xs _ _ (sym a ∙ e ∙ b)),
          ),
          λ e. (low-so-far k xs s f.0 f.1 (d.1 e).0, low-so-far k ys t g.0 g.1 (d.1 e).1),
        )

module _ {A : Type 0} (k : Kind A) (n : ℕ) where
  ahead-all : (h : Journal) (s : Entries A) → Begins n h s → ahead k s ≡ told_of k n h
  ahead-all h s f = ap (λ (m : ℕ). told_of k m (iter_rest s.steps)) f.number ∙ ap (told_of k n) f.steps

  pub from-beginnings : (r : Bool) (h j : Journal) (s t : Entries A) → Begins n h s → Begins n j t →
      Decides r (ahead k s ≡ ahead k t) × (r ≡ true → Low k s × Low k t) →
      Decides r (told_of k n h ≡ told_of k n j) × (r ≡ true → Numbered k h × Numbered k j)
  from-beginnings r h j s t f g d =
      let a = ahead-all h s f in let b = ahead-all j t g in (
        (λ e. sym a ∙ d.0.0 e ∙ b, λ e. d.0.1 (a ∙ e ∙ sym b)),
        λ e. (subst (Numbered k) f.steps (d.1 e).0, subst (Numbered k) g.steps (d.1 e).1),
      )
