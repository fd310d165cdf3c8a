-- What a search for the next entry of a number passes, and what it finds.
use Rattle.std.proofs.Common.{◌≡◌, ℕ, ◌<◌, List, [], ◌∷◌, ◌++◌, Some, None, Option, IfSome, IsTrue, is_some, slice_index_or, suc, MatchOption, nat_eq, refl, sym, subst, ap, inl, inr, ◌∙◌, arith}
use Rattle.std.specs.Fn.{Called, Mut}
use Rattle.std.specs.Iterator.{Yields, FindsMapped}
use Rattle.std.specs.Iterator.Runs.{Run, SomeRun, AllItemsGive}
use Rattle.std.specs.Option.{option_map, option_to_list}
use Rattle.std.proofs.iter.runs.Sources.{iter_runs}
use Rattle.std.specs.List.{All, FoldsTo, flat_map}
use Rattle.std.specs.Slice.Iter.{iter_rest, iter_steps}
use Rattle.std.proofs.lemmas.Bool.{true≢false}
use Rattle.std.specs.declared.slice.Iter.{Iter}
use denote.Ref.{Bor}
use Rattle.runs.specs.Lists.{Each, keep}
use Rattle.runs.specs.Runs.{Journal}
use Rattle.runs.specs.declared.records.Step.{Step}
use Rattle.runs.proofs.Lists.{keep_append, in-append}
use Rattle.journal.specs.Told.{Kind, told_of, Numbered}

module _ {A : Type 0} (k : Kind A) (n : ℕ) where
  -- a step tells r of the number n, and only entries with numbers below the bound
  pub record Tells (s : Step) (r : Option A) : Type 0 where
    pub told : keep (λ (e : A). nat_eq (k.number e) n) (k.told s) ≡ option_to_list r
    pub low : Each (λ (e : A). k.number e < k.bound) (k.told s)

  first-told : (s : Step) (r : Option A) (h : Journal) → Tells s r → told_of k n (s ∷ h) ≡ option_to_list r ++ told_of k n h
  first-told s r h t = rw (keep_append (λ (e : A). nat_eq (k.number e) n) (k.told s) (flat_map k.told h), t.told) refl

  first-low : (s : Step) (r : Option A) (h : Journal) → Tells s r → Numbered k h → Numbered k (s ∷ h)
  first-low s r h t l e m = elim (in-append (k.told s) (flat_map k.told h) e m) [
    | inl here ↦ t.low e here
    | inr behind ↦ l e behind
  ]

  module _ {F : Type 0} (g : Mut F (Bor Step × Unit {0}) (Option A)) (f : F)
      (tells : (x : Bor Step) (r : Option A) (h : F) → Called g f (x, tt) r h → (h ≡ f) × Tells x.now r) where
    -- the record of n from s on is xs and then that from t on
    abbrev Reads : List A → Iter Step → Iter Step → Type 0
    Reads xs s t = (told_of k n (iter_rest s) ≡ xs ++ told_of k n (iter_rest t))
        × (Numbered k (iter_rest t) → Numbered k (iter_rest s))

    passed : (xs : List (Bor Step)) (s t : Iter Step) (q : F) → Yields iter_steps s xs t →
        FoldsTo (λ p x r. Called g p (x, tt) None r) f xs q → (q ≡ f) × Reads [] s t
    passed [] s t q y c = (
      sym c,
      (ap (λ (i : Iter Step). told_of k n (iter_rest i)) y, subst (λ (i : Iter Step). Numbered k (iter_rest i)) (sym y)),
    )
    passed (x ∷ xs) s t q y c =
        let call = tells x None c.0 c.1 in
        let folds = subst (λ (p : F). FoldsTo (λ p' x' r. Called g p' (x', tt) None r) p xs q) call.0 c.2 in
        let rest = passed xs y.0 t q y.2 folds in
        let told = first-told x.now None (iter_rest y.0) call.1 in
        let low = first-low x.now None (iter_rest y.0) call.1 in (
          rest.0,
          (ap (told_of k n) y.1 ∙ told ∙ rest.1.0, λ l. subst (Numbered k) (sym y.1) (low (rest.1.1 l))),
        )

    -- where no step tells an entry of n, none is ahead
    none-told : (h : Journal) → All (λ s. Tells s None) h → (told_of k n h ≡ []) × Numbered k h
    none-told [] a = (refl, λ e m. absurd m)
    none-told (s ∷ h) a =
        let first = a 0 s (omega arith) in
        let rest = none-told h (λ i d l. a (suc i) d (omega arith)) in
        (first-told s None h first ∙ rest.0, first-low s None h first rest.1)

    at-place : (o : Option (Bor Step)) (st : Step) → option_map (λ y. y.now) o ≡ Some st →
        IfSome o (λ x. Called g f (x, tt) None f) → Tells st None
    at-place None st e c = absurd (true≢false (sym (ap is_some e)))
    at-place (Some x) st e c = let same : x.now ≡ st = cc in subst (λ z. Tells z None) same (tells x None f c).1

    everywhere : (s : Iter Step) → SomeRun iter_steps s (λ p. IsTrue p.whole × AllItemsGive p g f None) →
        All (λ st. Tells st None) (iter_rest s)
    everywhere s (p, from, (whole, gives)) i d l =
        let maps = iter_runs p p.seen in
        let rest : iter_rest p.from ≡ iter_rest s = ap (λ (t : Iter Step). iter_rest t) from in
        let long : i < p.len = rw (maps.1 whole, rest) l in
        at-place (p.at i) _ (maps.2 i d long ∙ ap (λ (h : Journal). Some (slice_index_or h i d)) rest)
        (gives (λ a r q c. (tells a.0 r q c).0) i)

    pub found : (s u : Iter Step) (r : Option A) (W : Run iter_steps → A → Type 0) → FindsMapped iter_steps g s f r u →
        SomeRun iter_steps s (λ p. MatchOption r (IsTrue p.whole × AllItemsGive p g f None) (W p)) →
        MatchOption r ((told_of k n (iter_rest s) ≡ []) × Numbered k (iter_rest s))
        (λ x. (told_of k n (iter_rest s) ≡ x ∷ told_of k n (iter_rest u)) × (Numbered k (iter_rest u) → Numbered k (iter_rest s)))
    found s u None W ran run = none-told (iter_rest s) (everywhere s run)
    found s u (Some e) W (xs, None, q, y, c, stop) run = absurd (true≢false (ap is_some stop))
    found s u (Some e) W (xs, Some x, q, y, c, stop) run =
        let before = passed xs s y.0 q y.1 c in
        let call = tells x (Some e) stop.0 (subst (λ (p : F). Called g p (x, tt) (Some e) stop.0) before.0 stop.1) in
        let told = first-told x.now (Some e) (iter_rest u) call.1 in
        let low = first-low x.now (Some e) (iter_rest u) call.1 in
        (before.1.0 ∙ ap (told_of k n) y.2 ∙ told, λ l. before.1.1 (subst (Numbered k) (sym y.2) (low l)))
