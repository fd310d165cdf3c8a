-- The fields of one record, read from its bytes.
use Rattle.std.proofs.Common.{◌≡◌, ℕ, ◌+◌, ◌<◌, ◌≤◌, ◌⊎◌, List, [], ◌∷◌, ◌++◌, length, get_or, take, ℤ, pos, ◌≢◌, sym, refl, ap, ◌∙◌, subst, inl, inr, ⊎_elim, arith, w32, SFits, to_z, of_z}
use Rattle.std.proofs.lemmas.List.{drop_more}
use Rattle.std.proofs.lemmas.Int.{to_z-of_z}
use Rattle.line.specs.Rules.{longest}
use Rattle.line.specs.declared.parts.Source.{Source}
use Rattle.line.specs.declared.parts.Source.TheVariants.{Sensor, Outlet}
use Rattle.image.specs.Bytes.{val, between}
use Rattle.image.specs.Drafts.{counts_at}
use Rattle.image.specs.Encoding.{source_bytes}
use Rattle.image.specs.Fields.{BadActorOf, BadChannelOf, BadSource, BadSink, source_sort}
use Rattle.image.specs.Reading.{Nowhere, Lowest, Placed}
use Rattle.image.specs.Refusals.{byte, BadActorField, BadChannelField}
use Rattle.image.specs.declared.counts.Counts.{Counts}
use Rattle.image.proofs.Judging.{Same, low-left, low-right}
use Rattle.image.proofs.Numbers.{between-add, bytes-at, byte_of, between-within}

-- only 0 has the bits of 0
zero_bits : (z : ℤ) → SFits w32 z → of_z w32 z ≡ 0 → z ≡ pos 0
zero_bits z f e = sym (to_z-of_z w32 z f) ∙ ap (to_z w32) e

pub actor-fields : (bs : List ℕ) (b : ℕ) (z : ℤ) (d : ℕ) → SFits w32 z
    → of_z w32 z ≡ val (between (b + 1) 4 bs) → d ≡ val (between (b + 5) 4 bs)
    → Same (BadActorOf (byte bs b) z d) (BadActorField bs b)
actor-fields bs b z d f p q = record {
  to = λ k. ⊎_elim inl (⊎_elim
      (λ x. inr (inl (x.0, x.1, λ e. x.2 (zero_bits z f (p ∙ e)))))
      (λ x. inr (inr (x.0, subst (λ (n : ℕ). longest < n) q x.1))));
  back = λ k. ⊎_elim inl (⊎_elim
      (λ x. inr (inl (x.0, x.1, λ e. x.2 (sym p ∙ ap (of_z w32) e))))
      (λ x. inr (inr (x.0, subst (λ (n : ℕ). longest < n) (sym q) x.1))));
}

pub nine-at : (bs : List ℕ) (b : ℕ) (x y : List ℕ) → b + 9 ≤ length bs
    → x ≡ between (b + 1) 4 bs → y ≡ between (b + 5) 4 bs → byte bs b ∷ (x ++ y) ≡ between b 9 bs
nine-at bs b x y h p q =
    let first : between b 9 bs ≡ byte bs b ∷ between (b + 1) 8 bs = ap (take 9) (drop_more bs b 0 (omega arith)) in
    let rest : between (b + 1) 8 bs ≡ between (b + 1) 4 bs ++ between (b + 5) 4 bs
    = between-add (b + 1) 4 4 (b + 5) bs (omega arith) in
    cc

-- the six places of a channel: three of its source, three of its sink
join : {A B C D : Type 0} → (A ⊎ (B ⊎ C)) ⊎ D → A ⊎ (B ⊎ (C ⊎ D))
join (inl (inl a)) = inl a
join (inl (inr (inl b))) = inr (inl b)
join (inl (inr (inr c))) = inr (inr (inl c))
join (inr d) = inr (inr (inr d))

part : {A B C D : Type 0} → A ⊎ (B ⊎ (C ⊎ D)) → (A ⊎ (B ⊎ C)) ⊎ D
part (inl a) = inl (inl a)
part (inr (inl b)) = inl (inr (inl b))
part (inr (inr (inl c))) = inl (inr (inr c))
part (inr (inr (inr d))) = inr d

pub sort-of : (x : Source) {a b c : ℕ} → source_bytes x ≡ a ∷ b ∷ c ∷ [] → source_sort x ≡ a
sort-of (Sensor s) e = ap (λ l. get_or l 0 0) e
sort-of (Outlet s o) e = ap (λ l. get_or l 0 0) e

pub length-source : (x : Source) → length (source_bytes x) ≡ 3
length-source (Sensor s) = refl
length-source (Outlet a o) = refl

pub bytes-six : (bs : List ℕ) (b : ℕ) → b + 6 ≤ length bs
    → byte bs b ∷ byte bs (b + 1) ∷ byte bs (b + 2) ∷ byte bs (b + 3) ∷ byte bs (b + 4) ∷ byte bs (b + 5) ∷ []
    ≡ between b 6 bs
bytes-six bs b h =
    let ps = b ∷ (b + 1) ∷ (b + 2) ∷ (b + 3) ∷ (b + 4) ∷ (b + 5) ∷ [] in
    bytes-at bs b ps (refl, (refl, (omega arith, (omega arith, (omega arith, (omega arith, tt)))))) h

pub six-at : (bs : List ℕ) (b : ℕ) (x y : List ℕ) → b + 6 ≤ length bs
    → x ≡ byte bs b ∷ byte bs (b + 1) ∷ byte bs (b + 2) ∷ []
    → y ≡ byte bs (b + 3) ∷ byte bs (b + 4) ∷ byte bs (b + 5) ∷ [] → x ++ y ≡ between b 6 bs
six-at bs b x y h p q = rw (p, q) (bytes-six bs b h)

module _ (bs : List ℕ) (b : ℕ) (n : Counts) (counted : n ≡ counts_at bs) where
  abbrev Src : Counts → ℕ → Type 0
  Src m k = BadSource m (byte bs b) (byte bs (b + 1)) (byte bs (b + 2)) k

  abbrev Snk : Counts → ℕ → ℕ → Type 0
  Snk m from k = BadSink m from (byte bs (b + 3)) (byte bs (b + 4)) (byte bs (b + 5)) k

  pub fields : (from : ℕ) → from ≡ byte bs b → Same (λ k. Src n k ⊎ Snk n from k) (BadChannelField bs b)
  fields from e =
      subst (λ (m : Counts). Same (λ k. Src m k ⊎ Snk m from k) (BadChannelField bs b)) (sym counted)
      (subst (λ (f : ℕ). Same (λ k. Src (counts_at bs) k ⊎ Snk (counts_at bs) f k) (BadChannelField bs b)) (sym e)
      record { to = λ k. join; back = λ k. part })

module _ (r : List ℕ) (n : Counts) where
  abbrev First : ℕ → Type 0
  First k = BadSource n (byte r 0) (byte r 1) (byte r 2) k

  abbrev Second : ℕ → ℕ → Type 0
  Second from k = BadSink n from (byte r 3) (byte r 4) (byte r 5) k

  late : (k : ℕ) → Second (byte r 0) k → 3 ≤ k
  late k = ⊎_elim (λ x. omega (arith, x.0)) (⊎_elim (λ x. omega (arith, x.0)) (λ x. omega (arith, x.0)))

  pub source-low : (j : ℕ) → j < 3 → Lowest First j → Lowest (BadChannelOf n r) j
  source-low j l low = low-left First (Second (byte r 0)) j low (λ k x. omega (arith, late k x))

  pub sink-low : (from j : ℕ) → from ≡ byte r 0 → Nowhere First → Lowest (Second from) j → Lowest (BadChannelOf n r) j
  sink-low from j e none low =
      low-right First (Second (byte r 0)) j none (subst (λ (f : ℕ). Lowest (Second f) j) e low)

  pub channel-clean : (from : ℕ) → from ≡ byte r 0 → Nowhere First → Nowhere (Second from) → Nowhere (BadChannelOf n r)
  channel-clean from e none none' k x =
      ⊎_elim (none k) (subst (λ (f : ℕ). Nowhere (Second f)) e none' k) x

-- what is said of a record's own bytes is said of them in the image

abbrev ActorBits : ℕ → ℕ → ℕ → ℕ → Type 0
ActorBits kind parameter delay j =
    ((j ≡ 0) × (6 < kind)) ⊎ (((j ≡ 1) × (kind ≤ 3) × (parameter ≢ 0)) ⊎ ((j ≡ 5) × (longest < delay)))

same_bits : {k l p q d e : ℕ} → k ≡ l → p ≡ q → d ≡ e → Same (ActorBits k p d) (ActorBits l q e)
same_bits kind parameter delay = rw (kind, parameter, delay) record { to = λ j x. x; back = λ j x. x }

pub actor-placed : (bs : List ℕ) (b : ℕ) → Same (Placed (λ r. BadActorField r 0) 9 bs b) (BadActorField bs b)
actor-placed bs b =
    let zero : b + 0 ≡ b = omega arith in
    same_bits (sym (byte_of bs b 9 0 (omega arith)) ∙ ap (byte bs) zero)
    (ap val (between-within b 1 4 4 bs)) (ap val (between-within b 5 4 0 bs))

pub channel-placed : (bs : List ℕ) (b : ℕ) (n : Counts) → n ≡ counts_at bs → b + 6 ≤ length bs
    → Same (Placed (BadChannelOf n) 6 bs b) (BadChannelField bs b)
channel-placed bs b n counted h =
    subst (λ (r : List ℕ). Same (BadChannelOf n r) (BadChannelField bs b)) (bytes-six bs b h)
    (fields bs b n counted (byte bs b) refl)
