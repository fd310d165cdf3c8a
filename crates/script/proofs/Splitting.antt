-- The first space of a text.
use Rattle.std.proofs.Common.{◌≡◌, ℕ, List, [], ◌∷◌, ◌++◌, ◌+◌, take, drop, length, ℤ, Some, None, Option, codes, sym, refl, ap, ◌∙◌, arith, rules}
use Rattle.std.specs.List.{AllByRecursion}
use Rattle.std.proofs.ByRecursion.{All-weaker}
use Rattle.std.proofs.lemmas.List.{take-append-drop, append_assoc}
use Rattle.std.proofs.Math.Seq.{drop-append-add}
use Rattle.script.specs.Decimals.{Digit, Number, Signed}
use Rattle.runs.specs.declared.records.Call.{Call}
use Rattle.runs.specs.declared.records.Call.TheVariants.{Arrive, Advance, Pick, Start, Finish, Deliver, Report}
use Rattle.runs.specs.declared.records.Call.TheVariants.{Close}
use Rattle.script.specs.Parts.{NoSpace, Split, Reads, WithArguments}
use Rattle.script.specs.Spelling.{Arrival, Spells}

pub no-spaces : {ds : List ℕ} {n : ℕ} → Number ds n → AllByRecursion NoSpace ds
no-spaces {ds} is = All-weaker Digit NoSpace (λ c d e. omega arith) ds is.decimal.digits

-- a text without a space has none anywhere
pub spaceless : (s r : List ℕ) → AllByRecursion NoSpace (s ++ (32 ∷ r)) → ⊥
spaceless [] r none = none.0 refl
spaceless (c ∷ s) r none = spaceless s r none.1

-- two fronts without a space before the same space
same-split : (a s b r : List ℕ) → AllByRecursion NoSpace a → AllByRecursion NoSpace s → a ++ (32 ∷ b) ≡ s ++ (32 ∷ r) → (a ≡ s) × (b ≡ r)
same-split [] [] b r p q e = (refl, cc)
same-split [] (c ∷ s) b r p q e = let same : c ≡ 32 = cc in absurd (q.0 same)
same-split (c ∷ a) [] b r p q e = let same : c ≡ 32 = cc in absurd (p.0 same)
same-split (c ∷ a) (d ∷ s) b r p q e =
    let rest : a ++ (32 ∷ b) ≡ s ++ (32 ∷ r) = cc in
    let step = same-split a s b r p.1 q.1 rest in
    let front : c ≡ d = cc in
    (cc step.0, step.1)

-- a word and what stands behind it spell a call with arguments, where there is a space
module _ (bs w a : List ℕ) (cut : Split bs w a) where
  -- the word of a text that begins with v and a space
  word-is : (v x : List ℕ) → AllByRecursion NoSpace v → bs ≡ v ++ (32 ∷ x) → (w ≡ v) × (a ≡ x)
  word-is v x none e = same-split w v a x cut.first none (sym cut.whole ∙ e)

  no-word : AllByRecursion NoSpace bs → ⊥
  no-word none = spaceless w a (rw cut.whole at none)

  parted : (c : Call) → Spells bs c → WithArguments w a c
  parted (Advance n) h =
      let p = word-is (codes "advance") h.0 (search rules) h.1 in
      (p.0, rw p.1 h.2)
  parted (Arrive i j z) h =
      let p = word-is (codes "arrive") h.0 (search rules) h.1 in
      (p.0, rw p.1 h.2)
  parted (Start n) h =
      let p = word-is (codes "start") h.0 (search rules) h.1 in
      (p.0, rw p.1 h.2)
  parted Pick h = no-word (rw h (search rules))
  parted Finish h = no-word (rw h (search rules))
  parted Deliver h = no-word (rw h (search rules))
  parted Report h = no-word (rw h (search rules))
  parted Close h = no-word (rw h (search rules))

  joined : (c : Call) → WithArguments w a c → Spells bs c
  joined (Advance n) h = (a, cut.whole ∙ ap (λ v. v ++ (32 ∷ a)) h.0, h.1)
  joined (Arrive i j z) h = (a, cut.whole ∙ ap (λ v. v ++ (32 ∷ a)) h.0, h.1)
  joined (Start n) h = (a, cut.whole ∙ ap (λ v. v ++ (32 ∷ a)) h.0, h.1)
  joined Pick h = absurd h
  joined Finish h = absurd h
  joined Deliver h = absurd h
  joined Report h = absurd h
  joined Close h = absurd h

  pub with-arguments : (r : Option Call) → Reads (WithArguments w a) r → Reads (Spells bs) r
  with-arguments None none = λ c h. none c (parted c h)
  with-arguments (Some c) h = joined c h

-- a space in front of a text is its first
pub longer : (bs w r : List ℕ) (n : ℕ) → Split (take n bs) w r → Split bs w (drop (length w + 1) bs)
longer bs w r n cut =
    let whole : bs ≡ w ++ (32 ∷ (r ++ drop n bs)) =
    sym (take-append-drop n bs) ∙ ap (λ xs. xs ++ drop n bs) cut.whole ∙ append_assoc w (32 ∷ r) (drop n bs) in
    record { whole = whole ∙ ap (λ xs. w ++ (32 ∷ xs)) (sym (ap (drop (length w + 1)) whole ∙ drop-append-add w (32 ∷ (r ++ drop n bs)) 1)); first = cut.first }

-- the word arrive tells that the call is an arrival
pub arrival-is : (bs : List ℕ) (c : Call) → WithArguments (codes "arrive") bs c →
    (i : ℕ) × (j : ℕ) × (z : ℤ) × (c ≡ Arrive i j z) × Arrival bs i j z
arrival-is bs c h = grind arith

module _ (bs : List ℕ) (i j : ℕ) (z : ℤ) (h : Arrival bs i j z) where
  pub no-first : AllByRecursion NoSpace bs → ⊥
  no-first none = spaceless h.s (h.t ++ (32 ∷ h.v)) (rw h.apart at none)

  module _ (a b : List ℕ) (cut : Split bs a b) where
    here : (a ≡ h.s) × (b ≡ h.t ++ (32 ∷ h.v))
    here = same-split a h.s b (h.t ++ (32 ∷ h.v)) cut.first (no-spaces h.first) (sym cut.whole ∙ h.apart)

    pub no_second : AllByRecursion NoSpace b → ⊥
    no_second none = spaceless h.t h.v (rw here.1 at none)

    pub sensor-is : Number a i
    sensor-is = rw here.0 h.first

    module _ (t v : List ℕ) (again : Split b t v) where
      there : (t ≡ h.t) × (v ≡ h.v)
      there = same-split t h.t v h.v again.first (no-spaces h.second) (sym again.whole ∙ here.1)

      pub timestamp-is : Number t j
      timestamp-is = rw there.0 h.second

      pub value-is : Signed v z
      value-is = rw there.1 h.third
