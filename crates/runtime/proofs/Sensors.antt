-- The table of sensors.
use Rattle.std.proofs.Common.{◌≡◌, ℕ, zero, suc, ◌<◌, Bool, true, false, cond, eqb, List, [], ◌∷◌, length, get_or, set, Some, unwrap_or, sym, refl, ap, ◌∙◌, inl, inr, get_or-set_other, get_or-set_same}
use Rattle.std.specs.List.{slice_get}
use Rattle.std.proofs.lemmas.Bool.{eq-eqb, ne_eqb, cases_eq}
use Rattle.runs.specs.Lists.{changed}
use Rattle.runtime.specs.declared.rows.SensorRow.{SensorRow}
use Rattle.runtime.specs.Meant.{no_sensor, lateness_at, last_at}

pub slice_get-or : (xs : List ℕ) (k : ℕ) → unwrap_or (slice_get xs k) 0 ≡ get_or xs k 0
slice_get-or [] k = refl
slice_get-or (x ∷ xs) zero = refl
slice_get-or (x ∷ xs) (suc k) = slice_get-or xs k

-- a table with another row at x
pub set-row : (xs : List SensorRow) (x : ℕ) (r : SensorRow) (k : ℕ) → x < length xs →
    get_or (set xs x r) k no_sensor ≡ cond (eqb k x) r (get_or xs k no_sensor)
set-row xs x r k h = elim (cases_eq k x) [
  | inl e ↦ rw (eq-eqb k x e) (rw e (get_or-set_same xs x r no_sensor h))
  | inr e ↦ rw (ne_eqb k x e) (get_or-set_other xs x k r no_sensor e)
]

module _ (xs : List SensorRow) (x : ℕ) (r : SensorRow) (h : x < length xs) where
  pub set-lateness : (k : ℕ) → lateness_at (set xs x r) k ≡ changed (lateness_at xs) x r.lateness k
  set-lateness k = ap (λ (r : SensorRow). r.lateness) (set-row xs x r k h) ∙ split (eqb k x)
    where
      split : (b : Bool) → (cond b r (get_or xs k no_sensor)).lateness ≡ cond b r.lateness (lateness_at xs k)
      split b = elim b as (λ b. (cond b r (get_or xs k no_sensor)).lateness ≡ cond b r.lateness (lateness_at xs k)) [ true ↦ refl | false ↦ refl ]

  pub set_last : (k : ℕ) → last_at (set xs x r) k ≡ changed (last_at xs) x r.last k
  set_last k = ap (λ (r : SensorRow). r.last) (set-row xs x r k h) ∙ split (eqb k x)
    where
      split : (b : Bool) → (cond b r (get_or xs k no_sensor)).last ≡ cond b r.last (last_at xs k)
      split b = elim b as (λ b. (cond b r (get_or xs k no_sensor)).last ≡ cond b r.last (last_at xs k)) [ true ↦ refl | false ↦ refl ]

-- the lateness of a sensor stays when its last timestamp changes
pub same-lateness : (xs : List SensorRow) (x t : ℕ) → x < length xs → (k : ℕ) →
    lateness_at (set xs x (record { lateness = lateness_at xs x; last = Some t })) k ≡ lateness_at xs k
same-lateness xs x t h k = set-lateness xs x _ h k ∙ elim (cases_eq k x) [
  | inl e ↦ rw (eq-eqb k x e) (ap (lateness_at xs) (sym e))
  | inr e ↦ rw (ne_eqb k x e) refl
]
